-- Each field's test answers true exactly at equal fields.
use Rattle.tw_msgs.proofs.Equality.{same_record-Decides}
use Rattle.tw_msgs.proofs.record.equality_law.Goals as goal

pub returns : goal.returns
returns c = same_record-Decides
