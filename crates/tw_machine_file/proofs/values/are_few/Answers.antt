use Rattle.std.proofs.Common.{ap, sym}
use Rattle.std.specs.Prelude.{nat_le}
use Rattle.serde_json.proofs.Views.{items_len-items_view}
use Rattle.tw_machine_file.proofs.values.are_few.Goals as goal

pub returns : goal.returns
returns c = ap (λ n. nat_le n c.args.most) (sym (items_len-items_view c.args.values.now))
