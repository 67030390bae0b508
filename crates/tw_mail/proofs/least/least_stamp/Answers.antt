use Rattle.std.proofs.Common.{rules, ◌≡◌, min, ◌∙◌}
use Rattle.std.specs.Prelude.{fold}
use Rattle.tw_vtime.specs.Stamps.{never}
use Rattle.tw_msgs.specs.declared.message.Item.{Item}
use Rattle.tw_mail.proofs.Leasts.{least_stamp_chain}
use Rattle.tw_mail.proofs.least.least_stamp.Goals as goal

pub returns : goal.returns
returns c =
    let is : c.fold.result ≡ fold (λ a (i : Item). min a i.message.stamp) never c.args.items.now = search rules in
    is ∙ least_stamp_chain c.args.items.now
