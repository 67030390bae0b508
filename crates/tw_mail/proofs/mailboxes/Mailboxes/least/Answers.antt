use Rattle.std.proofs.Common.{rules, ◌≡◌, min, ap, ◌∙◌}
use Rattle.std.specs.Prelude.{fold}
use Rattle.tw_vtime.specs.Stamps.{never}
use Rattle.tw_mail.specs.Mail.{Held, Mail}
use Rattle.tw_theory.specs.Bundles.{least_stamp}
use Rattle.tw_theory.specs.Executive.{least_mail}
use Rattle.tw_mail.proofs.Leasts.{least_boxes_chain}
use Rattle.tw_mail.proofs.mailboxes.Mailboxes.least.Goals as goal

pub returns : goal.returns
returns c =
    let is : c.fold.result ≡ fold (λ a (b : Held). min a (least_stamp b.items)) never c.self.inside.boxes.items = search rules in
    is ∙ least_boxes_chain c.self.inside.boxes.items ∙ ap (λ (m : Mail). least_mail m.boxes) c.self.view_is
