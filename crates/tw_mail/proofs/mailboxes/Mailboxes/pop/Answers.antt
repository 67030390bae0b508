use Rattle.std.proofs.Common.{◌∙◌, ◌-◌, ◌<◌, ap, arith, length, take, List}
use Rattle.std.specs.Prelude.{Option, ℕ, slice_set}
use Rattle.std.proofs.lemmas.List.{length-map}
use Rattle.tw_msgs.specs.declared.message.Item.{Item}
use Rattle.tw_mail.specs.Mail.{Held, Mail}
use Rattle.tw_theory.specs.Executive.{mail_of}
use Rattle.tw_mail.proofs.Boxes.{changed, seen}
use Rattle.tw_mail.proofs.mailboxes.Mailboxes.pop.Goals as goal

pub returns : goal.returns
returns c =
    let near : c.args.to < length c.self.inside.boxes.items = omega (arith, c.requires.known, ap (λ (m : Mail). length m.boxes) c.self.view_is, length-map c.self.inside.boxes.items (λ (x : Held). x.items)) in
    let f : List Item → List Item = λ l. take (length l - 1) l in
    let free = ap (λ (m : Mail). m.taken) c.self.view_is ∙ c.requires.free in
    changed f c.self.inside.boxes.items c.self.inside.taken c.self.inside.taken c.args.self.now c.args.to c.index_mut.result.now c.pop.new.self c.self.view_is near c.index_mut.ensures.value c.pop.ensures
    ∙ ap (λ (t : Option (ℕ × ℕ)). seen (slice_set c.args.self.now.boxes c.args.to (f (mail_of c.args.self.now.boxes c.args.to))) t) free
