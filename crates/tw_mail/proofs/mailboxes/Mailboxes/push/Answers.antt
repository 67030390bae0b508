use Rattle.std.proofs.Common.{◌∙◌, ◌<◌, ◌++◌, ◌∷◌, [], ap, arith, length, List}
use Rattle.std.specs.Prelude.{Option, ℕ, slice_set}
use Rattle.std.proofs.lemmas.List.{length-map, set-get_or}
use Rattle.std.proofs.lemmas.Result.{on_ok_weaker, on_err_weaker}
use Rattle.tw_msgs.specs.declared.message.Item.{Item}
use Rattle.tw_mail.specs.Mail.{Held, Mail}
use Rattle.tw_theory.specs.Executive.{mail_of}
use Rattle.tw_mail.proofs.Boxes.{changed, seen}
use Rattle.tw_mail.proofs.mailboxes.Mailboxes.push.Goals as goal

pub returns-clause-ok : goal.returns-clause-ok
returns-clause-ok c =
    let to = c.args.item.message.to in
    let near : to < length c.self.inside.boxes.items = omega (arith, c.requires.known, ap (λ (m : Mail). length m.boxes) c.self.view_is, length-map c.self.inside.boxes.items (λ (x : Held). x.items)) in
    let f : List Item → List Item = λ l. l ++ c.args.item ∷ [] in
    let free = ap (λ (m : Mail). m.taken) c.self.view_is ∙ c.requires.free in
    on_ok_weaker c.push.result
    (λ e.
    changed f c.self.inside.boxes.items c.self.inside.taken c.self.inside.taken c.args.self.now to c.index_mut.result.now c.push.new.self c.self.view_is near c.index_mut.ensures.value e
    ∙ ap (λ (t : Option (ℕ × ℕ)). seen (slice_set c.args.self.now.boxes to (f (mail_of c.args.self.now.boxes to))) t) free)
    c.push.ensures.ok

pub returns-clause-err : goal.returns-clause-err
returns-clause-err c =
    let to = c.args.item.message.to in
    let near : to < length c.self.inside.boxes.items = omega (arith, c.requires.known, ap (λ (m : Mail). length m.boxes) c.self.view_is, length-map c.self.inside.boxes.items (λ (x : Held). x.items)) in
    let f : List Item → List Item = λ l. l in
    let taken = c.self.inside.taken in
    on_err_weaker c.push.result
    (λ e.
    changed f c.self.inside.boxes.items taken taken c.args.self.now to c.index_mut.result.now c.push.new.self c.self.view_is near c.index_mut.ensures.value e
    ∙ ap (λ (b : List (List Item)). seen (b) taken) (set-get_or c.args.self.now.boxes to [])
    ∙ ap (λ (t : Option (ℕ × ℕ)). seen (c.args.self.now.boxes) t) (ap (λ (m : Mail). m.taken) c.self.view_is))
    c.push.ensures.err
