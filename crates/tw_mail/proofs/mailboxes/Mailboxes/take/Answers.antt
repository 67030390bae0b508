use Rattle.std.proofs.Common.{◌≡◌, ℕ, ◌<◌, ◌≤◌, ap, arith, length, List, map, refl, sym, subst, ◌∙◌}
use Rattle.std.specs.Prelude.{Some, remove, slice_get, slice_set, slice_index_or}
use Rattle.std.proofs.lemmas.List.{get_or-set_same, length-map, length-set}
use Rattle.std.proofs.lemmas.List.Edits.{length-remove}
use Rattle.std.proofs.lemmas.Option.{slice_get_past, slice_get_read}
use Rattle.tw_msgs.specs.declared.message.Item.{Item}
use Rattle.tw_mail.specs.Mail.{HasPlace, HasRoom, Held, Mail, nothing}
use Rattle.tw_mail.proofs.Boxes.{box_at, changed}
use Rattle.tw_mail.proofs.mailboxes.Mailboxes.take.Goals as goal
use Rattle.tw_theory.specs.Executive.{mail_of}

-- the mailbox is one of those there, and what is seen of it are its items
near : (boxes : List Held) (q : ℕ) (m : Mail) → map (λ (b : Held). b.items) boxes ≡ m.boxes → q < length m.boxes → q < length boxes
near boxes q m is lt = omega (arith, lt, ap length is, length-map boxes (λ (b : Held). b.items))

seen : (boxes : List Held) (q : ℕ) (m : Mail) (box : Held) → map (λ (b : Held). b.items) boxes ≡ m.boxes → q < length m.boxes → box ≡ slice_index_or boxes q box → mail_of m.boxes q ≡ box.items
seen boxes q m box is lt at = ap (λ (b : List (List Item)). mail_of b q) (sym is) ∙ box_at boxes q box (slice_get_read boxes _ q box refl (near boxes q m is lt) at)

-- the mailbox that an item has left has its place
place_left : (boxes : List Held) (q place : ℕ) (old new : Held) → q < length boxes → place < length old.items → new.items ≡ remove old.items place → HasRoom new → HasPlace (slice_set boxes q new) (Some (q, place))
place_left boxes q place old new lt within is room =
    let there : q < length (slice_set boxes q new) = omega (arith, lt, length-set boxes q new) in
    let place_in : place ≤ length new.items = omega (arith, within, ap length is, length-remove old.items place within) in
    let same : new ≡ slice_index_or (slice_set boxes q new) q nothing = sym (get_or-set_same boxes q new nothing lt) in
    (there, subst (λ (b : Held). place ≤ length b.items) same place_in, subst HasRoom same room)

pub returns-clause-taken : goal.returns-clause-taken
returns-clause-taken c =
    let near : c.args.to < length c.self.inside.boxes.items = omega (arith, c.requires, ap (λ (m : Mail). length m.boxes) c.self.view_is, length-map c.self.inside.boxes.items (λ (x : Held). x.items)) in
    changed (λ (l : List Item). remove l c.args.place) c.self.inside.boxes.items c.self.inside.taken (Some (c.args.to, c.args.place)) c.args.self.now c.args.to c.index_mut.result.now c.take.new.self c.self.view_is near c.index_mut.ensures.value c.take.ensures.items

pub take-requires : goal.take-requires
take-requires c =
    let is = seen c.self.inside.boxes.items c.args.to c.args.self.now c.index_mut.result.now (ap (λ (m : Mail). m.boxes) c.self.view_is) c.requires c.index_mut.ensures.value in
    omega (arith, c.if-place-len.false, c.len.ensures, ap length is)

pub invariant_of-self : goal.invariant_of-self
invariant_of-self c =
    let boxes = ap (λ (m : Mail). m.boxes) c.self.view_is in
    let is = seen c.self.inside.boxes.items c.args.to c.args.self.now c.index_mut.result.now boxes c.requires c.index_mut.ensures.value in
    let within : c.args.place < length c.index_mut.result.now.items = omega (arith, c.if-place-len.false, c.len.ensures, ap length is) in
    place_left c.self.inside.boxes.items c.args.to c.args.place c.index_mut.result.now c.take.new.self (near c.self.inside.boxes.items c.args.to c.args.self.now boxes c.requires) within c.take.ensures.items c.take.ensures.room

pub returns-clause-as_many : goal.returns-clause-as_many
returns-clause-as_many c =
    length-map (slice_set c.self.inside.boxes.items c.args.to c.take.new.self) (λ (b : Held). b.items) ∙ length-set c.self.inside.boxes.items c.args.to c.take.new.self
    ∙ sym (length-map c.self.inside.boxes.items (λ (b : Held). b.items)) ∙ ap (λ (m : Mail). length m.boxes) c.self.view_is

pub returns-then-place-len-clause-item : goal.returns-then-place-len-clause-item
returns-then-place-len-clause-item c = sym (slice_get_past (mail_of c.args.self.now.boxes c.args.to) c.args.place (omega (arith, c.if-place-len.true, c.len.ensures)))

pub returns-clause-item : goal.returns-clause-item
returns-clause-item c =
    let is = seen c.self.inside.boxes.items c.args.to c.args.self.now c.index_mut.result.now (ap (λ (m : Mail). m.boxes) c.self.view_is) c.requires c.index_mut.ensures.value in
    sym c.take.ensures.item ∙ ap (λ l. slice_get l c.args.place) (sym is)
