use Rattle.std.proofs.Common.{◌≡◌, ◌≤◌, ◌<◌, ◌+◌, ◌∙◌, ◌++◌, List, ap, sym, subst, arith, drop, take, length, refl, rules}
use Rattle.std.specs.Prelude.{remove, slice_get, slice_index_or, Some}
use Rattle.std.specs.List.{copy_within}
use Rattle.std.proofs.lemmas.List.{length-drop}
use Rattle.std.proofs.lemmas.List.Edits.{length-remove}
use Rattle.std.proofs.lemmas.Option.{slice_get_read}
use Rattle.tw_msgs.specs.declared.message.Item.{Item}
use Rattle.tw_mail.specs.Mail.{Held, IsLeastOf, IsWith}
use Rattle.tw_mail.proofs.Changes.{copied_behind, get_behind, with_removed, written_back}
use Rattle.tw_mail.proofs.Fronts.{drop_remove}
use Rattle.tw_mail.proofs.mailbox.Mailbox.take.Goals.{After-remove-item, After-index, After-copy_within}
use Rattle.tw_mail.proofs.mailbox.Mailbox.take.Goals as goal

-- from the middle

seen : (c : After-remove-item) → drop c.self-2.inside.first c.self-2.inside.items.items ≡ c.args.self.now.items
seen c = let same : c.if-self-len.self.items ≡ c.args.self.now.items = search rules in ap (λ (b : Held). b.items) c.self-2.view_is ∙ same

near : (c : After-remove-item) → c.self-2.inside.first + c.args.place < length c.self-2.inside.items.items
near c = omega (arith, c.requires, ap length (seen c), length-drop c.self-2.inside.first c.self-2.inside.items.items)

got : (c : After-remove-item) → slice_get (drop c.self-2.inside.first c.self-2.inside.items.items) c.args.place ≡ Some c.remove-item.result
got c =
    let f = c.self-2.inside.first in
    let old = c.self-2.inside.items.items in
    get_behind f c.args.place old ∙ slice_get_read old _ (f + c.args.place) c.remove-item.result refl (near c) c.remove-item.ensures.value

left : (c : After-remove-item) → drop c.self-2.inside.first c.remove-item.new.self.items ≡ remove (drop c.self-2.inside.first c.self-2.inside.items.items) c.args.place
left c = ap (drop c.self-2.inside.first) c.remove-item.ensures.items ∙ drop_remove c.self-2.inside.first c.args.place c.self-2.inside.items.items c.self-2.invariant.0

pub invariant_of-self : goal.invariant_of-self
invariant_of-self c =
    let at = (goal.at.invariant_of-self c).After-remove-item in
    let f = c.self-2.inside.first in
    let old = c.self-2.inside.items.items in
    let new = c.remove-item.new.self.items in
    let fewer = subst (λ s. IsWith s (remove (drop f old) c.args.place) (drop f old)) (sym c.stamp_of.ensures) (with_removed c.remove-item.result (drop f old) c.args.place (got at)) in
    let known = c.remove.ensures (drop f old) (remove (drop f old) c.args.place) fewer c.self-2.invariant.1 in
    let now : drop f new ≡ c.behind.result.now = search rules in
    let known_now = subst (λ l. IsLeastOf c.remove.new.self.stamp c.remove.new.self.count l) (sym (left at) ∙ now) known in
    let within : f ≤ length new = omega (arith, near at, ap length c.remove-item.ensures.items, length-remove old (f + c.args.place) (near at)) in
    (within, subst (λ l. IsLeastOf c.keep_up.new.self.stamp c.keep_up.new.self.count l) (sym now) (c.keep_up.ensures known_now))

pub returns-then-place-len-clause-item : goal.returns-then-place-len-clause-item
returns-then-place-len-clause-item c =
    let at = (goal.at.returns-then-place-len-clause-item c).After-remove-item in
    ap (λ l. slice_get l c.args.place) (sym (seen at)) ∙ got at

pub returns-then-place-len-clause-items : goal.returns-then-place-len-clause-items
returns-then-place-len-clause-items c =
    let at = (goal.at.returns-then-place-len-clause-items c).After-remove-item in
    left at ∙ ap (λ l. remove l c.args.place) (seen at)

-- from the front

seen_first : (c : After-index) → drop c.self-2.inside.first c.self-2.inside.items.items ≡ c.args.self.now.items
seen_first c = let same : c.if-self-len.self.items ≡ c.args.self.now.items = search rules in ap (λ (b : Held). b.items) c.self-2.view_is ∙ same

near_first : (c : After-index) → c.self-2.inside.first + c.args.place < length c.self-2.inside.items.items
near_first c = omega (arith, c.requires, ap length (seen_first c), length-drop c.self-2.inside.first c.self-2.inside.items.items)

got_first : (c : After-index) → slice_get (drop c.self-2.inside.first c.self-2.inside.items.items) c.args.place ≡ Some c.index.result.now
got_first c =
    let f = c.self-2.inside.first in
    let old = c.self-2.inside.items.items in
    let is : c.index.result.now ≡ slice_index_or old (f + c.args.place) c.index.result.now = search rules in
    get_behind f c.args.place old ∙ slice_get_read old _ (f + c.args.place) c.index.result.now refl (near_first c) is

abbrev items_now : After-copy_within → List Item
items_now c = take c.self-2.inside.items.len (c.copy_within.new.self ++ drop (length c.copy_within.new.self) c.self-2.inside.items.items)

items_are : (c : After-copy_within) → items_now c ≡ c.copy_within.new.self
items_are c =
    let new = c.copy_within.new.self in
    let count : c.self-2.inside.items.len ≡ length new = search rules in
    written_back c.self-2.inside.items.len new (drop (length new) c.self-2.inside.items.items) count

left_first : (c : After-copy_within) → c.self-2.inside.first + c.args.place < length c.self-2.inside.items.items → drop (c.self-2.inside.first + 1) (items_now c) ≡ remove (drop c.self-2.inside.first c.self-2.inside.items.items) c.args.place
left_first c near =
    let f = c.self-2.inside.first in
    let old = c.self-2.inside.items.items in
    let new = c.copy_within.new.self in
    let copied : new ≡ copy_within old f (f + c.args.place) (f + 1) = search rules in
    ap (drop (f + 1)) (items_are c ∙ copied) ∙ copied_behind f c.args.place old near

pub invariant_of-self-2 : goal.invariant_of-self-2
invariant_of-self-2 c =
    let copied = (goal.at.invariant_of-self-2 c).After-copy_within in
    let at = (goal.at.invariant_of-self-2 c).After-index in
    let f = c.self-2.inside.first in
    let old = c.self-2.inside.items.items in
    let i = c.index.result.now in
    let fewer = subst (λ s. IsWith s (remove (drop f old) c.args.place) (drop f old)) (sym c.stamp_of-2.ensures) (with_removed i (drop f old) c.args.place (got_first at)) in
    let known = c.remove-2.ensures (drop f old) (remove (drop f old) c.args.place) fewer c.self-2.invariant.1 in
    let now : drop (f + 1) (items_now copied) ≡ c.behind-2.result.now = search rules in
    let known_now = subst (λ l. IsLeastOf c.remove-2.new.self.stamp c.remove-2.new.self.count l) (sym (left_first copied (near_first at)) ∙ now) known in
    let same : length c.copy_within.new.self ≡ length old = search rules in
    let within : f + 1 ≤ length (items_now copied) = omega (arith, near_first at, ap length (items_are copied), same) in
    (within, subst (λ l. IsLeastOf c.keep_up-2.new.self.stamp c.keep_up-2.new.self.count l) (sym now) (c.keep_up-2.ensures known_now))

pub returns-clause-items : goal.returns-clause-items
returns-clause-items c =
    let copied = (goal.at.returns-clause-items c).After-copy_within in
    let at = (goal.at.returns-clause-items c).After-index in
    left_first copied (near_first at) ∙ ap (λ l. remove l c.args.place) (seen_first at)

pub returns-clause-item : goal.returns-clause-item
returns-clause-item c =
    let at = (goal.at.returns-clause-item c).After-index in
    ap (λ l. slice_get l c.args.place) (sym (seen_first at)) ∙ got_first at

pub overflow_add-self-inside : goal.overflow_add-self-inside
overflow_add-self-inside c =
    let same : c.if-self-len.self.items ≡ c.args.self.now.items = search rules in
    let seen = ap (λ (b : Held). b.items) c.self-2.view_is ∙ same in
    let near : c.self-2.inside.first + c.args.place < length c.self-2.inside.items.items = omega (arith, c.requires, ap length seen, length-drop c.self-2.inside.first c.self-2.inside.items.items) in
    omega (arith, near, c.self-2.inside.items.ok.0)

pub remove-item-requires : goal.remove-item-requires
remove-item-requires c =
    let same : c.if-self-len.self.items ≡ c.args.self.now.items = search rules in
    let seen = ap (λ (b : Held). b.items) c.self-2.view_is ∙ same in
    let near : c.self-2.inside.first + c.args.place < length c.self-2.inside.items.items = omega (arith, c.requires, ap length seen, length-drop c.self-2.inside.first c.self-2.inside.items.items) in
    omega (arith, near, c.self-2.inside.items.ok.0)

pub index-requires : goal.index-requires
index-requires c =
    let same : c.if-self-len.self.items ≡ c.args.self.now.items = search rules in
    let seen = ap (λ (b : Held). b.items) c.self-2.view_is ∙ same in
    let near : c.self-2.inside.first + c.args.place < length c.self-2.inside.items.items = omega (arith, c.requires, ap length seen, length-drop c.self-2.inside.first c.self-2.inside.items.items) in
    omega (arith, near, c.self-2.inside.items.ok.0)

pub behind-requires : goal.behind-requires
behind-requires c =
    let at = (goal.at.behind-requires c).After-remove-item in
    let old = c.self-2.inside.items.items in
    let k = c.self-2.inside.first + c.args.place in
    omega (arith, near at, ap length c.remove-item.ensures.items, length-remove old k (near at), ap length c.as_slice.ensures.value)
