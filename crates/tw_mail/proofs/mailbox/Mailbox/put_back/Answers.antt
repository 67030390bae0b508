use Rattle.std.proofs.Common.{◌≡◌, ◌≤◌, ◌<◌, ◌-◌, ◌∙◌, ◌==◌, ◌∷◌, [], suc, ap, sym, subst, arith, drop, length, rules}
use Rattle.std.specs.Prelude.{insert, slice_set, IsTrue}
use Rattle.tw_mail.specs.Mail.{Held, IsLeastOf, IsWith}
use Rattle.tw_mail.proofs.Changes.{drop_set, with_first, with_inserted, with_only}
use Rattle.tw_mail.proofs.mailbox.Mailbox.put_back.Goals as goal

pub unwrap-requires : goal.unwrap-requires
unwrap-requires c =
    let behind = ap (λ (b : Held). b.behind) c.self-2.view_is in
    c.insert.ensures.succeeds (omega (arith, behind, c.close_up.ensures.room, c.requires.room, c.self-2.inside.items.ok.0))

pub returns : goal.returns
returns c =
    let first = ap (λ (b : Held). b.before) c.self-2.view_is ∙ c.close_up.ensures.before in
    let items : c.self-2.inside.items.items ≡ c.args.self.now.items =
    ap (λ n. drop n c.self-2.inside.items.items) (sym first) ∙ ap (λ (b : Held). b.items) c.self-2.view_is ∙ c.close_up.ensures.same in
    ap (λ n. drop n c.insert.new.self.items) first ∙ search rules

pub invariant_of-self : goal.invariant_of-self
invariant_of-self c =
    let f = c.self.inside.first in
    let old = c.self.inside.items.items in
    let i = c.args.item in
    let near : f - 1 < length old = omega (arith, c.self.invariant.0, c.if-self-gt0.true) in
    let here : f ≡ suc (f - 1) = omega (arith, c.if-self-gt0.true) in
    let left : drop (f - 1) (slice_set old (f - 1) i) ≡ i ∷ drop f old = drop_set (f - 1) old i near ∙ ap (λ n. i ∷ drop n old) (sym here) in
    let more = subst (λ s. IsWith s (drop f old) (i ∷ drop f old)) (sym c.stamp_of-stamp.ensures) (with_first i (drop f old)) in
    let len : c.len.result ≡ length old = search rules in
    let only : IsTrue (f == c.len.result) → drop f old ≡ [] = λ yes. with_only f old c.len.result len yes in
    let known = c.add.ensures (drop f old) (i ∷ drop f old) more only c.self.invariant.1 in
    let within : f - 1 ≤ length (slice_set old (f - 1) i) = search rules in
    (within, subst (λ l. IsLeastOf c.add.new.self.stamp c.add.new.self.count l) (sym left) known)

pub invariant_of-self-2 : goal.invariant_of-self-2
invariant_of-self-2 c =
    let f = c.self.inside.first in
    let old = c.self.inside.items.items in
    let i = c.args.item in
    let now = c.self-2.inside.items.items in
    let first = ap (λ (b : Held). b.before) c.self-2.view_is ∙ c.close_up.ensures.before in
    let here : drop c.self-2.inside.first now ≡ now = ap (λ n. drop n now) first in
    let is_now : now ≡ c.args.self.now.items = sym here ∙ ap (λ (b : Held). b.items) c.self-2.view_is ∙ c.close_up.ensures.same in
    let same : now ≡ drop f old = sym here ∙ ap (λ (b : Held). b.items) c.self-2.view_is ∙ c.close_up.ensures.same ∙ sym (ap (λ (b : Held). b.items) c.self.view_is) in
    let place : c.args.place ≤ length now = omega (arith, ap length is_now, c.requires.place) in
    let new : c.insert.new.self.items ≡ insert now c.args.place i = search rules in
    let more = subst (λ s. IsWith s now (insert now c.args.place i)) (sym c.stamp_of-stamp.ensures) (with_inserted i now c.args.place place) in
    let len : c.len.result ≡ length old = search rules in
    let only : IsTrue (f == c.len.result) → now ≡ [] = λ yes. same ∙ with_only f old c.len.result len yes in
    let known = c.add-2.ensures now (insert now c.args.place i) more only (subst (λ l. IsLeastOf c.self-2.inside.least.stamp c.self-2.inside.least.count l) here c.self-2.invariant.1) in
    let left : drop c.self-2.inside.first c.insert.new.self.items ≡ insert now c.args.place i = ap (λ n. drop n c.insert.new.self.items) first ∙ new in
    (omega (arith, first), subst (λ l. IsLeastOf c.add-2.new.self.stamp c.add-2.new.self.count l) (sym left) known)
