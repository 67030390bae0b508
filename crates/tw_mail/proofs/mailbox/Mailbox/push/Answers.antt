use Rattle.std.proofs.Common.{◌≡◌, ◌≤◌, ◌∙◌, ◌++◌, ◌∷◌, ◌==◌, [], drop, length, subst, sym, ap, rules}
use Rattle.std.specs.Prelude.{IsTrue}
use Rattle.tw_mail.specs.Mail.{IsLeastOf, IsWith}
use Rattle.tw_mail.proofs.Changes.{drop_pushed, with_last, with_only}
use Rattle.tw_mail.proofs.mailbox.Mailbox.push.Goals as goal

pub invariant_of-self-2 : goal.invariant_of-self-2
invariant_of-self-2 c =
    let f = c.self.inside.first in
    let old = c.self.inside.items.items in
    let new = c.push.new.self.items in
    let i = c.args.item in
    let items : new ≡ old ++ i ∷ [] = c.in_ok-push.ensures.items in
    let left : drop f new ≡ drop f old ++ i ∷ [] = ap (drop f) items ∙ drop_pushed f old i c.self.invariant.0 in
    let more = subst (λ s. IsWith s (drop f old) (drop f old ++ i ∷ [])) (sym c.stamp_of-stamp.ensures) (with_last i (drop f old)) in
    let len : c.len.result ≡ length old = search rules in
    let within : f ≤ length new = search rules in
    let only : IsTrue (f == c.len.result) → drop f old ≡ [] = λ yes. with_only f old c.len.result len yes in
    let known = c.add.ensures (drop f old) (drop f old ++ i ∷ []) more only c.self.invariant.1 in
    let now : drop f new ≡ c.behind.result.now = search rules in
    let known_now = subst (λ l. IsLeastOf c.add.new.self.stamp c.add.new.self.count l) (sym left ∙ now) known in
    let last = subst (λ l. IsLeastOf c.keep_up.new.self.stamp c.keep_up.new.self.count l) (sym now) (c.keep_up.ensures known_now) in
    (within, last)
