-- From the balance of every weight to that of each message.
use Rattle.std.proofs.Common.{◌≡◌, ℕ, ◌+◌, List, [], ◌∷◌, refl, arith}
use Rattle.std.specs.Prelude.{pos, ◌+ℤ◌, ◌-ℤ◌}
use Rattle.std.proofs.lemmas.Int.{ints}
use Rattle.tw_msgs.specs.Counting.{total, when_positive, when_anti, one_at}
use Rattle.tw_msgs.specs.declared.message.Item.{Item}
use Rattle.tw_msgs.specs.declared.message.Message.{Message}
use Rattle.tw_msgs.proofs.Totals.{total-append}
use Rattle.tw_theory.specs.Balance.{issued, held, all_outgoing, all_mail, in_transit}
use Rattle.tw_theory.specs.Contents.{Process, sent_by, inputs}
use Rattle.tw_theory.specs.Executive.{World}
use Rattle.tw_theory.specs.Laws.{BalanceLaw}

pub total-outgoing : {S : Type 0} (weight : Item → ℕ) (ps : List (Process S)) → total weight (all_outgoing ps) ≡ total (λ p. total weight p.outgoing) ps
total-outgoing weight [] = refl
total-outgoing weight (p ∷ ps) = omega (arith, total-append weight p.outgoing (all_outgoing ps), total-outgoing weight ps)

total-mail : (weight : Item → ℕ) (mail : List (List Item)) → total weight (all_mail mail) ≡ total (total weight) mail
total-mail weight [] = refl
total-mail weight (box ∷ mail) = omega (arith, total-append weight box (all_mail mail), total-mail weight mail)

issued_parts : {S : Type 0} (weight : Message → ℕ) (ps : List (Process S))
    → total (issued weight) ps ≡ total (λ p. total weight (sent_by p.history) + total weight p.owed) ps + total (λ p. total weight p.waiting) ps + total (λ p. total (when_anti weight) p.outgoing) ps
issued_parts weight [] = refl
issued_parts weight (p ∷ ps) = omega (arith, issued_parts weight ps)

held_parts : {S : Type 0} (weight : Message → ℕ) (ps : List (Process S))
    → total (held weight) ps ≡ total (λ p. total weight (inputs p)) ps + total (λ p. total (when_positive weight) p.outgoing) ps
held_parts weight [] = refl
held_parts weight (p ∷ ps) = omega (arith, held_parts weight ps)

-- what is in transit, of one sign
pub transit : {S : Type 0} (weight : Item → ℕ) (w : World S)
    → total weight (in_transit w) ≡ total (λ p. total weight p.outgoing) w.processes + total (total weight) w.mail
transit weight w = omega (arith, total-append weight (all_outgoing w.processes) (all_mail w.mail), total-outgoing weight w.processes, total-mail weight w.mail)

signed : (left right plus minus : ℕ) → left + minus ≡ right + plus → pos left ≡ (pos plus -ℤ pos minus) +ℤ pos right
signed left right plus minus e = omega (arith, ints, e)

pub balance_law : {S : Type 0} → BalanceLaw S
balance_law net w balance m =
    let weight = one_at m in
    signed _ _ (total (when_positive weight) (in_transit w)) (total (when_anti weight) (in_transit w))
    (
    omega (
      arith,
      balance weight,
      issued_parts weight w.processes,
      held_parts weight w.processes,
      transit (when_positive weight) w,
      transit (when_anti weight) w,
    )
    )
