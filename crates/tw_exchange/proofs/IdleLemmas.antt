-- Whether anything is left to post and deliver, looked at component by component.
use Rattle.std.proofs.Common.{◌≡◌, ℕ, zero, suc, ◌+◌, ◌-◌, ◌<◌, ◌≤◌, min, true, false, List, [], ◌∷◌, length, Some, cond, refl, sym, ap, ◌∙◌, inl, inr, arith}
use Rattle.std.specs.List.{AllByRecursion as Each}
use Rattle.std.specs.Prelude.{◌==◌, nat_lt, slice_get}
use Rattle.std.proofs.lemmas.Bool.{and_from, and_left, and_right, cases_lt, cond_both, eqb-false, eqb-true, le-ltb, lt-ltb, ltb-true}
use Rattle.std.proofs.lemmas.Option.{none-some, same_Some}
use Rattle.tw_msgs.specs.declared.message.Item.{Item}
use Rattle.tw_msgs.specs.declared.message.Message.{Message}
use Rattle.tw_theory.specs.Bundles.{least_owed, overdue}
use Rattle.tw_theory.specs.Contents.{Process}
use Rattle.tw_theory.specs.Exchange.{all_empty, all_idle, is_empty}
use Rattle.tw_theory.specs.Executive.{mail_of}
use Rattle.tw_vtime.specs.Stamps.{never}
use Rattle.tw_exchange.specs.Sweeping.{is_idle}

pub idle_all : {S : Type 0} (ps : List (Process S)) → ((d : ℕ) (p : Process S) → slice_get ps d ≡ Some p → is_idle p ≡ true) → all_idle ps ≡ true
idle_all [] all = refl
idle_all (p ∷ ps) all = and_from (is_idle p) (all_idle ps) (all 0 p refl) (idle_all ps (λ d q at. all (suc d) q at))

pub idle_not : {S : Type 0} (ps : List (Process S)) (d : ℕ) (p : Process S) → slice_get ps d ≡ Some p → is_idle p ≡ false → all_idle ps ≡ false
idle_not [] d p at busy = absurd (none-some p at)
idle_not (q ∷ ps) zero p at busy = and_left (is_idle q) (all_idle ps) (ap is_idle (same_Some q p at) ∙ busy)
idle_not (q ∷ ps) (suc d) p at busy = and_right (is_idle q) (all_idle ps) (idle_not ps d p at busy)

pub empty_all : (mail : List (List Item)) → ((d : ℕ) → d < length mail → is_empty (mail_of mail d) ≡ true) → all_empty mail ≡ true
empty_all [] all = refl
empty_all (box ∷ mail) all = and_from (is_empty box) (all_empty mail) (all 0 (omega arith)) (empty_all mail (λ d near. all (suc d) (omega (arith, near))))

pub empty_not : (mail : List (List Item)) (d : ℕ) → is_empty (mail_of mail d) ≡ false → all_empty mail ≡ false
empty_not [] d full = full
empty_not (box ∷ mail) zero full = and_left (is_empty box) (all_empty mail) full
empty_not (box ∷ mail) (suc d) full = and_right (is_empty box) (all_empty mail) (empty_not mail d full)

pub empty_is : {X : Type 0} (xs : List X) → length xs ≡ 0 → is_empty xs ≡ true
empty_is [] none = refl
empty_is (x ∷ xs) none = absurd (omega (arith, none))

pub not_empty : {X : Type 0} (xs : List X) → 0 < length xs → is_empty xs ≡ false
not_empty [] some = absurd (omega (arith, some))
not_empty (x ∷ xs) some = refl

-- ## What is overdue

pub none_overdue : (s : ℕ) (ms : List Message) → s ≤ least_owed ms - 1 → is_empty (overdue s ms) ≡ true
none_overdue s [] late = refl
none_overdue s (m ∷ ms) late =
    cond_both (nat_lt (m.stamp - 1) s) (m ∷ overdue s ms) (overdue s ms) (λ l. is_empty l ≡ true)
    (λ early. absurd (both_tests early)) (λ _. none_overdue s ms (omega (arith, late)))
  where
    both_tests : nat_lt (m.stamp - 1) s ≡ true → ⊥
    both_tests early = let less = ltb-true (m.stamp - 1) s early in omega (arith, less, late)

pub some_overdue : (s : ℕ) (ms : List Message) → 0 < length ms → Each (λ m. m.stamp < never) ms → least_owed ms - 1 < s → is_empty (overdue s ms) ≡ false
some_overdue s [] some before early = absurd (omega (arith, some))
some_overdue s (m ∷ ms) some before early = elim (cases_lt (m.stamp - 1) s) [
  | inl less ↦ ap (λ b. is_empty (cond b (m ∷ overdue s ms) (overdue s ms))) (lt-ltb (m.stamp - 1) s less)
  | inr more ↦ ap (λ b. is_empty (cond b (m ∷ overdue s ms) (overdue s ms))) (le-ltb (m.stamp - 1) s more) ∙ rest ms more before.0 before.1 early (some_overdue s ms)
]
  where
    rest : (ms : List Message) → s ≤ m.stamp - 1 → m.stamp < never → Each (λ m. m.stamp < never) ms → min m.stamp (least_owed ms) - 1 < s
        → (0 < length ms → Each (λ m. m.stamp < never) ms → least_owed ms - 1 < s → is_empty (overdue s ms) ≡ false) → is_empty (overdue s ms) ≡ false
    rest [] late near before early more = absurd (omega (arith, late, near, early))
    rest (n ∷ ns) late near before early more = more (omega arith) before (omega (arith, late, early))

-- ## Numbers

pub less_but : (d n : ℕ) → d < n + 1 → (d ≡ n → ⊥) → d < n
less_but d n near apart = elim (cases_lt d n) [
  | inl less ↦ less
  | inr more ↦ absurd (apart (omega (arith, near, more)))
]

pub some_of : (n : ℕ) → false ≡ (n == 0) → 0 < n
some_of n not = elim (cases_lt 0 n) [
  | inl more ↦ more
  | inr none ↦ absurd (eqb-false n 0 (sym not) (omega (arith, none)))
]

pub none_of : (n : ℕ) → true ≡ (n == 0) → n ≡ 0
none_of n is = eqb-true n 0 (sym is)
