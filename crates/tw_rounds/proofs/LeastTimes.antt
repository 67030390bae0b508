-- Times, and the least of them.
use Rattle.std.proofs.Common.{◌≡◌, ℕ, zero, suc, ◌-◌, ◌≤◌, List, [], ◌∷◌, Some, slice_get, ap, arith}
use Rattle.tw_theory.specs.Transitions.{Moment}
use Rattle.tw_theory.specs.Simulator.{least_due}
use Rattle.tw_vtime.specs.Stamps.{never, stamp, tick_of, micro_of, phase_of}

pub due_top : {S : Type 0} (moments : List (Moment S)) → least_due moments ≤ never
due_top [] = omega arith
due_top (now ∷ moments) = let ih = due_top moments in omega (arith, ih)

pub due_least : {S : Type 0} (moments : List (Moment S)) (i : ℕ) (now : Moment S) → slice_get moments i ≡ Some now → least_due moments ≤ now.due
due_least [] i now e = absurd (cc e)
due_least (x ∷ moments) zero now e = let q : x ≡ now = cc e in let d = ap (λ m. m.due) q in omega (arith, d)
due_least (x ∷ moments) (suc i) now e = let ih = due_least moments i now e in omega (arith, ih)

-- the output of a transition's time comes right before it
pub output_before : (s : ℕ) → phase_of s ≡ 1 → stamp (tick_of s) (micro_of s) 0 ≡ s - 1
output_before s p = omega (arith, p)
