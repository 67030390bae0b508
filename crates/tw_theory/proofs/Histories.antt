-- Which steps of a history stand before a stamp, and one past the last of them.
use Rattle.std.proofs.Common.{◌≡◌, ℕ, suc, ◌+◌, ◌<◌, ◌≤◌, List, [], ◌∷◌, ◌++◌, length, take, Bool, true, false, cond, refl, arith}
use Rattle.std.specs.Prelude.{nat_lt}
use Rattle.std.proofs.lemmas.Bool.{cond_both, ltb-true}
use Rattle.tw_theory.specs.Contents.{Process, back_to_first, steps_before, cut}
use Rattle.tw_theory.specs.LocalRun.{Step}
use Rattle.tw_theory.specs.Soundness.{AllBefore}
use Rattle.tw_theory.specs.Standing.{floor_after}

module _ {S : Type 0} where
  -- no more steps stand before a stamp than there are
  pub before_within : (s : ℕ) (steps : List (Step S)) → steps_before s steps ≤ length steps
  before_within s [] = omega arith
  before_within s (x ∷ steps) = let ih = before_within s steps in cond_both (nat_lt x.entry.stamp s) (suc (steps_before s steps)) 0 (λ n. n ≤ length (x ∷ steps)) (λ t. omega (arith, ih)) (λ t. omega arith)

  -- those that are counted as before a stamp are
  pub kept_before : (s : ℕ) (steps : List (Step S)) → AllBefore s (take (steps_before s steps) steps)
  kept_before s [] = tt
  kept_before s (x ∷ steps) = go (nat_lt x.entry.stamp s) refl (kept_before s steps)
    where
      go : (b : Bool) → nat_lt x.entry.stamp s ≡ b → AllBefore s (take (steps_before s steps) steps)
          → AllBefore s (take (cond b (suc (steps_before s steps)) 0) (x ∷ steps))
      go true e h = (ltb-true x.entry.stamp s e, h)
      go false e h = tt

  -- a cut leaves only steps before its stamp
  pub cut_before : (s : ℕ) (p : Process S) → AllBefore s (cut s p).history
  unfolding back_to_first
  cut_before s p = kept_before s p.history

  -- one more step before the stamp
  pub before_push : (s : ℕ) (steps : List (Step S)) (step : Step S) → AllBefore s steps → step.entry.stamp < s → AllBefore s (steps ++ step ∷ [])
  before_push s [] step h l = (l, tt)
  before_push s (x ∷ steps) step h l = (h.0, before_push s steps step h.1 l)

  -- where all steps stand before a stamp, one past the last is no later
  pub floor_within : (floor s : ℕ) (steps : List (Step S)) → floor ≤ s → AllBefore s steps → floor_after floor steps ≤ s
  floor_within floor s [] l h = l
  floor_within floor s (x ∷ steps) l h = floor_within (x.entry.stamp + 1) s steps (let k = h.0 in omega (arith, k)) h.1

  -- one past the last of the steps, of which one more comes
  pub floor_push : (floor : ℕ) (steps : List (Step S)) (step : Step S) → floor_after floor (steps ++ step ∷ []) ≡ step.entry.stamp + 1
  floor_push floor [] step = refl
  floor_push floor (x ∷ steps) step = floor_push (x.entry.stamp + 1) steps step
