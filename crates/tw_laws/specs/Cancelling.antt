-- How an executive cancels stays as it began; and what is owed does not hold gvt back where nothing owed is overdue.
use Rattle.std.specs.Prelude.{ℕ, ◌≡◌, min, List, [], ◌∷◌}
use Rattle.std.specs.List.{AllByRecursion as Each}
use Rattle.tw_vtime.specs.Stamps.{never}
use Rattle.tw_theory.specs.Bundles.{overdue}
use Rattle.tw_theory.specs.Contents.{Process, Cancel, next}
use Rattle.tw_theory.specs.Executive.{World, Action, act, least_of}
use Rattle.tw_theory.specs.Marks.{rewind}
use Rattle.tw_theory.specs.Network.{Network}
use Rattle.tw_theory.specs.Soundness.{Cancels, new_world}

pub record CancelStays (S : Type 0) : Type 0 where
  pub start : (net : Network S) (cancel : Cancel) → Each (Cancels cancel) (new_world net cancel).processes
  pub act : (net : Network S) (until : ℕ) (cancel : Cancel) (w : World S) (action : Action) → Each (Cancels cancel) w.processes → Each (Cancels cancel) (act net until w action).1.processes
  pub rewind : (cancel : Cancel) (w : World S) (ss : List ℕ) → Each (Cancels cancel) w.processes → Each (Cancels cancel) (rewind w ss).1.processes

-- the least of all next stamps
abbrev pub least_own : {S : Type 0} → List (Process S) → ℕ
least_own [] = never
least_own (p ∷ ps) = min (next p) (least_own ps)

-- nothing outgoing, and nothing owed is overdue
pub record IsSwept {S : Type 0} (p : Process S) : Type 0 where
  pub outgoing : p.outgoing ≡ []
  pub owed : overdue (next p) p.owed ≡ []

abbrev pub SweptLeast : Type 0 → Type 0
SweptLeast S = (w : World S) → Each IsSwept w.processes → Each (λ box. box ≡ []) w.mail → least_of w ≡ least_own w.processes
