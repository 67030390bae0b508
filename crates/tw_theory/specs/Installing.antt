-- Installing a chain: which of its steps its component's process makes.
--     IsFresh start n p step      the process p, which has made n steps of a chain from this start, would make this step next
--     TakesFrom net start n steps p q      p, which has made n steps of a chain from this start, makes these, each of them fresh, and is q then
--     IsInstalled net r cause p q finished      what is made of a chain, and why no more
use Rattle.std.specs.Prelude.{ℕ, ◌+◌, ◌<◌, ◌≤◌, ◌≡◌, List, [], ◌∷◌, length, take, Some, Ok, slice_get}
pub use Rattle.tw_actions.specs.declared.chain.Stop.{Stop}
pub use Rattle.tw_actions.specs.declared.chain.Stop.TheVariants.{Ended, Stale, OutOfMemory, Full}
pub use Rattle.tw_actions.specs.declared.chain.Finished.{Finished}
use Rattle.tw_theory.specs.Chains.{Start, SoloRun, Cause, Agrees}
use Rattle.tw_theory.specs.Contents.{Process, with_step}
use Rattle.tw_theory.specs.LocalRun.{Step, Made, local_step}
use Rattle.tw_theory.specs.Memory.{max_nodes, live, need_of_step}
use Rattle.tw_theory.specs.Network.{Network}

-- the first step of a chain is fresh where the process stands just where the chain began, and would make a step of its stamp and bag; a later one where it would make a step of its stamp and bag.
-- A step that is not fresh is stale
pub record IsFresh {S : Type 0} (start : Start S) (n : ℕ) (p : Process S) (step : Step S) : Type 0 where
  pub begins : n ≡ 0 → p.now ≡ start.now
  pub agrees : Agrees p.now p.pending step

-- n steps of the chain were made before these, each of which is fresh in its turn
abbrev pub TakesFrom : {S : Type 0} → Network S → Start S → ℕ → List (Step S) → Process S → Process S → Type 0
TakesFrom net start n [] p q = q ≡ p
TakesFrom {S} net start n (step ∷ steps) p q =
    IsFresh start n p step × ((made : Made S) × (local_step net start.component p.now p.pending ≡ Ok made) × TakesFrom net start (n + 1) steps (with_step p made) q)

-- the process would pass the greatest number of nodes by its next step
pub record IsFullFor {S : Type 0} (net : Network S) (c : ℕ) (p : Process S) : Type 0 where
  pub made : Made S
  pub is : local_step net c p.now p.pending ≡ Ok made
  pub passes : max_nodes < live p + need_of_step p made

-- why this step, the next one of the chain, was not made
abbrev pub StopsAt : {S : Type 0} → Network S → SoloRun S → ℕ → Process S → Step S → Stop → Type 0
StopsAt net r n p step (Ended cause) = ⊥
StopsAt net r n p step Stale = IsFresh r.start n p step → ⊥
StopsAt net r n p step OutOfMemory = IsFresh r.start n p step
StopsAt net r n p step Full = IsFresh r.start n p step × IsFullFor net r.start.component p

-- The steps before the first stale or refused one are made, and no others. Of a chain without steps none is made, and it answers its cause
pub record IsInstalled {S : Type 0} (net : Network S) (r : SoloRun S) (cause : Cause) (p q : Process S) (finished : Finished) : Type 0 where
  pub within : finished.installed ≤ length r.steps
  pub takes : TakesFrom net r.start 0 (take finished.installed r.steps) p q
  pub all : finished.installed ≡ length r.steps → finished.stop ≡ Ended cause
  pub stops : (step : Step S) → slice_get r.steps finished.installed ≡ Some step → StopsAt net r finished.installed q step finished.stop
