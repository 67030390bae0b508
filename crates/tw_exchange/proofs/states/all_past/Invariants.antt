-- The lines of the components so far are there.
use Rattle.std.proofs.Common.{◌≡◌, ◌<◌, ◌≤◌, ℕ, Some}
use Rattle.std.specs.Prelude.{slice_get}
use Rattle.tw_theory.specs.Contents.{Process}
use Rattle.tw_exchange.proofs.states.all_past.Given as goal

abbrev pub invariant-loop-component : goal.invariant-loop-component
invariant-loop-component g l = (d : ℕ) (p : Process _) → d < l.component → slice_get l.executive.world.processes d ≡ Some p → l.end ≤ p.line
