-- The components so far are quiet.
use Rattle.std.proofs.Common.{◌≡◌, ◌<◌, ℕ, Some, true}
use Rattle.std.specs.Prelude.{slice_get}
use Rattle.tw_theory.specs.Contents.{Process}
use Rattle.tw_exchange.specs.States.{is_quiet}
use Rattle.tw_exchange.proofs.states.all_quiet.Given as goal

abbrev pub invariant-loop-component : goal.invariant-loop-component
invariant-loop-component g l = (d : ℕ) (p : Process _) → d < l.component → slice_get l.executive.world.processes d ≡ Some p → is_quiet l.gvt p ≡ true
