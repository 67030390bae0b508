-- The components so far stand at the start.
use Rattle.std.proofs.Common.{◌≡◌, ℕ, take, map, length, Some, slice_get}
use Rattle.tw_rounds.specs.Invariant.{IsBetween}
use Rattle.tw_theory.specs.Transitions.{Moment, start_moment}
use Rattle.tw_rounds.proofs.rounds.start.Given as goal

abbrev pub invariant-loop-component : goal.invariant-loop-component
invariant-loop-component g l = record {
  moments : l.moments.items ≡ map (λ m. start_moment (g.M.Atomic.meaning m)) (take l.component l.network.models);
  size : length l.moments.items ≡ l.component;
  standing : (d : ℕ) (model : g.row.M.Denot) (now : Moment g.row.M-State.Denot) → slice_get l.network.models d ≡ Some model → slice_get l.moments.items d ≡ Some now → IsBetween (g.M.Atomic.valid model) (g.M.Atomic.meaning model) 0 now;
}
