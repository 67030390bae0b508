-- The components so far are free, each under its next stamp.
use Rattle.std.proofs.Common.{◌≡◌, length}
use Rattle.tw_exchange.specs.Exchanged.{IsExactUpTo}
use Rattle.tw_exchange.proofs.Following.{AreFree}
use Rattle.tw_exchange.proofs.keeping.free_all.Given as goal

abbrev pub invariant-loop-component : goal.invariant-loop-component
invariant-loop-component g l = record {
  count : length l.agenda ≡ length l.fn.agenda;
  exact : IsExactUpTo l.component l.agenda l.executive.world.processes;
  free : AreFree l.component l.agenda;
}
