-- Those of the components so far that are free stand under their next stamps.
use Rattle.std.proofs.Common.{◌≡◌, length}
use Rattle.tw_exchange.specs.Exchanged.{IsExactUpTo, busy_in}
use Rattle.tw_exchange.proofs.keeping.refresh_all.Given as goal

abbrev pub invariant-loop-component : goal.invariant-loop-component
invariant-loop-component g l = record {
  count : length l.agenda ≡ length l.fn.agenda;
  exact : IsExactUpTo l.component l.agenda l.executive.world.processes;
  busy : busy_in l.agenda ≡ busy_in l.fn.agenda;
}
