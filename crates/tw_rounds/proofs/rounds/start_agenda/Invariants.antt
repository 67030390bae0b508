-- The first components are on the agenda.
use Rattle.std.proofs.Common.{◌≡◌}
use Rattle.tw_rounds.proofs.Dues.{begun}
use Rattle.tw_rounds.proofs.rounds.start_agenda.Given as goal

abbrev pub invariant-loop-component : goal.invariant-loop-component
invariant-loop-component g l = l.agenda.times ≡ begun l.component l.moments
