use Rattle.std.proofs.Common.{◌≡◌, length}
use Rattle.tw_test_core.proofs.tests.tournament.the_first_of_five_and_of_none.Given as goal

abbrev pub invariant-loop-next : goal.invariant-loop-next
invariant-loop-next g l = length l.times.times ≡ 5
