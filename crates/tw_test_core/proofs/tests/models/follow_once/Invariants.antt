-- The state is one that the model has.
use Rattle.tw_test_core.proofs.tests.models.follow_once.Given as goal

abbrev pub invariant-loop-worked : goal.invariant-loop-worked
invariant-loop-worked g l = g.M.Atomic.valid l.model l.state
