use Rattle.std.proofs.Common.{◌≡◌, length}
use Rattle.tw_test_process.proofs.tests.mail.items_close_up_and_are_put_back.Given as goal

abbrev pub invariant-loop-it : goal.invariant-loop-it
invariant-loop-it g l = length l.mail.boxes ≡ 2
