-- There are three mailboxes.
use Rattle.std.proofs.Common.{◌≡◌, length}
use Rattle.tw_test_core_refusals.proofs.mails.post_often.Given as goal

abbrev pub invariant-loop-tick : goal.invariant-loop-tick
invariant-loop-tick l = length l.mail.boxes ≡ 3
