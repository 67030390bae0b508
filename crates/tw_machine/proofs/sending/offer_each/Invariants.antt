use Rattle.std.proofs.Common.{◌≡◌, ◌++◌, take}
use Rattle.tw_machine.specs.Machine.{offered_each}
use Rattle.tw_machine.proofs.sending.offer_each.Given as goal

abbrev pub invariant-loop-place : goal.invariant-loop-place
invariant-loop-place l = l.outbox.items ≡ take 64 (l.fn.outbox.items ++ offered_each l.output l.numbers l.fn.input l.memory 0 (take l.place l.values))
