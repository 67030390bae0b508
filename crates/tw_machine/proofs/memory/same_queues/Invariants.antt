use Rattle.std.proofs.Common.{◌≡◌, ℕ, ◌<◌, get_or}
use Rattle.tw_machine.specs.Memory.{no_queue}
use Rattle.tw_machine.proofs.memory.same_queues.Given as goal

-- the queues that were passed are the same
abbrev pub invariant-loop-at : goal.invariant-loop-at
invariant-loop-at l = (k : ℕ) → k < l.at → get_or l.one k no_queue ≡ get_or l.other k no_queue
