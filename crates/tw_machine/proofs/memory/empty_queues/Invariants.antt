use Rattle.std.proofs.Common.{◌≡◌, take, map}
use Rattle.tw_machine.specs.Memory.{empty_queue}
use Rattle.tw_machine.proofs.memory.empty_queues.Given as goal

abbrev pub invariant-loop-room : goal.invariant-loop-room
invariant-loop-room l = l.queues.items ≡ map empty_queue (take l.room-index l.rooms)
