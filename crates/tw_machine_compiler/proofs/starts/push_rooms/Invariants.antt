use Rattle.std.proofs.Common.{◌≡◌, ◌++◌, replicate}
use Rattle.tw_machine_compiler.proofs.starts.push_rooms.Given as goal

abbrev pub invariant-loop-i : goal.invariant-loop-i
invariant-loop-i l = l.rooms.items ≡ l.initial.rooms.items ++ replicate l.i l.room
