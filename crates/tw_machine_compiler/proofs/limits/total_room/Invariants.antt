use Rattle.std.proofs.Common.{◌≡◌, ◌≤◌, ◌*◌, sum, take}
use Rattle.tw_machine_compiler.proofs.limits.total_room.Given as goal

abbrev pub invariant-loop-room : goal.invariant-loop-room
invariant-loop-room l = record { total : l.total ≡ sum (take l.room-index l.rooms); small : l.total ≤ 65535 * l.room-index }
