use Rattle.std.proofs.Common.{◌≡◌}
use Rattle.tw_lists.specs.Lists.{restored}
use Rattle.tw_lists.proofs.lists.EventLists.restore.Given as goal

abbrev pub invariant-loop : goal.invariant-loop
invariant-loop l = record { restored_so_far : l.self ≡ restored l.counter l.fn.self }
