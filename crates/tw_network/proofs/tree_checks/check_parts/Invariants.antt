use Rattle.std.proofs.Common.{◌≡◌, [], drop, map, string_bytes}
use Rattle.tw_nested.specs.Tree.{parts_of}
use Rattle.tw_network.specs.TreeFaults.{parts_fault}
use Rattle.tw_network.proofs.tree_checks.check_parts.Given as goal

abbrev pub invariant-loop-name : goal.invariant-loop-name
invariant-loop-name g l = parts_fault g.M.Atomic.meaning [] (parts_of l.parts) ≡ parts_fault g.M.Atomic.meaning (map string_bytes l.names.keys) (parts_of (drop l.name-index l.parts))
