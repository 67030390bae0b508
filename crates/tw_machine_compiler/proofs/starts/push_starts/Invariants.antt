use Rattle.std.proofs.Common.{◌≡◌, ◌++◌, drop, map}
use Rattle.tw_machine_declaration.specs.Seen.{given}
use Rattle.tw_machine_declaration.specs.Names.{start_of}
use Rattle.tw_machine_compiler.proofs.starts.push_starts.Given as goal

-- what has come and what is to come
abbrev pub invariant-loop-start : goal.invariant-loop-start
invariant-loop-start l = l.cells.items ++ map (start_of (given l.given)) (drop l.start-index l.starts) ≡ l.initial.cells.items ++ map (start_of (given l.given)) l.starts
