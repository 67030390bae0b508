use Rattle.std.proofs.Common.{◌≡◌, ◌++◌, drop, map, string_bytes}
use Rattle.tw_machine_warnings.specs.Warning.{lines_of, warning}
use Rattle.tw_machine_warnings.proofs.warning.lines_of.Given as goal

-- what has come, and what is to come
abbrev pub invariant-loop-one : goal.invariant-loop-one
invariant-loop-one l = string_bytes l.lines ++ lines_of (map warning (drop l.one-index l.warnings)) ≡ lines_of (map warning l.warnings)
