use Rattle.std.proofs.Common.{◌≡◌, ◌++◌, flat_map, string_bytes}
use Rattle.tw_record_lines.specs.FigureRows.{doubled}
use Rattle.tw_record_lines.proofs.figure_rows.add_doubled.Given as goal

abbrev pub invariant-loop-letter : goal.invariant-loop-letter
invariant-loop-letter l = string_bytes l.line ≡ string_bytes l.fn.line ++ flat_map doubled l.yielded
