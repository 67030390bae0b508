-- The records of the columns so far that are before the line.
use Rattle.std.proofs.Common.{◌≡◌, take}
use Rattle.tw_fossils.specs.Merging.{to_take}
use Rattle.tw_fossils.proofs.first.count_before.Given as goal

abbrev pub invariant-loop-column : goal.invariant-loop-column
invariant-loop-column l = l.count ≡ to_take l.line (take l.column-index l.columns)
