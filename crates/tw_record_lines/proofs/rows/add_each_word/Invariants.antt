-- what is written and what is still to come are the lines
use Rattle.std.proofs.Common.{◌≡◌, ◌++◌, drop}
use Rattle.tw_record_lines.specs.Tables.{word_rows}
use Rattle.tw_record_lines.proofs.rows.add_each_word.Given as goal

abbrev pub invariant-loop-place : goal.invariant-loop-place
invariant-loop-place l =
    l.lines.text ++ word_rows l.cells.name.now l.cells.at l.cells.kind l.place (drop l.place l.words) ≡ l.fn.lines.text ++ word_rows l.cells.name.now l.cells.at l.cells.kind 0 l.words
