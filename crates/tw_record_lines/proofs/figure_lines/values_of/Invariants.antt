use Rattle.std.proofs.Common.{◌≡◌, ◌++◌, drop, map}
use Rattle.tw_figures.specs.Labelled.{figure}
use Rattle.tw_record_lines.specs.FigureRows.{values_in}
use Rattle.tw_record_lines.proofs.figure_lines.values_of.Given as goal

-- what has come and what is to come
abbrev pub invariant-loop-figure : goal.invariant-loop-figure
invariant-loop-figure l =
    l.values.items ++ values_in (map figure (drop l.figure-index l.figures)) l.words ≡ values_in (map figure l.figures) l.words
