use Rattle.std.proofs.Common.{◌≡◌, ◌++◌, drop, map}
use Rattle.tw_figures.specs.Labelled.{figure}
use Rattle.tw_figure_names.specs.Entries.{placed}
use Rattle.tw_figure_names.specs.EntryViews.{number}
use Rattle.tw_figure_names.proofs.figures.placed.Given as goal

-- what has come and what is to come
abbrev pub invariant-loop-place : goal.invariant-loop-place
invariant-loop-place l = map figure l.figures.items ++ placed l.place (map number (drop l.place l.names)) ≡ placed 0 (map number l.names)
