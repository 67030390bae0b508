use Rattle.std.proofs.Common.{◌≡◌, ◌++◌, Some, map}
use Rattle.std.specs.List.{range_with_len}
use Rattle.tw_figure_names.specs.Entries.{cell_name}
use Rattle.tw_figure_names.specs.EntryViews.{number}
use Rattle.tw_figure_names.proofs.figures.add_cells.Given as goal

abbrev pub invariant-loop-cell : goal.invariant-loop-cell
invariant-loop-cell l = map number l.names.items ≡ map number l.fn.names.items ++ map (λ i. Some (cell_name l.text i)) (range_with_len 0 l.cell-counter)
