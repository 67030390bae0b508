-- Those of the components so far.
use Rattle.std.proofs.Common.{◌≡◌, [], map, take}
use Rattle.tw_figures.specs.Gathered.{start_words}
use Rattle.tw_network.specs.Contents.{network_of}
use Rattle.tw_record_lines.specs.FigureTables.{table_of}
use Rattle.tw_record_lines.specs.Gathering.{all_values}
use Rattle.tw_record_lines.proofs.figure_lines.first_values.Given as goal

abbrev pub invariant-loop-component : goal.invariant-loop-component
invariant-loop-component g l =
    map (λ v. v.items) l.values.items
    ≡ all_values (table_of (g.N.Names.name_of l.table.names.now) l.table.labels.now l.table.shown.now l.table.from) 0 (take l.component (start_words (network_of g.M.Atomic.meaning l.network))) []
