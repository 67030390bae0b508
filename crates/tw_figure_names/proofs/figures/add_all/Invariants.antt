use Rattle.std.proofs.Common.{◌≡◌, ◌++◌, flat_map, length, map, take}
use Rattle.tw_figures.specs.Labelled.{observation}
use Rattle.tw_figure_names.specs.Entries.{numbers_of, observed_from}
use Rattle.tw_figure_names.specs.EntryViews.{entry, number}
use Rattle.tw_figure_names.proofs.figures.add_all.Given as goal

abbrev pub invariant-loop-said : goal.invariant-loop-said
invariant-loop-said l =
    record {
      names : map number l.numbers.names.items ≡ map number l.fn.numbers.names.items ++ flat_map numbers_of (map entry (take l.said-index l.entries));
      observations : map observation l.numbers.observations.items ≡ map observation l.fn.numbers.observations.items ++ observed_from (length l.fn.numbers.names.items) (map entry (take l.said-index l.entries));
    }
