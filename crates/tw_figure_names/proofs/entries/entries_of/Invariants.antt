use Rattle.std.proofs.Common.{◌≡◌, ◌++◌, drop, map}
use Rattle.serde_json.specs.View.{items_view}
use Rattle.tw_machine_declaration.specs.Seen.{value}
use Rattle.tw_figure_names.specs.Entries.{entries_of}
use Rattle.tw_figure_names.specs.EntryViews.{entry}
use Rattle.tw_figure_names.proofs.entries.entries_of.Given as goal

-- what has come and what is to come
abbrev pub invariant-loop-index : goal.invariant-loop-index
invariant-loop-index l =
    map entry l.entries.items ++ entries_of l.standings (map value (drop l.index l.words)) (items_view (drop l.index l.values))
    ≡ entries_of l.standings (map value l.words) (items_view l.values)
