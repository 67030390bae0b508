use Rattle.std.proofs.Common.{◌≡◌, ◌++◌, drop, map, take}
use Rattle.tw_figure_names.specs.Entries.{before_queue}
use Rattle.tw_figure_names.specs.EntryViews.{entry}
use Rattle.tw_figure_names.proofs.figures.queue_at.Given as goal

-- no queue has come
abbrev pub invariant-loop-index : goal.invariant-loop-index
invariant-loop-index l = map entry (take l.index l.entries) ++ before_queue (map entry (drop l.index l.entries)) ≡ before_queue (map entry l.entries)
