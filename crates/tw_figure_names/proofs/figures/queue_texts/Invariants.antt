use Rattle.std.proofs.Common.{◌≡◌, ◌++◌, drop, map, string_bytes}
use Rattle.tw_figure_names.specs.Entries.{queue_texts}
use Rattle.tw_figure_names.specs.EntryViews.{entry}
use Rattle.tw_figure_names.proofs.figures.queue_texts.Given as goal

-- what has come and what is to come
abbrev pub invariant-loop-said : goal.invariant-loop-said
invariant-loop-said l = map string_bytes l.texts.items ++ queue_texts (map entry (drop l.said-index l.entries)) ≡ queue_texts (map entry l.entries)
