use Rattle.std.proofs.Common.{◌≡◌, drop}
use Rattle.serde_json.specs.View.{items_view}
use Rattle.tw_machine_declaration.specs.TimedViews.{named}
use Rattle.tw_machine_file.specs.Seen.{scope}
use Rattle.tw_machine_file.specs.Timers.{timers_named}
use Rattle.tw_machine_file.proofs.timers.timers_named.Given as goal

-- what has come, and what is to come
abbrev pub invariant-loop-value : goal.invariant-loop-value
invariant-loop-value l = timers_named (named l.names) (scope l.all) (items_view (drop l.value-index l.values)) ≡ timers_named (named l.names) (scope l.fn.so_far) (items_view l.values)
