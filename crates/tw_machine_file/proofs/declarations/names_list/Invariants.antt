use Rattle.std.proofs.Common.{◌≡◌}
use Rattle.serde_json.specs.View.{members_view}
use Rattle.tw_machine_file.specs.Declares.{names_list}
use Rattle.tw_machine_file.proofs.declarations.names_list.Given as goal

abbrev pub invariant-loop-value : goal.invariant-loop-value
invariant-loop-value l = names_list l.text (members_view l.value-iterator) ≡ names_list l.text (members_view l.tables.entries)
