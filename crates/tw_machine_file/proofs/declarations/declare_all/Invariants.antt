use Rattle.std.proofs.Common.{◌≡◌}
use Rattle.serde_json.specs.View.{members_view}
use Rattle.tw_machine_file.specs.Declares.{declare_all}
use Rattle.tw_machine_file.specs.Seen.{scope}
use Rattle.tw_machine_file.proofs.declarations.declare_all.Given as goal

-- what has come, and what is to come
abbrev pub invariant-loop-name : goal.invariant-loop-name
invariant-loop-name l = declare_all l.section (scope l.all) (members_view l.name-iterator) ≡ declare_all l.section (scope l.fn.so_far) (members_view l.members.entries)
