use Rattle.std.proofs.Common.{◌≡◌, [], map}
use Rattle.serde_json.specs.View.{members_view}
use Rattle.tw_machine_file.specs.Constants.{file_constant}
use Rattle.tw_machine_file.specs.Shared.{constants_behind}
use Rattle.tw_machine_file.proofs.reading.constants_of.Given as goal

-- what has come, and what is to come
abbrev pub invariant-loop-name : goal.invariant-loop-name
invariant-loop-name l = constants_behind (map file_constant l.constants.items) (members_view l.name-iterator) ≡ constants_behind [] (members_view l.members.entries)
