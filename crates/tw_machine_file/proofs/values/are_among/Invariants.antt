use Rattle.std.proofs.Common.{◌≡◌, map}
use Rattle.serde_json.specs.View.{members_view}
use Rattle.tw_machine_file.specs.Values.{are_among}
use Rattle.tw_machine_file.proofs.values.are_among.Given as goal

abbrev pub invariant-loop-name : goal.invariant-loop-name
invariant-loop-name l = are_among (map (λ n. n.now) l.names) (members_view l.name-iterator) ≡ are_among (map (λ n. n.now) l.names) (members_view l.members.entries)
