use Rattle.std.proofs.Common.{◌≡◌, drop, map}
use Rattle.tw_machine_file.specs.Names.{is_among}
use Rattle.tw_machine_file.proofs.reading.is_name_in.Given as goal

abbrev pub invariant-loop-name : goal.invariant-loop-name
invariant-loop-name l = is_among (map (λ n. n.now) (drop l.name-index l.names)) l.text ≡ is_among (map (λ n. n.now) l.names) l.text
