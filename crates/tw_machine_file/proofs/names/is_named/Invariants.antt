use Rattle.std.proofs.Common.{◌≡◌, drop, map, string_bytes}
use Rattle.tw_machine_file.specs.Names.{is_among}
use Rattle.tw_machine_file.proofs.names.is_named.Given as goal

abbrev pub invariant-loop-name : goal.invariant-loop-name
invariant-loop-name l = is_among (map string_bytes (drop l.name-index l.names)) l.text ≡ is_among (map string_bytes l.names) l.text
