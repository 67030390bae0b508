use Rattle.std.proofs.Common.{◌≡◌, drop, map, string_bytes}
use Rattle.tw_machine_text.specs.Text.{position}
use Rattle.tw_machine_file.proofs.names.place_in.Given as goal

abbrev pub invariant-loop-index : goal.invariant-loop-index
invariant-loop-index l = position l.index (map string_bytes (drop l.index l.names)) l.text ≡ position 0 (map string_bytes l.names) l.text
