use Rattle.std.proofs.Common.{◌≡◌, drop}
use Rattle.tw_machine_declaration.specs.Names.{first_place}
use Rattle.tw_machine_declaration.proofs.starts.first_place.Given as goal

abbrev pub invariant-loop-place : goal.invariant-loop-place
invariant-loop-place l = first_place l.place l.at (drop l.place l.ticks) ≡ first_place 0 l.at l.ticks
