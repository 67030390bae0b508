use Rattle.std.proofs.Common.{◌≡◌, length, map}
use Rattle.std.specs.Prelude.{option_map}
use Rattle.tw_machine_text.specs.Desugared.{around, chosen}
use Rattle.tw_machine_text.specs.Views.{told, body, chain, parted}
use Rattle.tw_machine_text.proofs.desugaring.chosen.Given as goal

abbrev pub decreases-outwards : goal.decreases-outwards
decreases-outwards l = length l.before.items

-- what is left to be put around is what there was
abbrev pub invariant-outwards : goal.invariant-outwards
invariant-outwards l = around (map chain l.before.items) (told l.statement) ≡ chosen (parted l.fn.all) (option_map body l.fn.last)
