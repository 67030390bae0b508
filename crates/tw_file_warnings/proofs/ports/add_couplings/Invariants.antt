use Rattle.std.proofs.Common.{◌≡◌, ◌++◌, drop, map}
use Rattle.serde_json.specs.View.{items_view}
use Rattle.tw_machine_file.specs.Seen.{machine}
use Rattle.tw_machine_warnings.specs.Warning.{warning}
use Rattle.tw_file_warnings.specs.Places.{coupling_place, of_each}
use Rattle.tw_file_warnings.specs.Ports.{coupling_warnings}
use Rattle.tw_file_warnings.proofs.ports.add_couplings.Given as goal

-- what has come, and what is to come
abbrev pub invariant-loop-index : goal.invariant-loop-index
invariant-loop-index l =
    map warning l.warnings.items
    ++ of_each (λ i k. coupling_warnings (map machine l.machines) (items_view l.components) (coupling_place l.path i) k) l.index (items_view (drop l.index l.couplings))
    ≡ map warning l.fn.warnings.items
    ++ of_each (λ i k. coupling_warnings (map machine l.machines) (items_view l.components) (coupling_place l.path i) k) 0 (items_view l.couplings)
