-- One machine more of a file.
use Rattle.std.proofs.Common.{◌≡◌, ◌++◌, ◌∷◌, [], ◌+◌, ◌<◌, ℕ, suc, List, length, drop, get_or, add-one, drop-cons, sym}
use Rattle.std.specs.Prelude.{Ok}
use Rattle.serde_json.specs.Data.{Data}
use Rattle.serde_json.specs.View.{view, items_view}
use Rattle.serde_json.specs.declared.value.Value.{Value}
use Rattle.tw_machine_file.specs.Machines.{machine_behind, machines_behind}
use Rattle.tw_machine_file.specs.Seen.{Machine}
use Rattle.tw_machine_file.specs.Shared.{SharedNames}
use Rattle.tw_machine_file.proofs.Loops.{behind, behind_more}

pub one_more : (file : Data) (said : SharedNames) (values : List Value) (ms : List Machine) (names : List (List ℕ)) (i : ℕ) (v : Value) (m : Machine) (name : List ℕ)
    → i < length values → name ≡ m.name → machine_behind file said names (view (get_or values i v)) ≡ Ok m
    → behind (ms ++ m ∷ []) (machines_behind file said (names ++ name ∷ []) (items_view (drop (i + 1) values))) ≡ behind ms (machines_behind file said names (items_view (drop i values)))
one_more file said values ms names i v m name lt named is =
    rw (add-one, drop-cons values i v lt, is, named) (sym (behind_more ms m (machines_behind file said (names ++ m.name ∷ []) (items_view (drop (suc i) values)))))
