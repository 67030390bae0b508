-- Ports and couplings: known only of machines of which each port is a number.
--     level_warnings machines room path prefix d      of the components of a model in order, of each what is in it too, and then of its couplings in order
use Rattle.std.specs.Prelude.{◌+◌, ◌++◌, ◌==◌, ◌∷◌, [], ℕ, zero, suc, pos, negsuc, List, Bool, true, false, not, ◌&&◌, ◌||◌, Option, Some, None, codes, is_some, nat_lt, if◌then◌else◌}
use Rattle.std.specs.List.{list_all, list_any}
use Rattle.std.specs.Option.{option_map_or}
use Rattle.std.specs.Str.{bytes_eq}
use Rattle.serde_json.specs.Data.{Data, Items}
use Rattle.tw_machine_text.specs.Kinds.{is_empty}
use Rattle.tw_machine_declaration.specs.Seen.{Output, Value, whole, tree}
use Rattle.tw_machine_file.specs.Seen.{Machine}
use Rattle.tw_machine_file.specs.Used.{some_item}
use Rattle.tw_models.specs.Kinds.{tally_name}
use Rattle.tw_file_members.specs.Members.{items_in, text_in}
use Rattle.tw_file_members.specs.Tables.{machine_at}
use Rattle.tw_machine_warnings.specs.Machines.{entry_place}
use Rattle.tw_machine_warnings.specs.Sought.{number_in}
use Rattle.tw_machine_warnings.specs.Warning.{Warning, where_so}
use Rattle.tw_machine_warnings.specs.declared.warning.Kind.TheVariants.{NoExternal, NotCoupled, SilentPort}
use Rattle.tw_file_warnings.specs.Places.{component_named, component_place, count_item, coupling_place, of_each, path_in, prefix_in, text_item}

-- ---- ports of a machine

-- a port that is a number
abbrev pub port_of : Value → Option ℕ
port_of (whole (pos n)) = Some n
port_of (whole (negsuc n)) = None
port_of (tree e) = number_in e

abbrev pub is_known : Output → Bool
is_known o = option_map_or (λ p. true) (port_of o.port) false

abbrev pub are_known : List Output → Bool
are_known os = list_all is_known os

-- whether an entry is sent on this port
abbrev pub is_on : ℕ → Output → Bool
is_on p o = option_map_or (λ n. n == p) (port_of o.port) false

-- ---- what is coupled to nothing

abbrev pub is_this : ℕ → Option ℕ → Bool
is_this p n = option_map_or (λ n. n == p) n false

-- a coupling from this port of the component of this name
abbrev pub leaves : List ℕ → ℕ → Data → Bool
leaves name p k = bytes_eq (text_item 0 k) name && is_this p (count_item 1 k)

-- an entry that is sent on this port, from which no coupling leads
abbrev pub is_loose : Data → List ℕ → ℕ → Bool
is_loose d name p = nat_lt p 16 && not (some_item (leaves name p) (items_in (codes "couplings") d))

-- it is sent whenever the outputs are: there is neither a condition nor a queue whose items it is sent for
abbrev pub is_plain : Output → Bool
is_plain o = not (is_some o.when) && not (is_some o.each)

abbrev pub loose_entry : Data → List ℕ → Output → Bool
loose_entry d name o = is_plain o && option_map_or (is_loose d name) (port_of o.port) false

abbrev pub entries_warnings : Data → List ℕ → List ℕ → ℕ → List Output → List Warning
entries_warnings d name place i [] = []
entries_warnings d name place i (o ∷ os) = where_so (loose_entry d name o) (entry_place place i) NotCoupled ++ entries_warnings d name place (i + 1) os

-- a component in a model
abbrev pub loose_by : Data → List ℕ → Data → Option Machine → List Warning
loose_by d place c None = []
loose_by d place c (Some m) =
    if are_known m.declaration.outputs then entries_warnings d (text_in (codes "name") c) (place ++ codes ", output") 0 m.declaration.outputs else []

abbrev pub loose_warnings : List Machine → Data → List ℕ → Data → List Warning
loose_warnings machines d place c = loose_by d place c (machine_at machines c)

-- ---- couplings

-- a machine that never sends on the port: each of its ports is a number, and none is this
abbrev pub is_silent : Option ℕ → Machine → Bool
is_silent (Some p) m = are_known m.declaration.outputs && not (list_any (is_on p) m.declaration.outputs)
is_silent None m = false

abbrev pub is_tally : Data → Bool
is_tally c = bytes_eq (text_in (codes "model") c) tally_name

abbrev pub sends_nothing : List Machine → Option ℕ → Data → Bool
sends_nothing machines p c = is_tally c || option_map_or (is_silent p) (machine_at machines c) false

abbrev pub is_deaf : Machine → Bool
is_deaf m = is_empty m.declaration.external

abbrev pub takes_nothing : List Machine → Data → Bool
takes_nothing machines c = option_map_or is_deaf (machine_at machines c) false

-- a coupling of a model of these components
abbrev pub coupling_warnings : List Machine → Items → List ℕ → Data → List Warning
coupling_warnings machines components place k =
    where_so (option_map_or (sends_nothing machines (count_item 1 k)) (component_named components (text_item 0 k)) false) place SilentPort
    ++ where_so (option_map_or (takes_nothing machines) (component_named components (text_item 2 k)) false) place NoExternal

abbrev pub couplings_warnings : List Machine → List ℕ → Data → List Warning
couplings_warnings machines path d =
    of_each (λ i k. coupling_warnings machines (items_in (codes "components") d) (coupling_place path i) k) 0 (items_in (codes "couplings") d)

-- ---- a model, of no more levels than there is room for

abbrev pub level_warnings : List Machine → ℕ → List ℕ → List ℕ → Data → List Warning
level_warnings machines zero path prefix d = []
level_warnings machines (suc room) path prefix d =
    of_each (λ i c. loose_warnings machines d (component_place path prefix i c) c ++ level_warnings machines room (path_in path i) (prefix_in prefix c) c) 0 (items_in (codes "components") d)
    ++ couplings_warnings machines path d
