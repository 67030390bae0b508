-- For what a tree of coupled models is refused.
--     IsTreeFault meaning parts links inputs micro_limit e      e is the first fault
--     IsTreeFaultOf meaning root inputs micro_limit e      the same of the root of a tree
--     tree_fault meaning parts links inputs micro_limit      the same, as far as it is found in the tree itself
use Rattle.std.specs.Prelude.{ℕ, ◌≡◌, List, [], ◌∷◌, ◌++◌, ◌+◌, length, Bool, true, false, not, ◌&&◌, ◌==◌, nat_le, nat_lt, Option, None, Some, String}
use Rattle.std.specs.Global.{Global}
use Rattle.std.specs.List.{list_any}
use Rattle.std.specs.Option.{option_or}
use Rattle.tw_atomic.specs.Atomic.{Meaning}
use Rattle.tw_nested.specs.declared.tree.End.{End}
use Rattle.tw_nested.specs.declared.tree.Nested.{Nested}
use Rattle.tw_nested.specs.declared.tree.Part as part_type
use Rattle.tw_nested.specs.declared.tree.End.TheVariants.{Here, Part}
use Rattle.tw_nested.specs.Tree.{Parts, Link, no_parts, atom, coupled, levels, coupled_count, link_count, links_of, models_in, only_part, part_count, tree_of}
use Rattle.tw_nested.specs.Whole.{AreCouplings, AreTooMany}
use Rattle.tw_network.specs.Contents.{Input, texts_of}
use Rattle.tw_network.specs.Faults.{unless, first_of, limit_fault, name_fault, has_name, starts_in_time, inputs_fault}
use Rattle.tw_network.specs.declared.refused.NetworkRefused.{NetworkRefused}
use Rattle.tw_network.specs.declared.refused.NetworkRefused.TheVariants.{UnknownComponent, BadPort, SelfCoupling, DuplicateRoute, TooMany, BadTick, DuplicateName}
use Rattle.tw_theory.specs.Network.{Coupling}

-- ---- too many

-- no more than 16 levels, 1,024 atoms, 1,024 coupled parts and 8,192 couplings over all models
abbrev pub is_few : {M : Type 0} → Parts M → List Link → Bool
is_few parts links = nat_le (levels parts) 16 && nat_le (length (models_in parts)) 1024 && nat_le (coupled_count parts) 1024 && nat_le (length links + link_count parts) 8192

abbrev pub tree_count_fault : {M : Type 0} → Parts M → List Link → ℕ → Option NetworkRefused
tree_count_fault parts links inputs = unless (is_few parts links && nat_le inputs 65536) TooMany

-- ---- the parts of one model, after parts of these names

abbrev pub part_name_fault : List (List ℕ) → List ℕ → Option NetworkRefused
part_name_fault names name = option_or (name_fault name) (unless (not (has_name names name)) DuplicateName)

abbrev pub start_fault : {S : Type 0} → Meaning S → Option NetworkRefused
start_fault m = unless (starts_in_time m) BadTick

abbrev pub parts_fault : {M S : Type 0} → (M → Meaning S) → List (List ℕ) → Parts M → Option NetworkRefused
parts_fault meaning names no_parts = None
parts_fault meaning names (atom name m rest) = option_or (option_or (part_name_fault names name) (start_fault (meaning m))) (parts_fault meaning (names ++ name ∷ []) rest)
parts_fault meaning names (coupled name inner links rest) = option_or (part_name_fault names name) (parts_fault meaning (names ++ name ∷ []) rest)

-- ---- the couplings of one model, which has count parts

-- an end that is there: one of the parts, or the model itself, which at the root has no ports
abbrev pub is_end : Bool → ℕ → End → Bool
is_end is_root count Here = not is_root
is_end is_root count (Part i) = nat_lt i count

-- the same part, or both the model itself
abbrev pub same_end : End → End → Bool
same_end Here Here = true
same_end Here (Part j) = false
same_end (Part i) Here = false
same_end (Part i) (Part j) = i == j

-- of a coupling alone: its ends, its ports, and its ends again
abbrev pub link_end_fault : Bool → ℕ → Link → Option NetworkRefused
link_end_fault is_root count k =
    option_or (unless (is_end is_root count k.0 && is_end is_root count k.2) UnknownComponent)
    (option_or (unless (nat_le k.1 15 && nat_le k.3 15) BadPort)
    (unless (not (same_end k.0 k.2)) SelfCoupling))

abbrev pub same_link : Link → Link → Bool
same_link j k = same_end j.0 k.0 && (j.1 == k.1) && same_end j.2 k.2 && (j.3 == k.3)

abbrev pub has_link : List Link → Link → Bool
has_link links k = list_any (same_link k) links

-- of a coupling after these: its own, and a coupling that stood before
abbrev pub link_fault : Bool → ℕ → List Link → Link → Option NetworkRefused
link_fault is_root count before k = option_or (link_end_fault is_root count k) (unless (not (has_link before k)) DuplicateRoute)

abbrev pub links_fault : Bool → ℕ → List Link → Option NetworkRefused
links_fault is_root count links = first_of (link_fault is_root count) [] links

-- ---- the models, depth first, a model before the models in it

-- of one model alone: its parts, and then its couplings
abbrev pub own_fault : {M S : Type 0} → (M → Meaning S) → Bool → Parts M → List Link → Option NetworkRefused
own_fault meaning is_root parts links = option_or (parts_fault meaning [] parts) (links_fault is_root (part_count parts) links)

-- of the models among these parts and in them
abbrev pub inner_fault : {M S : Type 0} → (M → Meaning S) → Parts M → Option NetworkRefused
inner_fault meaning no_parts = None
inner_fault meaning (atom name m rest) = inner_fault meaning rest
inner_fault meaning (coupled name inner links rest) = option_or (option_or (own_fault meaning false inner links) (inner_fault meaning inner)) (inner_fault meaning rest)

abbrev pub models_fault : {M S : Type 0} → (M → Meaning S) → Parts M → List Link → Option NetworkRefused
models_fault meaning parts links = option_or (own_fault meaning true parts links) (inner_fault meaning parts)

-- ---- all together, in order

abbrev pub tree_fault : {M S : Type 0} → (M → Meaning S) → Parts M → List Link → List Input → ℕ → Option NetworkRefused
tree_fault meaning parts links inputs micro_limit =
    option_or (tree_count_fault parts links (length inputs))
    (option_or (limit_fault micro_limit)
    (models_fault meaning parts links))

-- the first fault: in the tree, or else too many flat couplings, or else an input's
pub data IsTreeFault {M S : Type 0} (meaning : M → Meaning S) (parts : Parts M) (links : List Link) (inputs : List Input) (micro_limit : ℕ) : NetworkRefused → Type 0 where
  in_tree : (e : NetworkRefused) → tree_fault meaning parts links inputs micro_limit ≡ Some e → IsTreeFault meaning parts links inputs micro_limit e
  in_couplings : tree_fault meaning parts links inputs micro_limit ≡ None → AreTooMany parts links → IsTreeFault meaning parts links inputs micro_limit TooMany
  in_inputs : (flat : List Coupling) (e : NetworkRefused) → tree_fault meaning parts links inputs micro_limit ≡ None → AreCouplings parts links flat → inputs_fault (length (models_in parts)) inputs ≡ Some e → IsTreeFault meaning parts links inputs micro_limit e

-- ---- of what the code has: a coupled model, or the root of a tree

-- of a part of this name, after names as the code has them
abbrev pub part_fault_of : {M S : Type 0} → (M → Meaning S) → List (String Global) → List ℕ → part_type.Part M → Option NetworkRefused
part_fault_of {M} meaning names name part = parts_fault meaning (texts_of names) (only_part {M = M} name part)

abbrev pub own_fault_of : {M S : Type 0} → (M → Meaning S) → Bool → Nested M → Option NetworkRefused
own_fault_of {M} meaning is_root nested = own_fault meaning is_root (tree_of {M = M} nested) (links_of {M = M} nested)

abbrev pub models_fault_of : {M S : Type 0} → (M → Meaning S) → Nested M → Option NetworkRefused
models_fault_of {M} meaning root = models_fault meaning (tree_of {M = M} root) (links_of {M = M} root)

abbrev pub tree_count_fault_of : {M : Type 0} → Nested M → ℕ → Option NetworkRefused
tree_count_fault_of {M} root inputs = tree_count_fault (tree_of {M = M} root) (links_of {M = M} root) inputs

-- of inputs of the atoms
abbrev pub inputs_fault_of : {M : Type 0} → Nested M → List Input → Option NetworkRefused
inputs_fault_of {M} root inputs = inputs_fault (length (models_in (tree_of {M = M} root))) inputs

abbrev pub tree_fault_of : {M S : Type 0} → (M → Meaning S) → Nested M → List Input → ℕ → Option NetworkRefused
tree_fault_of {M} meaning root inputs micro_limit = tree_fault meaning (tree_of {M = M} root) (links_of {M = M} root) inputs micro_limit

abbrev pub IsTreeFaultOf : {M S : Type 0} → (M → Meaning S) → Nested M → List Input → ℕ → NetworkRefused → Type 0
IsTreeFaultOf {M} meaning root inputs micro_limit e = IsTreeFault meaning (tree_of {M = M} root) (links_of {M = M} root) inputs micro_limit e
