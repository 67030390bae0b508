-- For what a network is refused, by what is handed in.
--     first_fault meaning components couplings inputs micro_limit      the first fault, if there is one
--     fault_of meaning components couplings inputs micro_limit      the same, of what the maker is handed
--     FailsBy result fault      where there is a refusal, and not for want of memory, it is this fault
--     counts_fault components couplings inputs      its first part: too many of anything
use Rattle.std.specs.Prelude.{ℕ, ◌≡◌, ◌≢◌, String, string_bytes, List, [], ◌∷◌, ◌++◌, length, Bool, true, false, not, ◌&&◌, ◌==◌, nat_le, nat_lt, Option, None, Some, Result, IfErr}
use Rattle.std.specs.Global.{Global, Vec}
use Rattle.std.specs.List.{list_any}
use Rattle.std.specs.Option.{option_or, option_map_or}
use Rattle.std.specs.Str.{bytes_eq}
use Rattle.tw_atomic.specs.Atomic.{Meaning}
use Rattle.tw_network.specs.Contents.{Input, is_name, named, names_of, texts_of}
use Rattle.tw_network.specs.declared.refused.NetworkRefused.{NetworkRefused}
use Rattle.tw_network.specs.declared.refused.NetworkRefused.TheVariants.{OutOfMemory, UnknownComponent, BadPort, SelfCoupling, DuplicateRoute, TooMany, BadTick, BadLimit, BadName, DuplicateName}
use Rattle.tw_theory.specs.Network.{Coupling}
use Rattle.tw_vtime.specs.Stamps.{max_tick, max_microstep}

-- what is true of a refusal, but for want of memory
abbrev pub IfRefused : {A : Type 0} → Result A NetworkRefused → (NetworkRefused → Type 0) → Type 0
IfRefused result P = IfErr result (λ e. e ≢ OutOfMemory → P e)

abbrev pub FailsBy : {A : Type 0} → Result A NetworkRefused → Option NetworkRefused → Type 0
FailsBy result fault = IfErr result (λ e. e ≢ OutOfMemory → fault ≡ Some e)

-- no fault where the test holds
abbrev pub unless : Bool → NetworkRefused → Option NetworkRefused
unless true fault = None
unless false fault = Some fault

-- the first fault of a list, each thing judged beside those that stood before it
abbrev pub first_of : {A : Type 0} → (List A → A → Option NetworkRefused) → List A → List A → Option NetworkRefused
first_of fault before [] = None
first_of fault before (x ∷ xs) = option_or (fault before x) (first_of fault (before ++ x ∷ []) xs)

-- ---- too many, and the greatest microstep

abbrev pub count_fault : ℕ → ℕ → ℕ → Option NetworkRefused
count_fault components couplings inputs = unless (nat_le components 1024 && nat_le couplings 8192 && nat_le inputs 65536) TooMany

abbrev pub limit_fault : ℕ → Option NetworkRefused
limit_fault micro_limit = unless (nat_le 1 micro_limit && nat_le micro_limit max_microstep) BadLimit

-- ---- components

abbrev pub name_fault : List ℕ → Option NetworkRefused
name_fault name = unless (is_name name) BadName

-- whether a name is among these
abbrev pub has_name : List (List ℕ) → List ℕ → Bool
has_name names name = list_any (bytes_eq name) names

-- whether the start state is passive, or has a time advance no later than the last tick
abbrev pub starts_in_time : {S : Type 0} → Meaning S → Bool
starts_in_time m = option_map_or (λ ta. nat_le ta max_tick) (m.ta m.start) true

-- of a component after those of these names: its name, a name that stood before, and its start state
abbrev pub component_fault : {M S : Type 0} → (M → Meaning S) → List (List ℕ) → List ℕ × M → Option NetworkRefused
component_fault meaning names c =
    option_or (name_fault c.0)
    (option_or (unless (not (has_name names c.0)) DuplicateName)
    (unless (starts_in_time (meaning c.1)) BadTick))

-- the same of a name and a model, after these names
abbrev pub component_fault_of : {M S : Type 0} → (M → Meaning S) → List (String Global) → String Global → M → Option NetworkRefused
component_fault_of meaning names name model = component_fault meaning (texts_of names) (string_bytes name, model)

-- ---- couplings and inputs, among count components

-- of a coupling alone: its ends, its ports, and its ends again
abbrev pub end_fault : ℕ → Coupling → Option NetworkRefused
end_fault count k =
    option_or (unless (nat_lt k.0 count && nat_lt k.2 count) UnknownComponent)
    (option_or (unless (nat_le k.1 15 && nat_le k.3 15) BadPort)
    (unless (not (k.0 == k.2)) SelfCoupling))

abbrev pub same_coupling : Coupling → Coupling → Bool
same_coupling j k = (j.0 == k.0) && (j.1 == k.1) && (j.2 == k.2) && (j.3 == k.3)

abbrev pub has_coupling : List Coupling → Coupling → Bool
has_coupling couplings k = list_any (same_coupling k) couplings

-- of a coupling after these: its own, and a coupling that stood before
abbrev pub coupling_fault : ℕ → List Coupling → Coupling → Option NetworkRefused
coupling_fault count before k = option_or (end_fault count k) (unless (not (has_coupling before k)) DuplicateRoute)

-- of an input: its component, its port and its tick
abbrev pub input_fault : ℕ → Input → Option NetworkRefused
input_fault count i =
    option_or (unless (nat_lt i.1 count) UnknownComponent)
    (option_or (unless (nat_le i.2 15) BadPort)
    (unless (nat_le i.0 max_tick) BadTick))

-- ---- all together, in order

abbrev pub components_fault : {M S : Type 0} → (M → Meaning S) → List (List ℕ × M) → Option NetworkRefused
components_fault meaning components = first_of (λ before c. component_fault meaning (names_of before) c) [] components

abbrev pub couplings_fault : ℕ → List Coupling → Option NetworkRefused
couplings_fault count couplings = first_of (coupling_fault count) [] couplings

abbrev pub inputs_fault : ℕ → List Input → Option NetworkRefused
inputs_fault count inputs = first_of (λ before i. input_fault count i) [] inputs

-- of the couplings, and then of the inputs
abbrev pub ends_fault : ℕ → List Coupling → List Input → Option NetworkRefused
ends_fault count couplings inputs = option_or (couplings_fault count couplings) (inputs_fault count inputs)

abbrev pub first_fault : {M S : Type 0} → (M → Meaning S) → List (List ℕ × M) → List Coupling → List Input → ℕ → Option NetworkRefused
first_fault meaning components couplings inputs micro_limit =
    option_or (count_fault (length components) (length couplings) (length inputs))
    (option_or (limit_fault micro_limit)
    (option_or (components_fault meaning components)
    (option_or (couplings_fault (length components) couplings)
    (inputs_fault (length components) inputs))))

-- ---- of what the maker of a network is handed

abbrev pub counts_fault : {M : Type 0} → Vec (String Global × M) → Vec Coupling → Vec Input → Option NetworkRefused
counts_fault components couplings inputs = count_fault (length components.items) (length couplings.items) (length inputs.items)

abbrev pub fault_of : {M S : Type 0} → (M → Meaning S) → Vec (String Global × M) → Vec Coupling → Vec Input → ℕ → Option NetworkRefused
fault_of meaning components couplings inputs micro_limit = first_fault meaning (named components.items) couplings.items inputs.items micro_limit
