-- What a network holds, as contracts see it.
--     Contents M      names, models, couplings, inputs and the greatest microstep
--     network_of meaning n      the network of the theory that these contents mean
--     handed_in components couplings inputs micro_limit      the contents that are made of these
--     IsWhole meaning n      what is true of the contents of every network
use Rattle.std.specs.Prelude.{ℕ, ℤ, ◌≡◌, ◌≢◌, ◌<◌, ◌≤◌, List, ◌∷◌, ◌++◌, length, map, Bool, true, ◌&&◌, ◌||◌, ◌==◌, nat_le, String, string_bytes}
use Rattle.std.specs.Char.{is_ascii_alphanumeric}
use Rattle.std.specs.Global.{Global, Vec}
use Rattle.std.specs.List.{All, AllPairs, list_all}
use Rattle.std.specs.Option.{ForSome}
use Rattle.tw_atomic.specs.Atomic.{Meaning}
use Rattle.tw_msgs.specs.declared.message.Message.{Message}
use Rattle.tw_theory.specs.Network.{Network, Coupling, Destination, IsNetwork, input}
use Rattle.tw_vtime.specs.Stamps.{max_tick, max_microstep}

-- what comes from outside: tick, component, port, value
abbrev pub Input : Type 0
Input = ℕ × ℕ × ℕ × ℤ

pub record Contents (M : Type 0) : Type 0 where
  -- each component's name as its bytes, in order
  pub names : List (List ℕ)
  pub models : List M
  pub couplings : List Coupling
  pub inputs : List Input
  -- the greatest microstep
  pub micro_limit : ℕ

-- the contents, with the names as strings
abbrev pub contents_of : {M : Type 0} → List (String Global) → List M → List Coupling → List Input → ℕ → Contents M
contents_of names models couplings inputs micro_limit = record {
  names = map string_bytes names;
  models = models;
  couplings = couplings;
  inputs = inputs;
  micro_limit = micro_limit;
}

-- an input as the message that it is
abbrev pub message_of : Input → Message
message_of i = input i.0 i.1 i.2 i.3

abbrev pub network_of : {M S : Type 0} → (M → Meaning S) → Contents M → Network S
network_of meaning n = record {
  models = map meaning n.models;
  couplings = n.couplings;
  inputs = map message_of n.inputs;
  micro_limit = n.micro_limit;
}

-- ---- what a network is made of

-- texts as their bytes
abbrev pub texts_of : List (String Global) → List (List ℕ)
texts_of texts = map string_bytes texts

-- components with the bytes of their names
abbrev pub named : {M : Type 0} → List (String Global × M) → List (List ℕ × M)
named components = map (λ c. (string_bytes c.0, c.1)) components

abbrev pub names_of : {M : Type 0} → List (List ℕ × M) → List (List ℕ)
names_of components = map (λ c. c.0) components

abbrev pub models_of : {M : Type 0} → List (List ℕ × M) → List M
models_of components = map (λ c. c.1) components

abbrev pub handed_in : {M : Type 0} → List (List ℕ × M) → List Coupling → List Input → ℕ → Contents M
handed_in components couplings inputs micro_limit = record {
  names = names_of components;
  models = models_of components;
  couplings = couplings;
  inputs = inputs;
  micro_limit = micro_limit;
}

-- the contents that are made of these components (name and model), couplings, inputs and greatest microstep
abbrev pub made_of : {M : Type 0} → Vec (String Global × M) → Vec Coupling → Vec Input → ℕ → Contents M
made_of components couplings inputs micro_limit = handed_in (named components.items) couplings.items inputs.items micro_limit

-- ---- what is true of every network

-- an ASCII letter or digit, `_` or `-`
abbrev pub is_name_byte : ℕ → Bool
is_name_byte b = is_ascii_alphanumeric b || (b == 95) || (b == 45)

-- one to 32 of these
abbrev pub is_name : List ℕ → Bool
is_name name = nat_le 1 (length name) && nat_le (length name) 32 && list_all is_name_byte name

-- a name, or names joined by dots: of an atom in a coupled model, the names on its way
pub data IsFlatName : List ℕ → Type 0 where
  alone : (name : List ℕ) → is_name name ≡ true → IsFlatName name
  within : (name rest : List ℕ) → is_name name ≡ true → IsFlatName rest → IsFlatName (name ++ 46 ∷ rest)

-- a start state that is passive, or whose time advance is no later than the last tick
abbrev pub StartsInTime : {S : Type 0} → Meaning S → Type 0
StartsInTime m = ForSome (m.ta m.start) (λ ta. ta ≤ max_tick)

-- from a component's port to a port of another component, of count components
pub record IsCoupling (count : ℕ) (k : Coupling) : Type 0 where
  pub source : k.0 < count
  pub source_port : k.1 ≤ 15
  pub destination : k.2 < count
  pub destination_port : k.3 ≤ 15
  pub apart : k.0 ≢ k.2

-- a port of one of count components
pub record IsPlace (count : ℕ) (place : Destination) : Type 0 where
  pub known : place.0 < count
  pub port : place.1 ≤ 15

-- to a component's port, in time
pub record IsInput (count : ℕ) (i : Input) : Type 0 where
  pub tick : i.0 ≤ max_tick
  pub to : i.1 < count
  pub port : i.2 ≤ 15

pub record IsWhole {M S : Type 0} (meaning : M → Meaning S) (n : Contents M) : Type 0 where
  pub all_named : length n.names ≡ length n.models
  pub names : All IsFlatName n.names
  pub distinct : AllPairs (λ a b. a ≢ b) n.names
  pub starts : All (λ m. StartsInTime (meaning m)) n.models
  pub couplings : All (IsCoupling (length n.models)) n.couplings
  pub coupled_once : AllPairs (λ a b. a ≢ b) n.couplings
  pub inputs : All (IsInput (length n.models)) n.inputs
  pub component_count : length n.models ≤ 1024
  pub coupling_count : length n.couplings ≤ 8192
  pub input_count : length n.inputs ≤ 65536
  pub some_microstep : 1 ≤ n.micro_limit
  pub microsteps : n.micro_limit ≤ max_microstep
  -- in the words of the theory
  pub network : IsNetwork (network_of meaning n)
