-- Networks of atomic models, and where an output goes (Chow and Zeigler 1994).
--     routes net c port      the destinations to which component c's output on a port goes
--     routed net c s bag      the messages of stamp s that an output bag of component c makes
--     input tick to port value      a network input as the message that it is
use Rattle.std.specs.Prelude.{ℕ, ℤ, ◌<◌, ◌≡◌, List, [], ◌∷◌, ◌++◌, length, Bool, ◌&&◌, ◌||◌, ◌==◌, nat_lt, nat_le, if◌then◌else◌, None, slice_index_or}
use Rattle.std.specs.List.{AllByRecursion as Each}
use Rattle.tw_atomic.specs.Atomic.{Meaning}
use Rattle.tw_msgs.specs.Bags.{Bag}
use Rattle.tw_msgs.specs.declared.message.Message.{Message}
use Rattle.tw_vtime.specs.Stamps.{stamp, never, phase_of}

-- a coupling: source, port, destination, port
abbrev pub Coupling : Type 0
Coupling = ℕ × ℕ × ℕ × ℕ

-- where a message arrives: a component and a port
abbrev pub Destination : Type 0
Destination = ℕ × ℕ

-- What each component means, the couplings, what comes from outside, and the greatest microstep. Components are numbered from 0, in the order of the list; each coupling carries a message of its own
pub record Network (S : Type 0) : Type 0 where
  pub models : List (Meaning S)
  pub couplings : List Coupling
  pub inputs : List Message
  pub micro_limit : ℕ

abbrev pub count_of : {S : Type 0} → Network S → ℕ
count_of net = length net.models

-- a model that is not there: it does nothing
abbrev pub absent : {S : Type 0} → S → Meaning S
absent state = record {
  start = state;
  ta = λ s. None;
  out = λ s. [];
  int = λ s. s;
  ext = λ s elapsed bag. s;
  con = λ s elapsed bag. s;
  words = λ s. [];
}

-- the model of component c, which stands in this state
abbrev pub model_of : {S : Type 0} → Network S → ℕ → S → Meaning S
model_of net c state = slice_index_or net.models c (absent state)

-- ---- where an output goes

-- by component and then port
abbrev pub destination_at_or_before : Destination → Destination → Bool
destination_at_or_before x y = nat_lt x.0 y.0 || (x.0 == y.0) && nat_le x.1 y.1

abbrev pub insert_destination : Destination → List Destination → List Destination
insert_destination x [] = x ∷ []
insert_destination x (y ∷ ys) = if destination_at_or_before x y then x ∷ y ∷ ys else y ∷ insert_destination x ys

-- the destinations of the couplings of this source and port, in order
abbrev pub destinations : ℕ → ℕ → List Coupling → List Destination
destinations c port [] = []
destinations c port (k ∷ ks) = if (k.0 == c) && (k.1 == port) then insert_destination (k.2, k.3) (destinations c port ks) else destinations c port ks

abbrev pub routes : {S : Type 0} → Network S → ℕ → ℕ → List Destination
routes net c port = destinations c port net.couplings

-- one value to each destination
abbrev pub copies : ℕ → ℤ → List Destination → List Message
copies s v [] = []
copies s v (d ∷ ds) = record { stamp = s; port = d.1; value = v; to = d.0 } ∷ copies s v ds

-- for each item of the bag in order, and each destination of its port in order
abbrev pub routed : {S : Type 0} → Network S → ℕ → ℕ → Bag → List Message
routed net c s [] = []
routed net c s (item ∷ items) = copies s item.1 (routes net c item.0) ++ routed net c s items

-- a network input of a tick comes at its first microstep's transition
abbrev pub input : ℕ → ℕ → ℕ → ℤ → Message
input tick to port value = record { stamp = stamp tick 0 1; port = port; value = value; to = to }

-- ---- what fits

-- a message of phase 1 to a component of the network
pub record Fits {S : Type 0} (net : Network S) (m : Message) : Type 0 where
  pub to : m.to < count_of net
  pub phase : phase_of m.stamp ≡ 1
  pub stamp : m.stamp < never

-- a network whose inputs fit, and whose couplings lead to its components
pub record IsNetwork {S : Type 0} (net : Network S) : Type 0 where
  pub inputs : Each (Fits net) net.inputs
  pub couplings : Each (λ k. k.2 < count_of net) net.couplings
