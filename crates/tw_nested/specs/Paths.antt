-- Where an output of a part leads, along the couplings of the models that it is in, and of those that it enters.
--     Path models (c, p) (d, q)      a path leads from output p of part c to input q of part d
use Rattle.std.specs.Prelude.{ℕ, ◌≡◌, ◌≢◌, ◌<◌, List, length, slice_index}
use Rattle.std.specs.List.{All, Contains}
use Rattle.tw_nested.specs.declared.tree.End.{End}
use Rattle.tw_nested.specs.declared.tree.End.TheVariants.{Here, Part}
use Rattle.tw_nested.specs.Tree.{Model, Link}
use Rattle.tw_nested.specs.Reach.{Edge}
use Rattle.tw_nested.specs.Flat.{in_of, out_of}

-- part c is the i-th of a model
abbrev pub IsPart : Model → ℕ → ℕ → Type 0
IsPart m i c = (i < length m.parts) × (slice_index m.parts i ≡ c)

-- a coupling from a part to the model around it
pub record Leaves (models : List Model) (c p n q : ℕ) : Type 0 where
  pub model : Model
  pub among : Contains models model
  pub around : model.number ≡ n
  pub place : ℕ
  pub part : IsPart model place c
  pub link : Contains model.links (Part place, p, Here, q)

-- a coupling from a part to a part
pub record Crosses (models : List Model) (c p d q : ℕ) : Type 0 where
  pub model : Model
  pub among : Contains models model
  pub source : ℕ
  pub source_part : IsPart model source c
  pub destination : ℕ
  pub destination_part : IsPart model destination d
  pub link : Contains model.links (Part source, p, Part destination, q)

-- a coupling from a model just entered to a part of it
pub record Enters (models : List Model) (n p d q : ℕ) : Type 0 where
  pub model : Model
  pub among : Contains models model
  pub entered : model.number ≡ n
  pub place : ℕ
  pub part : IsPart model place d
  pub link : Contains model.links (Here, p, Part place, q)

-- couplings to the models around, none or more
pub data Outwards (models : List Model) (c p : ℕ) : ℕ → ℕ → Type 0 where
  at_once : Outwards models c p c p
  leaving : (d r n q : ℕ) → Outwards models c p d r → Leaves models d r n q → Outwards models c p n q

-- these, one coupling from a part to a part, and then couplings into the models entered, none or more
pub data Path (models : List Model) (c p : ℕ) : ℕ → ℕ → Type 0 where
  across : (d r e s : ℕ) → Outwards models c p d r → Crosses models d r e s → Path models c p e s
  entering : (n r e s : ℕ) → Path models c p n r → Enters models n r e s → Path models c p e s

-- ---- the couplings of all models, as couplings of numbered ports

-- the port of an end as a source, and as a destination
abbrev pub source_of : ℕ → Model → End → ℕ → ℕ
source_of count m Here port = in_of count m.number port
source_of count m (Part i) port = out_of count (slice_index m.parts i) port

abbrev pub destination_of : ℕ → Model → End → ℕ → ℕ
destination_of count m Here port = out_of count m.number port
destination_of count m (Part i) port = in_of count (slice_index m.parts i) port

abbrev pub edge_of : ℕ → Model → Link → Edge
edge_of count m k = (source_of count m k.0 k.1, destination_of count m k.2 k.3)

-- e is the coupling of two ports that a coupling of a model makes
pub record IsEdge (count : ℕ) (models : List Model) (e : Edge) : Type 0 where
  pub model : Model
  pub among : Contains models model
  pub link : Link
  pub held : Contains model.links link
  pub is : edge_of count model link ≡ e

-- ---- what is true of a tree's models, where none of their couplings is at fault

abbrev pub IsEnd : Model → End → Type 0
IsEnd m Here = Unit {0}
IsEnd m (Part i) = i < length m.parts

-- not the same part, nor both the model itself
abbrev pub AreApart : End → End → Type 0
AreApart (Part i) (Part j) = i ≢ j
AreApart (Part i) Here = Unit {0}
AreApart Here (Part j) = Unit {0}
AreApart Here Here = ⊥

pub record IsLink (m : Model) (k : Link) : Type 0 where
  pub source : IsEnd m k.0
  pub source_port : k.1 < 16
  pub destination : IsEnd m k.2
  pub destination_port : k.3 < 16
  pub apart : AreApart k.0 k.2

-- each part has a number above that of the model around it
pub record IsModel (count : ℕ) (m : Model) : Type 0 where
  pub number : m.number < count
  pub above : All (λ c. m.number < c) m.parts
  pub below : All (λ c. c < count) m.parts
  pub links : All (IsLink m) m.links
