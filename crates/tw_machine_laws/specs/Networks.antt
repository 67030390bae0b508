-- A network whose components are replaced by models that cannot be told apart from them.
--     AreBisimilar R c ms ns      each of these models by the one at its place, of which the first is component c
--     with_models net ns      the network with these models in place of its own
--     AreShownAlike as bs      the records are the same, but that their words agree as numbers of 64 bits
use Rattle.std.specs.Prelude.{◌≡◌, ℕ, suc, ◌≤◌, List, [], ◌∷◌, map, Bool, true, false, ⊤, FitsSigned}
use Rattle.std.specs.List.{AllByRecursion as Each}
use Rattle.std.specs.Int.{w64}
use Rattle.tw_atomic.specs.Atomic.{Bag, Meaning}
use Rattle.tw_vtime.specs.Stamps.{max_tick}
use Rattle.tw_msgs.specs.declared.record.Record.{Record}
use Rattle.tw_msgs.specs.declared.record_kind.RecordKind.{RecordKind}
use Rattle.tw_theory.specs.Network.{Network}
use Rattle.tw_theory.specs.Simulator.{sequential}
use Rattle.tw_models.specs.declared.model.Model.TheVariants as model
use Rattle.tw_any_model.specs.AnyModel.{any_meaning}
use Rattle.tw_any_model.specs.declared.any_model.AnyModel.{AnyModel}
use Rattle.tw_any_model.specs.declared.any_model.AnyModel.TheVariants.{BuiltIn, Machine}
use Rattle.tw_any_model.specs.declared.any_model.AnyState.{AnyState}
use Rattle.tw_machine_laws.specs.Adder.{adder}
use Rattle.tw_machine_laws.specs.Bisimulation.{IsBisimulation, modulo}
use Rattle.tw_machine_laws.specs.Holder.{holder}
use Rattle.tw_machine_laws.specs.Line.{line}
use Rattle.tw_machine_laws.specs.Maker.{maker}

abbrev pub AreBisimilar : {S T : Type 0} → (ℕ → S → T → Type 0) → ℕ → List (Meaning S) → List (Meaning T) → Type 0
AreBisimilar R c [] [] = ⊤
AreBisimilar R c (m ∷ ms) (n ∷ ns) = IsBisimulation (R c) m n × AreBisimilar R (suc c) ms ns
AreBisimilar R c [] (n ∷ ns) = ⊥
AreBisimilar R c (m ∷ ms) [] = ⊥

abbrev pub with_models : {S T : Type 0} → Network S → List (Meaning T) → Network T
with_models net models = record { models = models; couplings = net.couplings; inputs = net.inputs; micro_limit = net.micro_limit }

-- a record, its words as numbers of 64 bits
pub record Shown : Type 0 where
  pub component : ℕ
  pub stamp : ℕ
  pub kind : RecordKind
  pub bag : Bag
  pub words : List ℕ

abbrev pub shown : Record → Shown
shown r = record { component = r.component; stamp = r.stamp; kind = r.kind; bag = r.bag; words = modulo r.words }

abbrev pub AreShownAlike : List Record → List Record → Type 0
AreShownAlike records others = map shown others ≡ map shown records

-- ---- of files' models

-- the machine that stands for a model, if there is one of tally, gen, relay and queue; any other as it is
abbrev pub as_machine : AnyModel → AnyModel
as_machine (BuiltIn (model.Gen g)) = Machine (record { program = maker g })
as_machine (BuiltIn model.Tally) = Machine (record { program = adder })
as_machine (BuiltIn (model.Relay r)) = Machine (record { program = holder r })
as_machine (BuiltIn (model.Queue q)) = Machine (record { program = line q })
as_machine (BuiltIn (model.Hop h)) = BuiltIn (model.Hop h)
as_machine (Machine m) = Machine m

-- some of these models replaced by machines: those at which this is true
abbrev pub replaced : List Bool → List AnyModel → List AnyModel
replaced [] ms = ms
replaced (b ∷ bs) [] = []
replaced (true ∷ bs) (m ∷ ms) = as_machine m ∷ replaced bs ms
replaced (false ∷ bs) (m ∷ ms) = m ∷ replaced bs ms

-- numbers of 64 bits with a sign: what a machine shows, and a built-in model but for a count from 2 ^ 63 on
abbrev pub HasWordsThatFit : Record → Type 0
HasWordsThatFit r = Each (FitsSigned w64) r.words

-- whichever of a network's models are replaced by machines, its sequential run has the same records and the same fault; where all words fit, to the last digit
pub record NetworksLaw : Type 0 where
  pub run : (net : Network AnyState) (models : List AnyModel) (which : List Bool) (until : ℕ) → net.models ≡ map any_meaning models → until ≤ max_tick
      → AreShownAlike (sequential net until).records (sequential (with_models net (map any_meaning (replaced which models))) until).records
  pub fault : (net : Network AnyState) (models : List AnyModel) (which : List Bool) (until : ℕ) → net.models ≡ map any_meaning models → until ≤ max_tick
      → (sequential (with_models net (map any_meaning (replaced which models))) until).fault ≡ (sequential net until).fault
  pub same : (records others : List Record) → AreShownAlike records others → Each HasWordsThatFit records → Each HasWordsThatFit others → others ≡ records
