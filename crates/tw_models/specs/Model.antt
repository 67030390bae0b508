-- The models together: each acts on states of its own kind. A state of another kind is passive and silent, and no transition changes it.
--     model_meaning m      the plain functions of a model
--     IsModel m s      the numbers of a state of the model's own kind fit
--     LiesInPlace s      a state that has no part on the heap
--     model_residue, model_undone      what a turn keeps, and the state before it
--     model_longest m      the longest wait that a model tells
use Rattle.std.specs.Prelude.{ℕ, [], Option, Some, None, ⊤}
use Rattle.tw_atomic.specs.Atomic.{Bag, Meaning}
use Rattle.tw_atomic.specs.Waiting.{told_wait}
use Rattle.tw_atomic.specs.declared.Turn.{Turn}
use Rattle.tw_models.specs.declared.generator.GenState.{GenState}
use Rattle.tw_models.specs.declared.tally.TallyState.{TallyState}
use Rattle.tw_models.specs.declared.relay.RelayState.{RelayState}
use Rattle.tw_models.specs.declared.queue.QueueState.{QueueState}
use Rattle.tw_models.specs.declared.hop.HopState.{HopState}
use Rattle.tw_models.specs.declared.model.Model.{Model}
use Rattle.tw_models.specs.declared.model.Model.TheVariants.{Gen, Tally, Relay, Queue, Hop}
use Rattle.tw_models.specs.declared.model.State.{State}
use Rattle.tw_models.specs.declared.model.State.TheVariants.{OfGen, OfTally, OfRelay, OfQueue, OfHop}
use Rattle.tw_models.specs.declared.model.Residue.{Residue}
use Rattle.tw_models.specs.declared.model.Residue.TheVariants.{Nothing, TallyLast, RelayParts, QueueParts}
use Rattle.tw_models.specs.Gen.{IsGen, gen_meaning, gen_undone}
use Rattle.tw_models.specs.Tally.{IsTally, tally_meaning, tally_undone}
use Rattle.tw_models.specs.Relay.{IsRelay, relay_meaning, relay_residue, relay_undone}
use Rattle.tw_models.specs.Queue.{IsQueue, queue_meaning, queue_residue, queue_undone}
use Rattle.tw_models.specs.Hop.{IsHop, hop_meaning, hop_undone}

-- a function of a part that may be missing
abbrev pub part_or : {A B : Type 0} → B → (A → B) → Option A → B
part_or other f None = other
part_or other f (Some a) = f a

-- a fact on a part, if there is one
abbrev pub IfPart : {A : Type 0} → (A → Type 0) → Option A → Type 0
IfPart P None = ⊤
IfPart P (Some a) = P a

-- a model of parts, as a model of states that may have such a part
abbrev pub within : {A S : Type 0} → (A → S) → (S → Option A) → Meaning A → Meaning S
within whole part m =
    record {
      start = whole m.start;
      ta = λ s. part_or None m.ta (part s);
      out = λ s. part_or [] m.out (part s);
      int = λ s. part_or s (λ a. whole (m.int a)) (part s);
      ext = λ s elapsed bag. part_or s (λ a. whole (m.ext a elapsed bag)) (part s);
      con = λ s elapsed bag. part_or s (λ a. whole (m.con a elapsed bag)) (part s);
      words = λ s. part_or [] m.words (part s);
    }

abbrev pub gen_part : State → Option GenState
gen_part (OfGen s) = Some s
gen_part _ = None

abbrev pub tally_part : State → Option TallyState
tally_part (OfTally s) = Some s
tally_part _ = None

abbrev pub relay_part : State → Option RelayState
relay_part (OfRelay s) = Some s
relay_part _ = None

abbrev pub queue_part : State → Option QueueState
queue_part (OfQueue s) = Some s
queue_part _ = None

abbrev pub hop_part : State → Option HopState
hop_part (OfHop s) = Some s
hop_part _ = None

abbrev pub model_meaning : Model → Meaning State
model_meaning (Gen g) = within OfGen gen_part (gen_meaning g)
model_meaning Tally = within OfTally tally_part tally_meaning
model_meaning (Relay r) = within OfRelay relay_part (relay_meaning r)
model_meaning (Queue q) = within OfQueue queue_part (queue_meaning q)
model_meaning (Hop h) = within OfHop hop_part (hop_meaning h)

abbrev pub IsModel : Model → State → Type 0
IsModel (Gen g) s = IfPart (IsGen g) (gen_part s)
IsModel Tally s = IfPart IsTally (tally_part s)
IsModel (Relay r) s = IfPart (IsRelay r) (relay_part s)
IsModel (Queue q) s = IfPart (IsQueue q) (queue_part s)
IsModel (Hop h) s = IfPart (IsHop h) (hop_part s)

-- a state all of which lies in place: to start or to copy one takes no memory
abbrev pub LiesInPlace : State → Type 0
LiesInPlace (OfRelay s) = ⊥
LiesInPlace (OfQueue s) = ⊥
LiesInPlace _ = ⊤

-- what a turn keeps of the state before it
abbrev pub model_residue : Model → Turn → State → Bag → Residue
model_residue Tally turn (OfTally s) bag = TallyLast s.last
model_residue (Relay r) turn (OfRelay s) bag = RelayParts (relay_residue turn s bag)
model_residue (Queue q) turn (OfQueue s) bag = QueueParts (queue_residue turn s bag)
model_residue _ turn s bag = Nothing

-- the state before a turn; a residue of another kind, which no turn leaves, changes nothing
abbrev pub model_undone : Model → Turn → State → ℕ → Bag → Residue → State
model_undone (Gen g) turn (OfGen s) elapsed bag residue = OfGen (gen_undone turn s elapsed)
model_undone Tally turn (OfTally s) elapsed bag (TallyLast last) = OfTally (tally_undone turn s bag last)
model_undone (Relay r) turn (OfRelay s) elapsed bag (RelayParts parts) = OfRelay (relay_undone turn s elapsed bag parts)
model_undone (Queue q) turn (OfQueue s) elapsed bag (QueueParts parts) = OfQueue (queue_undone turn s elapsed bag parts)
model_undone (Hop h) turn (OfHop s) elapsed bag residue = OfHop (hop_undone turn s elapsed bag)
model_undone _ turn s elapsed bag residue = s

-- a tally is always passive; relay and queue tell a wait of a tick or more alone
abbrev pub model_longest : Model → Option ℕ
model_longest (Gen g) = Some g.period
model_longest Tally = Some 0
model_longest (Relay r) = told_wait r.delay
model_longest (Queue q) = told_wait q.service
model_longest (Hop h) = Some h.spread
