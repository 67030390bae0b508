-- The laws of the models together: each model's own laws, at the states of its kind.
use Rattle.std.specs.Prelude.{◌≡◌, ℕ, ◌≤◌, length, refl}
use Rattle.std.proofs.Common.{ap, arith}
use Rattle.tw_atomic.specs.Atomic.{Bag, CanTurn, FitsOutput, turned}
use Rattle.tw_atomic.specs.declared.Turn.{Turn}
use Rattle.tw_atomic.specs.declared.Turn.TheVariants.{Int, Ext, Con}
use Rattle.tw_models.specs.declared.generator.GenState.{GenState}
use Rattle.tw_models.specs.declared.tally.TallyState.{TallyState}
use Rattle.tw_models.specs.declared.relay.RelayState.{RelayState}
use Rattle.tw_models.specs.declared.queue.QueueState.{QueueState}
use Rattle.tw_models.specs.declared.hop.HopState.{HopState}
use Rattle.tw_models.specs.declared.model.Model.{Model}
use Rattle.tw_models.specs.declared.model.Model.TheVariants.{Gen, Tally, Relay, Queue, Hop}
use Rattle.tw_models.specs.declared.model.State.{State}
use Rattle.tw_models.specs.declared.model.State.TheVariants.{OfGen, OfTally, OfRelay, OfQueue, OfHop}
use Rattle.tw_models.specs.Parameters.{GenParameters, RelayParameters, QueueParameters, HopParameters}
use Rattle.tw_models.specs.Gen.{IsGen, gen_meaning}
use Rattle.tw_models.specs.Tally.{IsTally, tally_meaning}
use Rattle.tw_models.specs.Relay.{IsRelay, relay_meaning}
use Rattle.tw_models.specs.Queue.{IsQueue, queue_meaning}
use Rattle.tw_models.specs.Hop.{IsHop, hop_meaning}
use Rattle.tw_models.specs.GenLaws.{gen_stays_valid, gen_output_fits, gen_reverses}
use Rattle.tw_models.specs.TallyLaws.{tally_stays_valid, tally_output_fits, tally_reverses}
use Rattle.tw_models.specs.RelayLaws.{relay_stays_valid, relay_output_fits, relay_reverses}
use Rattle.tw_models.specs.QueueLaws.{queue_stays_valid, queue_output_fits, queue_reverses}
use Rattle.tw_models.specs.HopLaws.{hop_stays_valid, hop_output_fits, hop_reverses}
use Rattle.tw_models.specs.Model.{model_meaning, model_residue, model_undone, IsModel}

-- a turn of the model at a state of its kind is a turn of the gen
gen-can : (g : GenParameters) (turn : Turn) (s : GenState) (elapsed : ℕ) (bag : Bag) → CanTurn (IsModel (Gen g)) (model_meaning (Gen g)) turn (OfGen s) elapsed bag → CanTurn (IsGen g) (gen_meaning g) turn s elapsed bag
gen-can g turn s elapsed bag can = record { valid = can.valid; due = can.due; sorted = can.sorted; elapsed_fits = can.elapsed_fits; bag_fits = can.bag_fits }

-- a turn of the model at a state of its kind is a turn of the tally
tally-can : (turn : Turn) (s : TallyState) (elapsed : ℕ) (bag : Bag) → CanTurn (IsModel Tally) (model_meaning Tally) turn (OfTally s) elapsed bag → CanTurn IsTally tally_meaning turn s elapsed bag
tally-can turn s elapsed bag can = record { valid = can.valid; due = can.due; sorted = can.sorted; elapsed_fits = can.elapsed_fits; bag_fits = can.bag_fits }

-- a turn of the model at a state of its kind is a turn of the relay
relay-can : (r : RelayParameters) (turn : Turn) (s : RelayState) (elapsed : ℕ) (bag : Bag) → CanTurn (IsModel (Relay r)) (model_meaning (Relay r)) turn (OfRelay s) elapsed bag → CanTurn (IsRelay r) (relay_meaning r) turn s elapsed bag
relay-can r turn s elapsed bag can = record { valid = can.valid; due = can.due; sorted = can.sorted; elapsed_fits = can.elapsed_fits; bag_fits = can.bag_fits }

-- a turn of the model at a state of its kind is a turn of the queue
queue-can : (q : QueueParameters) (turn : Turn) (s : QueueState) (elapsed : ℕ) (bag : Bag) → CanTurn (IsModel (Queue q)) (model_meaning (Queue q)) turn (OfQueue s) elapsed bag → CanTurn (IsQueue q) (queue_meaning q) turn s elapsed bag
queue-can q turn s elapsed bag can = record { valid = can.valid; due = can.due; sorted = can.sorted; elapsed_fits = can.elapsed_fits; bag_fits = can.bag_fits }

-- a turn of the model at a state of its kind is a turn of the hop
hop-can : (h : HopParameters) (turn : Turn) (s : HopState) (elapsed : ℕ) (bag : Bag) → CanTurn (IsModel (Hop h)) (model_meaning (Hop h)) turn (OfHop s) elapsed bag → CanTurn (IsHop h) (hop_meaning h) turn s elapsed bag
hop-can h turn s elapsed bag can = record { valid = can.valid; due = can.due; sorted = can.sorted; elapsed_fits = can.elapsed_fits; bag_fits = can.bag_fits }

pub model_stays_valid : (m : Model) (turn : Turn) (s : State) (elapsed : ℕ) (bag : Bag) → CanTurn (IsModel m) (model_meaning m) turn s elapsed bag → IsModel m (turned (model_meaning m) turn s elapsed bag)
model_stays_valid (Gen g) Int (OfGen s) elapsed bag can = gen_stays_valid g Int s elapsed bag (gen-can g Int s elapsed bag can)
model_stays_valid (Gen g) Ext (OfGen s) elapsed bag can = gen_stays_valid g Ext s elapsed bag (gen-can g Ext s elapsed bag can)
model_stays_valid (Gen g) Con (OfGen s) elapsed bag can = gen_stays_valid g Con s elapsed bag (gen-can g Con s elapsed bag can)
model_stays_valid Tally Int (OfTally s) elapsed bag can = tally_stays_valid Int s elapsed bag (tally-can Int s elapsed bag can)
model_stays_valid Tally Ext (OfTally s) elapsed bag can = tally_stays_valid Ext s elapsed bag (tally-can Ext s elapsed bag can)
model_stays_valid Tally Con (OfTally s) elapsed bag can = tally_stays_valid Con s elapsed bag (tally-can Con s elapsed bag can)
model_stays_valid (Relay r) Int (OfRelay s) elapsed bag can = relay_stays_valid r Int s elapsed bag (relay-can r Int s elapsed bag can)
model_stays_valid (Relay r) Ext (OfRelay s) elapsed bag can = relay_stays_valid r Ext s elapsed bag (relay-can r Ext s elapsed bag can)
model_stays_valid (Relay r) Con (OfRelay s) elapsed bag can = relay_stays_valid r Con s elapsed bag (relay-can r Con s elapsed bag can)
model_stays_valid (Queue q) Int (OfQueue s) elapsed bag can = queue_stays_valid q Int s elapsed bag (queue-can q Int s elapsed bag can)
model_stays_valid (Queue q) Ext (OfQueue s) elapsed bag can = queue_stays_valid q Ext s elapsed bag (queue-can q Ext s elapsed bag can)
model_stays_valid (Queue q) Con (OfQueue s) elapsed bag can = queue_stays_valid q Con s elapsed bag (queue-can q Con s elapsed bag can)
model_stays_valid (Hop h) Int (OfHop s) elapsed bag can = hop_stays_valid h Int s elapsed bag (hop-can h Int s elapsed bag can)
model_stays_valid (Hop h) Ext (OfHop s) elapsed bag can = hop_stays_valid h Ext s elapsed bag (hop-can h Ext s elapsed bag can)
model_stays_valid (Hop h) Con (OfHop s) elapsed bag can = hop_stays_valid h Con s elapsed bag (hop-can h Con s elapsed bag can)
model_stays_valid _ Int s elapsed bag can = tt
model_stays_valid _ Ext s elapsed bag can = tt
model_stays_valid _ Con s elapsed bag can = tt

pub model_output_fits : (m : Model) (s : State) → IsModel m s → (length ((model_meaning m).out s) ≤ 64) × FitsOutput ((model_meaning m).out s)
model_output_fits (Gen g) (OfGen s) valid = gen_output_fits g s valid
model_output_fits Tally (OfTally s) valid = tally_output_fits s
model_output_fits (Relay r) (OfRelay s) valid = relay_output_fits r s valid
model_output_fits (Queue q) (OfQueue s) valid = queue_output_fits q s valid
model_output_fits (Hop h) (OfHop s) valid = hop_output_fits h s valid
model_output_fits _ s valid = (omega arith, tt)

pub model_reverses : (m : Model) (turn : Turn) (s : State) (elapsed : ℕ) (bag : Bag) → CanTurn (IsModel m) (model_meaning m) turn s elapsed bag
    → model_undone m turn (turned (model_meaning m) turn s elapsed bag) elapsed bag (model_residue m turn s bag) ≡ s
model_reverses (Gen g) Int (OfGen s) elapsed bag can = ap OfGen (gen_reverses g Int s elapsed bag (gen-can g Int s elapsed bag can))
model_reverses (Gen g) Ext (OfGen s) elapsed bag can = ap OfGen (gen_reverses g Ext s elapsed bag (gen-can g Ext s elapsed bag can))
model_reverses (Gen g) Con (OfGen s) elapsed bag can = ap OfGen (gen_reverses g Con s elapsed bag (gen-can g Con s elapsed bag can))
model_reverses Tally Int (OfTally s) elapsed bag can = ap OfTally (tally_reverses Int s elapsed bag (tally-can Int s elapsed bag can))
model_reverses Tally Ext (OfTally s) elapsed bag can = ap OfTally (tally_reverses Ext s elapsed bag (tally-can Ext s elapsed bag can))
model_reverses Tally Con (OfTally s) elapsed bag can = ap OfTally (tally_reverses Con s elapsed bag (tally-can Con s elapsed bag can))
model_reverses (Relay r) Int (OfRelay s) elapsed bag can = ap OfRelay (relay_reverses r Int s elapsed bag (relay-can r Int s elapsed bag can))
model_reverses (Relay r) Ext (OfRelay s) elapsed bag can = ap OfRelay (relay_reverses r Ext s elapsed bag (relay-can r Ext s elapsed bag can))
model_reverses (Relay r) Con (OfRelay s) elapsed bag can = ap OfRelay (relay_reverses r Con s elapsed bag (relay-can r Con s elapsed bag can))
model_reverses (Queue q) Int (OfQueue s) elapsed bag can = ap OfQueue (queue_reverses q Int s elapsed bag (queue-can q Int s elapsed bag can))
model_reverses (Queue q) Ext (OfQueue s) elapsed bag can = ap OfQueue (queue_reverses q Ext s elapsed bag (queue-can q Ext s elapsed bag can))
model_reverses (Queue q) Con (OfQueue s) elapsed bag can = ap OfQueue (queue_reverses q Con s elapsed bag (queue-can q Con s elapsed bag can))
model_reverses (Hop h) Int (OfHop s) elapsed bag can = ap OfHop (hop_reverses h Int s elapsed bag (hop-can h Int s elapsed bag can))
model_reverses (Hop h) Ext (OfHop s) elapsed bag can = ap OfHop (hop_reverses h Ext s elapsed bag (hop-can h Ext s elapsed bag can))
model_reverses (Hop h) Con (OfHop s) elapsed bag can = ap OfHop (hop_reverses h Con s elapsed bag (hop-can h Con s elapsed bag can))
model_reverses _ Int s elapsed bag can = refl
model_reverses _ Ext s elapsed bag can = refl
model_reverses _ Con s elapsed bag can = refl
