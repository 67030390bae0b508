-- What a component did at the transition of a round, as the definition sees it.
--     past_output t now      a component that stands so, after its output of time t if it makes one
--     part_of c s bag words taken      what component c did at stamp s, with its record
--     seen part after      what was done, by a component that stands here after it
--     CanGoOn taken      without a limit
--     IsTurn meaning round c old bag part new      what component c did in a round is what the definition says, and it stands so then
--     turns_with net t c moments bags      all components from c on, each with its bag
--     all_outputs net t run, all_turns net t run      all components in the round of time t
--     net_of meaning round      the network of the theory whose round it is
--     outputs_in, sent_in, turns_in      what its components put out, what is sent then, and what each does
--     IfGoing result P      P, where no component met a limit
use Rattle.std.specs.Prelude.{◌≡◌, ℕ, ℤ, suc, ◌+◌, ◌==◌, List, [], ◌∷◌, ◌++◌, if◌then◌else◌, Option, None, Result, IfOk}
use Rattle.tw_atomic.specs.Atomic.{Meaning}
use Rattle.tw_msgs.specs.Bags.{Bag, sorted_bag}
use Rattle.tw_msgs.specs.declared.record.Record.{Record}
use Rattle.tw_msgs.specs.declared.message.Message.{Message}
use Rattle.tw_network.specs.Contents.{network_of}
use Rattle.tw_rounds.specs.Parts.{after}
use Rattle.tw_rounds.specs.declared.round.Round.{Round}
use Rattle.tw_rounds.specs.declared.turns.Taken.{Taken}
use Rattle.tw_rounds.specs.declared.turns.Taken.TheVariants as taken
use Rattle.tw_theory.specs.Transitions.{Moment}
use Rattle.tw_vtime.specs.declared.limits.Limit.{Limit}
use Rattle.tw_theory.specs.Network.{Network}
use Rattle.tw_theory.specs.Simulator.{Run, RoundTurn, Stays, Moves, Stops, take_turn, after_output, outputs, all_sent, with_stamp, turns, round as round_made}

-- what a component did, with its record
pub data Part : Type 0 where
  Idle : Part
  Told : Record → Part
  Limited : Limit → Part

abbrev pub part_of : ℕ → ℕ → Bag → List ℤ → Taken → Part
part_of c s bag words taken.Stays = Idle
part_of c s bag words (taken.Moves kind) = Told (record { component = c; stamp = s; kind = kind; bag = bag; words = words })
part_of c s bag words (taken.Stops limit) = Limited limit

abbrev pub seen : {S : Type 0} → Part → Moment S → RoundTurn S
seen Idle after = Stays
seen (Told entry) after = Moves (record { entry = entry; after = after })
seen (Limited limit) after = Stops limit

abbrev pub CanGoOn : Taken → Type 0
CanGoOn taken.Stays = Unit {0}
CanGoOn (taken.Moves kind) = Unit {0}
CanGoOn (taken.Stops limit) = ⊥

-- where a component stands once its output of time t is made, if it makes one then
abbrev pub past_output : {S : Type 0} → ℕ → Moment S → Moment S
past_output t now = if now.due == t then record now { due = t + 1 } else now

-- what each component does at the transition of a round, from component c on, each with its bag
abbrev pub turns_with : {S : Type 0} → Network S → ℕ → ℕ → List (Moment S) → List Bag → List (RoundTurn S)
turns_with net t c [] bags = []
turns_with net t c (now ∷ moments) [] = []
turns_with net t c (now ∷ moments) (bag ∷ bags) =
    take_turn net c (after_output net c now t) (t + 1) (now.due == t) (sorted_bag bag) ∷ turns_with net t (suc c) moments bags

-- what all components do in the round of a time
abbrev pub all_outputs : {S : Type 0} → Network S → ℕ → Run S → List Record
all_outputs net t run = outputs net t 0 run.at.moments

abbrev pub all_turns : {S : Type 0} → Network S → ℕ → Run S → List (RoundTurn S)
all_turns net t run = turns net t (all_sent net (outputs net t 0 run.at.moments) ++ with_stamp (t + 1) run.at.inputs) 0 run.at.moments

-- ---- a round, as the code has it

abbrev pub net_of : {M S R : Type 0} → (M → Meaning S) → Round M S R → Network S
net_of meaning round = network_of meaning round.network.now

-- what its components put out, where they stand so, and what is sent then
abbrev pub outputs_in : {M S R : Type 0} → (M → Meaning S) → Round M S R → List (Moment S) → List Record
outputs_in meaning round moments = outputs (net_of meaning round) round.time 0 moments

abbrev pub sent_in : {M S R : Type 0} → (M → Meaning S) → Round M S R → List (Moment S) → List Message
sent_in meaning round moments = all_sent (net_of meaning round) (outputs_in meaning round moments)

-- what they do then, each with its bag
abbrev pub turns_in : {M S R : Type 0} → (M → Meaning S) → Round M S R → List (Moment S) → List Bag → List (RoundTurn S)
turns_in meaning round moments bags = turns_with (net_of meaning round) round.time 0 moments bags

-- what all do in a run whose next round it is, and the run after it, without its records
abbrev pub turns_of : {M S R : Type 0} → (M → Meaning S) → Round M S R → Run S → List (RoundTurn S)
turns_of meaning round run = all_turns (net_of meaning round) round.time run

abbrev pub past : {M S R : Type 0} → (M → Meaning S) → Round M S R → Run S → Run S
past meaning round run = after [] (round_made (net_of meaning round) run round.time)

abbrev pub IsTurn : {M S R : Type 0} → (M → Meaning S) → Round M S R → ℕ → Moment S → Bag → Part → Moment S → Type 0
IsTurn meaning round c old bag part new =
    seen part new ≡ take_turn (net_of meaning round) c (after_output (net_of meaning round) c old round.time) (round.time + 1) (old.due == round.time) (sorted_bag bag)

abbrev pub IfGoing : {A E : Type 0} → Result (Option A) E → Type 0 → Type 0
IfGoing result P = IfOk result (λ stop. stop ≡ None → P)
