-- The nodes that a process holds and that an action needs; and what comes of a list of actions where memory or nodes may be wanting.
--     live p      how many messages stand in the lists of p, each in a node of its own
--     need net w p action      how many more its process must have room for before the action is taken
--     WantsNodes net w action      its process would pass the greatest number of nodes
--     IsReplayed net until w actions n w'      w' comes of these actions, of which some may be left undone; n were not refused
use Rattle.std.specs.Prelude.{ℕ, ◌+◌, ◌*◌, ◌<◌, ◌≡◌, ◌⊎◌, List, [], ◌∷◌, length, Option, Some, None, Result, Ok, Err, slice_get, ⊤}
use Rattle.tw_msgs.specs.Counting.{total}
use Rattle.tw_msgs.specs.declared.message.Item.{Item}
use Rattle.tw_theory.specs.Contents.{Process, Received, Placed, Straggler, Annihilated, Waiting, inputs, sent_by, sent_out, receive}
use Rattle.tw_theory.specs.Executive.{World, Action, Step, Post, Deliver, Back, Raise, Harvest, Answer, mail_of, replay, answers}
use Rattle.tw_theory.specs.LocalRun.{Made, NoStep, local_step}
use Rattle.tw_theory.specs.Network.{Network}

-- the greatest number of live nodes of one process
abbrev pub max_nodes : ℕ
max_nodes = 1048576

abbrev pub live : {S : Type 0} → Process S → ℕ
live p = length (inputs p) + length (sent_by p.history) + length p.outgoing + length p.waiting + length p.owed

-- a step needs two nodes for each message that goes out: one in its history, one in the outgoing list
abbrev pub need_of_step : {S : Type 0} → Process S → Made S → ℕ
need_of_step p made = 2 * length (sent_out p.cancel p.owed made.step.sent)

-- an item that is received needs one, unless it is annihilated
abbrev pub need_of_received : Received → ℕ
need_of_received Placed = 1
need_of_received (Straggler undone) = 1
need_of_received (Annihilated undone) = 0
need_of_received Waiting = 1

abbrev pub need_if_made : {S : Type 0} → Process S → Result (Made S) NoStep → ℕ
need_if_made p (Ok made) = need_of_step p made
need_if_made p (Err why) = 0

abbrev pub need_if_there : {S : Type 0} → Process S → Option Item → ℕ
need_if_there p None = 0
need_if_there p (Some item) = need_of_received (receive p item).0

-- what an action of a process needs; only a step and a delivery need any
abbrev pub need : {S : Type 0} → Network S → World S → Process S → Action → ℕ
need net w p (Step c) = need_if_made p (local_step net c p.now p.pending)
need net w p (Post c) = 0
need net w p (Deliver q i) = need_if_there p (slice_get (mail_of w.mail q) i)
need net w p (Back c s) = 0
need net w p Raise = 0
need net w p (Harvest c) = 0

-- the process that an action is of
abbrev pub component_of : Action → Option ℕ
component_of (Step c) = Some c
component_of (Post c) = Some c
component_of (Deliver q i) = Some q
component_of (Back c s) = Some c
component_of Raise = None
component_of (Harvest c) = Some c

-- its process would hold more than the greatest number of nodes
pub record WantsNodes {S : Type 0} (net : Network S) (w : World S) (action : Action) : Type 0 where
  pub component : ℕ
  pub of : component_of action ≡ Some component
  pub process : Process S
  pub at : slice_get w.processes component ≡ Some process
  pub passes : max_nodes < live process + need net w process action

-- ---- lists of actions where memory may be wanting

-- an action that takes memory, so that it may be left undone for want of it; Back and Raise take none
abbrev pub TakesMemory : Action → Type 0
TakesMemory (Step c) = ⊤
TakesMemory (Post c) = ⊤
TakesMemory (Deliver q i) = ⊤
TakesMemory (Back c s) = ⊥
TakesMemory Raise = ⊥
TakesMemory (Harvest c) = ⊤

-- the actions that were taken, in their order; the others take memory
abbrev pub TakenOf : List Action → List Action → Type 0
TakenOf [] [] = ⊤
TakenOf [] (action ∷ actions) = TakesMemory action × TakenOf [] actions
TakenOf (first ∷ taken) [] = ⊥
TakenOf (first ∷ taken) (action ∷ actions) = ((first ≡ action) × TakenOf taken actions) ⊎ (TakesMemory action × TakenOf (first ∷ taken) actions)

-- how many answers are no refusals
abbrev pub one_if_taken : Answer → ℕ
one_if_taken (Ok done) = 1
one_if_taken (Err why) = 0

-- w' is what comes of these actions where some may be left undone for want of memory or of nodes, and n counts those that were not refused
pub record IsReplayed {S : Type 0} (net : Network S) (until : ℕ) (w : World S) (actions : List Action) (n : ℕ) (w' : World S) : Type 0 where
  pub taken : List Action
  pub are : TakenOf taken actions
  pub world : w' ≡ replay net until w taken
  pub number : n ≡ total one_if_taken (answers net until w taken)
