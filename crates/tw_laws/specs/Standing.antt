-- When a component's next step can be made, and that it stays so: what a process needs of its messages before it may ask its model for a turn.
use Rattle.std.specs.Prelude.{take, drop, ◌++◌, ℕ, ◌+◌, ◌<◌, ◌≤◌, ◌≡◌, ◌-◌, ◌==◌, List, Ok, Some, slice_get}
use Rattle.std.specs.List.{AllByRecursion as Each}
use Rattle.tw_atomic.specs.Atomic.{Meaning, CanTurn}
use Rattle.tw_msgs.specs.Messages.{Sorted, place, without}
use Rattle.tw_msgs.specs.declared.message.Item.{Item}
use Rattle.tw_msgs.specs.declared.message.Message.{Message}
use Rattle.tw_msgs.specs.declared.record.Record.{Record}
use Rattle.tw_vtime.specs.Stamps.{never, tick_of, phase_of}
use Rattle.tw_theory.specs.Bundles.{front, items_of, addressed}
use Rattle.tw_theory.specs.Contents.{Process, Cancel, inputs, cut, with_step, back_to_first, placed, removed, receive, settle, records_of}
use Rattle.tw_theory.specs.Executive.{World, mail_of, column_of}
use Rattle.tw_theory.specs.Chains.{Start}
use Rattle.tw_theory.specs.Installing.{TakesFrom}
use Rattle.tw_theory.specs.LocalRun.{Made, Step, Leads, next_of, local_step}
use Rattle.tw_theory.specs.Network.{Network}
use Rattle.tw_theory.specs.Soundness.{AllBefore, IsSound, new_process}
use Rattle.tw_theory.specs.Standing.{IsReady, CanTake, IsOf, IsReadyFrom, IsRunning, floor_after, floor_of}
use Rattle.tw_theory.specs.Transitions.{Moment, start_moment, turn}

-- of a model whose turns keep its states valid
pub record StandingLaw {S : Type 0} (IsValid : S → Type 0) (model : Meaning S) : Type 0 where
  pub start : (c : ℕ) (messages : List Message) → IsValid model.start → Sorted messages → Each (CanTake c) messages → IsReadyFrom IsValid model c (start_moment model) messages 0
  -- where the next step is a transition before the end, the turn that is due may be made
  pub turn : (c : ℕ) (now : Moment S) (messages : List Message) → IsReady IsValid model c now messages → (s : ℕ) → s ≡ next_of now messages → s < never → phase_of s ≡ 1
      → CanTurn IsValid model (turn (now.due == s) (items_of (front s messages))) now.state (tick_of s - tick_of now.last) (items_of (front s messages))
  -- after its next step, and after any steps of its run, it is ready again
  pub step : (net : Network S) (c : ℕ) (now : Moment S) (messages : List Message) (made : Made S) → IsOf model net c → IsReady IsValid model c now messages
      → local_step net c now messages ≡ Ok made → IsReadyFrom IsValid model c made.after made.left (made.step.entry.stamp + 1)
  pub run : (net : Network S) (c : ℕ) (from : Moment S) (messages : List Message) (steps : List (Step S)) (now : Moment S) (left : List Message) → IsOf model net c
      → (ready : IsReady IsValid model c from messages) → Leads net c from messages steps now left → IsReadyFrom IsValid model c now left (floor_after ready.floor steps)
  -- so a process whose run began where it was ready is ready after each cut
  pub cut : (net : Network S) (c s : ℕ) (from : Moment S) (p : Process S) → IsOf model net c
      → (ready : IsReady IsValid model c from (inputs p)) → Leads net c from (inputs p) p.history p.now p.pending
      → IsReadyFrom IsValid model c (cut s p).now (cut s p).pending (floor_after ready.floor (cut s p).history)
  -- a message that comes, not before the floor, or is withdrawn leaves it ready
  pub placed : (c : ℕ) (now : Moment S) (messages : List Message) (m : Message) → (ready : IsReady IsValid model c now messages) → CanTake c m → ready.floor ≤ m.stamp
      → IsReadyFrom IsValid model c now (place m messages) ready.floor
  pub withdrawn : (c : ℕ) (now : Moment S) (messages : List Message) (m : Message) → (ready : IsReady IsValid model c now messages) → IsReadyFrom IsValid model c now (without m messages) ready.floor

-- Whatever a process does, it stays one that runs on its own from where it was ready
pub record RunningLaw {S : Type 0} (IsValid : S → Type 0) (model : Meaning S) : Type 0 where
  pub start : (net : Network S) (cancel : Cancel) (c : ℕ) → IsValid model.start → Each (CanTake c) (addressed c net.inputs) → IsRunning IsValid model net c 0 (new_process net cancel c model)
  -- so its next step can be made
  pub ready : (net : Network S) (c floor : ℕ) (p : Process S) → IsOf model net c → IsRunning IsValid model net c floor p
      → IsReadyFrom IsValid model c p.now p.pending (floor_after floor p.history)
  -- a step, steps taken back, the steps that are made of a chain
  pub step : (net : Network S) (c floor : ℕ) (p : Process S) (made : Made S) → IsRunning IsValid model net c floor p → local_step net c p.now p.pending ≡ Ok made → IsRunning IsValid model net c floor (with_step p made)
  pub back : (net : Network S) (c floor n : ℕ) (p : Process S) → IsRunning IsValid model net c floor p → IsRunning IsValid model net c floor (back_to_first n p)
  pub taken : (net : Network S) (floor n : ℕ) (start : Start S) (steps : List (Step S)) (p q : Process S) → IsRunning IsValid model net start.component floor p
      → TakesFrom net start n steps p q → IsRunning IsValid model net start.component floor q
  -- a message put behind its steps, or withdrawn; an item received that is not before the floor; messages owed that become anti-messages
  pub put : (net : Network S) (c floor : ℕ) (p : Process S) (m : Message) → IsRunning IsValid model net c floor p → CanTake c m → floor ≤ m.stamp → AllBefore m.stamp p.history
      → IsRunning IsValid model net c floor (placed p m)
  pub withdraw : (net : Network S) (c floor : ℕ) (p : Process S) (m : Message) → IsRunning IsValid model net c floor p → IsRunning IsValid model net c floor (removed p m)
  pub receive : (net : Network S) (c floor : ℕ) (p : Process S) (item : Item) → IsRunning IsValid model net c floor p → CanTake c item.message → floor ≤ item.message.stamp
      → IsRunning IsValid model net c floor (receive p item).1
  pub settle : (net : Network S) (c floor : ℕ) (p : Process S) → IsRunning IsValid model net c floor p → IsRunning IsValid model net c floor (settle p)
  -- when its first n steps are committed, the floor is one past them
  pub commit : (net : Network S) (c floor n : ℕ) (p : Process S) → IsOf model net c → IsRunning IsValid model net c floor p
      → IsRunning IsValid model net c (floor_after floor (take n p.history)) (record p { history = drop n p.history })
  -- the floor is not past a stamp that all those steps are before; and where it was its column's, it is that of the column with them
  pub floor : (floor s : ℕ) (steps : List (Step S)) → floor ≤ s → AllBefore s steps → floor_after floor steps ≤ s
  pub column : (column : List Record) (steps : List (Step S)) → floor_after (floor_of column) steps ≡ floor_of (column ++ records_of steps)

-- ---- what may be received

-- to q, for a transition, not before its commit line and after every record of its column
pub record MayCome {S : Type 0} (q : ℕ) (p : Process S) (column : List Record) (m : Message) : Type 0 where
  pub to : m.to ≡ q
  pub phase : phase_of m.stamp ≡ 1
  pub before_end : m.stamp < never
  pub from_line : p.line ≤ m.stamp
  pub after_column : Each (λ r. r.stamp < m.stamp) column
  pub from_floor : floor_of column ≤ m.stamp

-- in a sound world every item of a mailbox may be received
abbrev pub ReceiveLaw : Type 0 → Type 0
ReceiveLaw S =
    (net : Network S) (until : ℕ) (w : World S) → IsSound net until w → (q : ℕ) (p : Process S) → slice_get w.processes q ≡ Some p
    → Each (λ i. MayCome q p (column_of w.columns q) i.message) (mail_of w.mail q)
