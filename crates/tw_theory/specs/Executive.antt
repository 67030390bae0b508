-- The executive: all processes, their mailboxes and columns, and global virtual time. What each action does. What is asked (`Action`) and what is answered where it is not refused (`Done`) are the enums of tw_actions.
--     act net until w action      the answer, and the world after it; a refused action changes nothing
--     replay net until w actions      the world after a list of actions, refused ones included
--     least_of w      the least of all next stamps and of all that is in transit or owed
use Rattle.std.specs.Prelude.{ℕ, min, List, [], ◌∷◌, ◌++◌, length, take, nat_lt, if◌then◌else◌, Option, Some, None, Result, Ok, Err, slice_get, slice_set, slice_index_or, remove}
use Rattle.tw_msgs.specs.declared.message.Item.{Item}
use Rattle.tw_msgs.specs.declared.record.Record.{Record}
use Rattle.tw_vtime.specs.Stamps.{stamp, never}
use Rattle.tw_vtime.specs.declared.limits.Limit.{Limit}
pub use Rattle.tw_actions.specs.declared.action.Action.{Action}
pub use Rattle.tw_actions.specs.declared.action.Action.TheVariants.{Step, Post, Deliver, Back, Raise, Harvest}
pub use Rattle.tw_actions.specs.declared.action.Done.{Done}
pub use Rattle.tw_actions.specs.declared.action.Done.TheVariants.{Stepped, Posted, Received, Undone, Raised, Harvested}
use Rattle.tw_theory.specs.Bundles.{least_stamp, least_owed}
use Rattle.tw_theory.specs.Contents.{Process, next, with_step, with_outgoing, settle, steps_from, steps_before, cut, receive, harvested, records_of}
use Rattle.tw_theory.specs.LocalRun as local
use Rattle.tw_theory.specs.LocalRun.{Made, NoStep, local_step}
use Rattle.tw_theory.specs.Network.{Network}

-- A process, a mailbox and a column of committed records for each component
pub record World (S : Type 0) : Type 0 where
  pub processes : List (Process S)
  pub mail : List (List Item)
  pub columns : List (List Record)
  pub gvt : ℕ

-- Nothing is due before the end of the run; the step meets a limit; no such component or place in a mailbox; a stamp before gvt; a step that is committed or may be
pub data Refusal : Type 0 where
  NothingDue : Refusal
  OverLimit : Limit → Refusal
  NoSuch : Refusal
  BeforeGvt : Refusal
  Committed : Refusal

abbrev pub Answer : Type 0
Answer = Result Done Refusal

abbrev pub with_process : {S : Type 0} → World S → ℕ → Process S → World S
with_process w p process = record w { processes = slice_set w.processes p process }

abbrev pub with_mail : {S : Type 0} → World S → List (List Item) → World S
with_mail w mail = record w { mail = mail }

-- the mailbox of q, and the column of c
abbrev pub mail_of : List (List Item) → ℕ → List Item
mail_of mail q = slice_index_or mail q []

abbrev pub column_of : List (List Record) → ℕ → List Record
column_of columns c = slice_index_or columns c []

-- each item goes, in order, to the end of its receiver's mailbox
abbrev pub posted : List (List Item) → List Item → List (List Item)
posted mail [] = mail
posted mail (i ∷ is) = posted (slice_set mail i.message.to (mail_of mail i.message.to ++ i ∷ [])) is

-- ---- the least stamp from which anything can still change

abbrev pub least_next : {S : Type 0} → List (Process S) → ℕ
least_next [] = never
least_next (p ∷ ps) = min (min (min (next p) (least_stamp p.outgoing)) (least_owed p.owed)) (least_next ps)

abbrev pub least_mail : List (List Item) → ℕ
least_mail [] = never
least_mail (box ∷ mail) = min (least_stamp box) (least_mail mail)

abbrev pub least_of : {S : Type 0} → World S → ℕ
least_of w = min (least_next w.processes) (least_mail w.mail)

-- ---- the actions

abbrev pub refusal_of : NoStep → Refusal
refusal_of local.NothingDue = NothingDue
refusal_of (local.OverLimit limit) = OverLimit limit

abbrev pub if_made : {S : Type 0} → World S → ℕ → Process S → Result (Made S) NoStep → Answer × World S
if_made w c p (Ok made) = (Ok (Stepped made.step.entry.stamp made.step.entry.kind), with_process w c (with_step p made))
if_made w c p (Err why) = (Err (refusal_of why), w)

abbrev pub act_step : {S : Type 0} → Network S → ℕ → World S → ℕ → Option (Process S) → Answer × World S
act_step net until w c None = (Err NoSuch, w)
act_step net until w c (Some p) = if nat_lt (next p) (stamp until 0 0) then if_made w c p (local_step net c p.now p.pending) else (Err NothingDue, w)

abbrev pub act_post : {S : Type 0} → World S → ℕ → Option (Process S) → Answer × World S
act_post w c None = (Err NoSuch, w)
act_post w c (Some p) = (Ok (Posted (length (settle p).outgoing)), with_mail (with_process w c (with_outgoing (settle p) [])) (posted w.mail (settle p).outgoing))

abbrev pub act_deliver : {S : Type 0} → World S → ℕ → ℕ → Option (Process S) → Option Item → Answer × World S
act_deliver w q i None item = (Err NoSuch, w)
act_deliver w q i (Some p) None = (Err NoSuch, w)
act_deliver w q i (Some p) (Some item) =
    (Ok (Received (receive p item).0), with_mail (with_process w q (receive p item).1) (slice_set w.mail q (remove (mail_of w.mail q) i)))

abbrev pub act_back : {S : Type 0} → World S → ℕ → ℕ → Option (Process S) → Answer × World S
act_back w c s None = (Err NoSuch, w)
act_back w c s (Some p) = if nat_lt s w.gvt then (Err BeforeGvt, w) else (Ok (Undone (steps_from s p)), with_process w c (cut s p))

-- the records strictly before gvt move from the history to the column; the line is gvt
abbrev pub act_harvest : {S : Type 0} → World S → ℕ → Option (Process S) → Answer × World S
act_harvest w c None = (Err NoSuch, w)
act_harvest w c (Some p) =
    let n = steps_before w.gvt p.history in (
      Ok (Harvested n),
      record w { processes = slice_set w.processes c (harvested w.gvt p); columns = slice_set w.columns c (column_of w.columns c ++ records_of (take n p.history)) },
    )

unfoldable pub act : {S : Type 0} → Network S → ℕ → World S → Action → Answer × World S
act net until w (Step c) = act_step net until w c (slice_get w.processes c)
act net until w (Post c) = act_post w c (slice_get w.processes c)
act net until w (Deliver q i) = act_deliver w q i (slice_get w.processes q) (slice_get (mail_of w.mail q) i)
act net until w (Back c s) = act_back w c s (slice_get w.processes c)
act net until w Raise = (Ok (Raised (least_of w)), record w { gvt = least_of w })
act net until w (Harvest c) = act_harvest w c (slice_get w.processes c)

-- an action that is refused for want of memory or of nodes is not taken, and so not in the list
abbrev pub replay : {S : Type 0} → Network S → ℕ → World S → List Action → World S
replay net until w [] = w
replay net until w (action ∷ actions) = replay net until (act net until w action).1 actions

-- what each of the actions answers, in turn
abbrev pub answers : {S : Type 0} → Network S → ℕ → World S → List Action → List Answer
answers net until w [] = []
answers net until w (action ∷ actions) = (act net until w action).0 ∷ answers net until (act net until w action).1 actions
