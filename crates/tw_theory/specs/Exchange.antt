-- What the workers' exchange does with an executive: which component is given out next, and how all that is in transit is posted and delivered.
--     bound_of until gvt window      the steps of a component that is given out stand before it
--     IsDrawn until gvt window busy ps c      c is the component to be given out
--     pass net until w      a Post of each component, then a Deliver of each item that lies in a mailbox then
--     passes net until n w      passes until the executive is swept, at most n of them
--     sweep net until w      passes until it is swept, then Raise, then a Harvest of each component
--     work w      what is left to post and deliver
use Rattle.std.specs.Prelude.{ℕ, zero, suc, ◌+◌, ◌*◌, ◌<◌, ◌≤◌, ◌≡◌, ◌≢◌, ◌⊎◌, min, List, [], ◌∷◌, ◌++◌, length, replicate, Bool, true, false, ◌&&◌, nat_le, if◌then◌else◌, Some, slice_get, Err}
use Rattle.tw_msgs.specs.Counting.{total}
use Rattle.tw_msgs.specs.declared.message.Item.{Item}
use Rattle.tw_vtime.specs.Stamps.{stamp, never, max_tick, tick_of}
use Rattle.tw_theory.specs.Bundles.{overdue}
use Rattle.tw_theory.specs.Contents.{Process, next, sent_by}
use Rattle.tw_theory.specs.Executive.{World, Action, Post, Deliver, Raise, Harvest, Refusal, Answer, replay}
use Rattle.tw_theory.specs.Network.{Network}

-- ---- the component to be given out

-- the first stamp of the tick after gvt's tick and the window, where there is such a tick; the end of the run at most
abbrev pub bound_of : ℕ → ℕ → ℕ → ℕ
bound_of until gvt window = min (stamp until 0 0) (if nat_le (tick_of gvt + window + 1) max_tick then stamp (tick_of gvt + window + 1) 0 0 else never)

-- its next step is before the end of the run, and its tick within the window
abbrev pub MayDraw : {S : Type 0} → ℕ → ℕ → ℕ → Process S → Type 0
MayDraw until gvt window p = (next p < stamp until 0 0) × (tick_of (next p) ≤ tick_of gvt + window)

-- of those that are not given out and may be, the least by next stamp and then number
pub record IsDrawn {S : Type 0} (until gvt window : ℕ) (busy : List Bool) (ps : List (Process S)) (c : ℕ) : Type 0 where
  pub process : Process S
  pub at : slice_get ps c ≡ Some process
  pub free : slice_get busy c ≡ Some false
  pub may : MayDraw until gvt window process
  pub least : (d : ℕ) (q : Process S) → slice_get ps d ≡ Some q → slice_get busy d ≡ Some false → MayDraw until gvt window q
      → (next process < next q) ⊎ ((next process ≡ next q) × (c ≤ d))

-- ---- what is left to post and deliver

abbrev pub is_empty : {X : Type 0} → List X → Bool
is_empty [] = true
is_empty (x ∷ xs) = false

abbrev pub all_empty : List (List Item) → Bool
all_empty [] = true
all_empty (box ∷ mail) = is_empty box && all_empty mail

-- nothing is outgoing, and nothing owed is overdue
abbrev pub all_idle : {S : Type 0} → List (Process S) → Bool
all_idle [] = true
all_idle (p ∷ ps) = is_empty p.outgoing && is_empty (overdue (next p) p.owed) && all_idle ps

abbrev pub is_swept : {S : Type 0} → World S → Bool
is_swept w = all_idle w.processes && all_empty w.mail

-- three for each message sent in a history, two for each outgoing item and each message owed, one for each item in a mailbox
abbrev pub work_of : {S : Type 0} → Process S → ℕ
work_of p = 3 * length (sent_by p.history) + 2 * length p.outgoing + 2 * length p.owed

abbrev pub work : {S : Type 0} → World S → ℕ
work w = total work_of w.processes + total length w.mail

-- ---- the actions of a sweep

-- one of each of n components, from c on
abbrev pub posts : ℕ → ℕ → List Action
posts c zero = []
posts c (suc n) = Post c ∷ posts (suc c) n

abbrev pub harvests : ℕ → ℕ → List Action
harvests c zero = []
harvests c (suc n) = Harvest c ∷ harvests (suc c) n

-- of each of these mailboxes, the first of which is q's, as many as there are items in it
abbrev pub deliveries : ℕ → List (List Item) → List Action
deliveries q [] = []
deliveries q (box ∷ mail) = replicate (length box) (Deliver q 0) ++ deliveries (suc q) mail

-- a delivery puts nothing into a mailbox, so these are all of the items that lie there after the posts
abbrev pub pass : {S : Type 0} → Network S → ℕ → World S → List Action
pass net until w = posts 0 (length w.processes) ++ deliveries 0 (replay net until w (posts 0 (length w.processes))).mail

abbrev pub passes : {S : Type 0} → Network S → ℕ → ℕ → World S → List Action
passes net until zero w = []
passes net until (suc n) w = if is_swept w then [] else pass net until w ++ passes net until n (replay net until w (pass net until w))

-- each pass of an executive that is not swept lets the work fall, so there are no more of them than there is work
abbrev pub sweep : {S : Type 0} → Network S → ℕ → World S → List Action
sweep net until w = passes net until (work w) w ++ Raise ∷ harvests 0 (length w.processes)

-- an answer that is no refusal
abbrev pub IsTaken : Answer → Type 0
IsTaken answer = (why : Refusal) → answer ≢ Err why
