-- What a chain's steps make of the lists of a process.
--     after_step net c way e lists, after_steps      the lists after a step of a chain, after several
--     AreNext net c way es lists      each agrees with what the component does next, where it stands as the chain does
--     WhyNot net c way e lists stop      why this step was not made
--     IsTakenAt meaning place step lists lists' counts counts' result      what is made of a step of a chain, taken here
--     MakesRoom history history' counts result      whatever the result, the history stays, with room beside what is counted
--     IsStoppedAt meaning place steps taken lists stop      why no more of these steps were made
--     entry_of net c e      a step of a chain as a step of the history
use Rattle.std.specs.Prelude.{◌≡◌, ℕ, ◌+◌, ◌*◌, ◌<◌, ◌≤◌, List, [], ◌∷◌, ◌++◌, length, take, drop, slice_get, Some, Result, IfErr, OnErr, OnOk, vec_len, ⊤, ◌==◌, if◌then◌else◌}
use Rattle.std.specs.Global.{Vec}
use Rattle.std.specs.VecDeque.{deque_capacity, deque_len}
use Rattle.std.specs.declared.collections.VecDeque.{VecDeque}
use Rattle.tw_atomic.specs.Atomic.{Meaning}
use Rattle.tw_network.specs.Contents.{network_of}
use Rattle.tw_msgs.specs.declared.record.Record.{Record}
use Rattle.tw_theory.specs.Bundles.{positives}
use Rattle.tw_theory.specs.Chains.{Agrees, sent_at, taken_at, left_at}
use Rattle.tw_theory.specs.Contents.{Cancel, sent_out, owed_after}
use Rattle.tw_theory.specs.Memory.{max_nodes}
use Rattle.tw_theory.specs.Network.{Network}
use Rattle.tw_vtime.specs.Stamps.{phase_of}
use Rattle.tw_chain.specs.Kept.{shown}
use Rattle.tw_step.specs.declared.step.Step.{Step}
use Rattle.tw_lists.specs.Lists.{Lists, SameButRoom, node_count}
use Rattle.tw_process.specs.declared.taking.Place.{Place}
use Rattle.tw_process.specs.declared.taking.Taken.{Taken}
use Rattle.tw_process.specs.declared.entry.Entry.{Entry}
use Rattle.tw_actions.specs.declared.chain.Stop.{Stop}
use Rattle.tw_actions.specs.declared.chain.Stop.TheVariants.{Ended, Stale, OutOfMemory, Full}

abbrev pub after_record : {S : Type 0} → Network S → ℕ → Cancel → Record → Lists → Lists
after_record net c way r lists = record lists {
  pending = left_at r.stamp lists.pending;
  consumed = lists.consumed ++ taken_at r.stamp lists.pending;
  sent = lists.sent ++ sent_at net c r;
  outgoing = lists.outgoing ++ positives (sent_out way lists.owed (sent_at net c r));
  owed = owed_after way lists.owed (sent_at net c r);
}

-- how many messages a step consumes
abbrev pub consumed_count : Record → ℕ
consumed_count r = if phase_of r.stamp == 0 then 0 else length r.bag

abbrev pub first_count : List ℕ → ℕ
first_count [] = 0
first_count (n ∷ ns) = n

module _ {S R : Type 0} where
  abbrev pub after_steps : Network S → ℕ → Cancel → List (Step S R) → Lists → Lists
  after_steps net c way [] lists = lists
  after_steps net c way (e ∷ es) lists = after_steps net c way es (after_record net c way e.done lists)

  abbrev pub IsNext : Step S R → Lists → Type 0
  IsNext e lists = Agrees (shown e).before lists.pending (shown e)

  abbrev pub AreNext : Network S → ℕ → Cancel → List (Step S R) → Lists → Type 0
  AreNext net c way [] lists = ⊤
  AreNext net c way (e ∷ es) lists = IsNext e lists × AreNext net c way es (after_record net c way e.done lists)

  abbrev pub WhyNot : Network S → ℕ → Cancel → Step S R → Lists → Stop → Type 0
  WhyNot net c way e lists (Ended cause) = ⊥
  WhyNot net c way e lists Stale = IsNext e lists → ⊥
  WhyNot net c way e lists OutOfMemory = IsNext e lists
  WhyNot net c way e lists Full = IsNext e lists × (max_nodes < node_count lists + 2 * length (sent_out way lists.owed (sent_at net c e.done)))

  -- a step of a chain as a step of the history that sent n messages
  abbrev pub entry_with : ℕ → Step S R → Entry S R
  entry_with n e = record { step = e; consumed = consumed_count e.done; sent = n }

  abbrev pub entries_with : List ℕ → List (Step S R) → List (Entry S R)
  entries_with counts [] = []
  entries_with counts (e ∷ es) = entry_with (first_count counts) e ∷ entries_with (drop 1 counts) es

  abbrev pub entry_of : Network S → ℕ → Step S R → Entry S R
  entry_of net c e = entry_with (length (sent_at net c e.done)) e

  abbrev pub entries_of : Network S → ℕ → List (Step S R) → List (Entry S R)
  entries_of net c [] = []
  entries_of net c (e ∷ es) = entry_of net c e ∷ entries_of net c es

  abbrev pub sent_counts : Network S → ℕ → List (Step S R) → List ℕ
  sent_counts net c [] = []
  sent_counts net c (e ∷ es) = length (sent_at net c e.done) ∷ sent_counts net c es

-- ---- the same where a chain is taken: at a component of a network, with its way of cancelling

abbrev pub net_of : {M S R : Type 0} → (M → Meaning S) → Place M S R → Network S
net_of meaning place = network_of meaning place.network.now

abbrev pub after_record_at : {M S R : Type 0} → (M → Meaning S) → Place M S R → Record → Lists → Lists
after_record_at meaning place r lists = after_record (net_of meaning place) place.component place.cancel r lists

abbrev pub after_steps_at : {M S R : Type 0} → (M → Meaning S) → Place M S R → List (Step S R) → Lists → Lists
after_steps_at meaning place es lists = after_steps (net_of meaning place) place.component place.cancel es lists

abbrev pub AreNextAt : {M S R : Type 0} → (M → Meaning S) → Place M S R → List (Step S R) → Lists → Type 0
AreNextAt meaning place es lists = AreNext (net_of meaning place) place.component place.cancel es lists

abbrev pub WhyNotAt : {M S R : Type 0} → (M → Meaning S) → Place M S R → Step S R → Lists → Stop → Type 0
WhyNotAt meaning place e lists stop = WhyNot (net_of meaning place) place.component place.cancel e lists stop

abbrev pub sent_counts_at : {M S R : Type 0} → (M → Meaning S) → Place M S R → List (Step S R) → List ℕ
sent_counts_at meaning place es = sent_counts (net_of meaning place) place.component es

-- those of these steps that were made
abbrev pub made_of : {S R : Type 0} → Taken → List (Step S R) → List (Step S R)
made_of taken es = take (length taken.counts.items) es

abbrev pub IsStoppedAt : {M S R : Type 0} → (M → Meaning S) → Place M S R → List (Step S R) → Taken → Lists → Stop → Type 0
IsStoppedAt {M} {S} {R} meaning place es taken lists stop =
    (e : Step S R) → slice_get es (length taken.counts.items) ≡ Some e → WhyNotAt meaning place e lists stop

pub record IsTakenAt {M S R : Type 0} (meaning : M → Meaning S) (place : Place M S R) (e : Step S R) (lists lists' : Lists) (counts counts' : Vec ℕ) (result : Result Unit Stop) : Type 0 where
  -- where it is made
  pub taken : OnOk result (SameButRoom (after_record_at meaning place e.done lists) lists')
  pub next : OnOk result (IsNext e lists)
  pub counted : OnOk result (counts'.items ≡ counts.items ++ length (sent_at (net_of meaning place) place.component e.done) ∷ [])
  -- where it is not
  pub stays : OnErr result (SameButRoom lists lists')
  pub none : OnErr result (counts'.items ≡ counts.items)
  pub stop : IfErr result (WhyNotAt meaning place e lists)

pub record MakesRoom {H Z : Type 0} (history history' : VecDeque H Z) (counts : Vec ℕ) (result : Result Unit Stop) : Type 0 where
  pub same : history'.items ≡ history.items
  pub room : OnOk result (deque_len history' + (vec_len counts + 1) ≤ deque_capacity history')
  pub kept : deque_len history + vec_len counts ≤ deque_capacity history → deque_len history' + vec_len counts ≤ deque_capacity history'
