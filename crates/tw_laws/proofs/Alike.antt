-- Networks that differ in the order of their couplings alone: they route alike, and of couplings nothing else is read.
use Rattle.std.proofs.Common.{◌≡◌, ℕ, zero, suc, ◌+◌, ◌==◌, List, [], ◌∷◌, ◌++◌, Bool, true, false, Option, Some, None, nat_lt, nat_le, refl, ap, ◌∙◌, Ok, Err, if◌then◌else◌}
use Rattle.std.specs.List.Sorted.{IsPermutation}
use Rattle.std.specs.Prelude.{slice_get}
use Rattle.tw_atomic.specs.Atomic.{Meaning}
use Rattle.tw_msgs.specs.Bags.{Bag, sorted_bag}
use Rattle.tw_msgs.specs.declared.message.Message.{Message}
use Rattle.tw_msgs.specs.declared.record.Record.{Record}
use Rattle.tw_msgs.specs.declared.record_kind.RecordKind.{RecordKind}
use Rattle.tw_msgs.specs.declared.record_kind.RecordKind.TheVariants.{Out, Int, Ext, Con}
use Rattle.tw_vtime.specs.Stamps.{stamp, never, phase_of}
use Rattle.tw_theory.proofs.Reordered.{destinations_permuted}
use Rattle.tw_theory.specs.Bundles.{items_of, addressed, front}
use Rattle.tw_theory.specs.Contents.{Process, next}
use Rattle.tw_theory.specs.Executive.{World, Action, Step, Post, Deliver, Back, Raise, Harvest, NothingDue, act, act_step, if_made}
use Rattle.tw_theory.specs.LocalRun as local
use Rattle.tw_theory.specs.LocalRun.{Made, NoStep, if_moved, local_step, next_of, output_made, step_at, transition_made}
use Rattle.tw_theory.specs.Marks.{rewind}
use Rattle.tw_theory.specs.Network.{Network, Coupling, copies, routed}
use Rattle.tw_theory.specs.Simulator.{Run, after_output, all_sent, first_stop, outputs, round, round_end, round_time, rounds, rounds_from, sent_in, sequential, start_run, take_turn, turn_of_result, turns, with_stamp}
use Rattle.tw_theory.specs.Soundness.{new_world}
use Rattle.tw_theory.specs.Transitions.{Moment, Move, output, transition, moved}
use Rattle.tw_laws.specs.Couplings.{AreAlike, CouplingsLaw}
use Rattle.tw_laws.specs.Headline.{Command, Act, Rewind, after_commands}

abbrev made_of : {S : Type 0} → List (Meaning S) → List Message → ℕ → List Coupling → Network S
made_of models inputs limit ks = record { models = models; couplings = ks; inputs = inputs; micro_limit = limit }

-- with two orders of the couplings
module _ {S : Type 0} (models : List (Meaning S)) (inputs : List Message) (limit : ℕ) (ks ls : List Coupling) (same : IsPermutation ks ls) where
  abbrev net : Network S
  net = made_of models inputs limit ks

  abbrev other : Network S
  other = made_of models inputs limit ls

  same_routed : (c s : ℕ) (bag : Bag) → routed net c s bag ≡ routed other c s bag
  same_routed c s [] = refl
  same_routed c s (item ∷ items) = λ i. copies s item.1 (destinations_permuted c item.0 ks ls same i) ++ same_routed c s items i

  -- ---- rounds

  same_sent : (r : Record) → sent_in net r ≡ sent_in other r
  same_sent r = go r.kind
    where
      go : (kind : RecordKind) → sent_in net (record r { kind = kind }) ≡ sent_in other (record r { kind = kind })
      go Out = same_routed r.component (r.stamp + 1) r.bag
      go Int = refl
      go Ext = refl
      go Con = refl

  same_all_sent : (rs : List Record) → all_sent net rs ≡ all_sent other rs
  same_all_sent [] = refl
  same_all_sent (r ∷ rs) = λ i. same_sent r i ++ same_all_sent rs i

  same_output : (c : ℕ) (now : Moment S) (s : ℕ) → output net c now s ≡ output other c now s
  unfolding output
  same_output c now s = refl

  same_transition : (c : ℕ) (now : Moment S) (s : ℕ) (bag : Bag) → transition net c now s bag ≡ transition other c now s bag
  unfolding transition moved
  same_transition c now s bag = refl

  same_outputs : (t c : ℕ) (moments : List (Moment S)) → outputs net t c moments ≡ outputs other t c moments
  same_outputs t c [] = refl
  same_outputs t c (now ∷ moments) =
      λ i. if now.due == t then (same_output c now t i).entry ∷ same_outputs t (suc c) moments i else same_outputs t (suc c) moments i

  same_turn : (c : ℕ) (now : Moment S) (s : ℕ) (imminent : Bool) (bag : Bag) → take_turn net c now s imminent bag ≡ take_turn other c now s imminent bag
  same_turn c now s false [] = refl
  same_turn c now s false (x ∷ xs) = λ i. turn_of_result (same_transition c now s (x ∷ xs) i)
  same_turn c now s true bag = λ i. turn_of_result (same_transition c now s bag i)

  same_after : (c : ℕ) (now : Moment S) (t : ℕ) → after_output net c now t ≡ after_output other c now t
  same_after c now t = λ i. if now.due == t then (same_output c now t i).after else now

  same_turns : (t : ℕ) (messages : List Message) (c : ℕ) (moments : List (Moment S)) → turns net t messages c moments ≡ turns other t messages c moments
  same_turns t messages c [] = refl
  same_turns t messages c (now ∷ moments) =
      let bag = sorted_bag (items_of (addressed c messages)) in
      ap (λ ts. take_turn net c (after_output net c now t) (t + 1) (now.due == t) bag ∷ ts) (same_turns t messages (suc c) moments)
      ∙ ap (λ turn. turn ∷ turns other t messages (suc c) moments)
      (same_turn c (after_output net c now t) (t + 1) (now.due == t) bag ∙ ap (λ after. take_turn other c after (t + 1) (now.due == t) bag) (same_after c now t))

  same_round : (run : Run S) (t : ℕ) → round net run t ≡ round other run t
  unfolding round
  same_round run t =
      let outs = outputs net t 0 run.at.moments in
      let outs_same : outs ≡ outputs other t 0 run.at.moments = same_outputs t 0 run.at.moments in
      let sent : all_sent net outs ++ with_stamp (t + 1) run.at.inputs ≡ all_sent other (outputs other t 0 run.at.moments) ++ with_stamp (t + 1) run.at.inputs =
      ap (λ ms. ms ++ with_stamp (t + 1) run.at.inputs) (same_all_sent outs ∙ ap (all_sent other) outs_same) in
      let all : turns net t (all_sent net outs ++ with_stamp (t + 1) run.at.inputs) 0 run.at.moments ≡ turns other t (all_sent other (outputs other t 0 run.at.moments) ++ with_stamp (t + 1) run.at.inputs) 0 run.at.moments =
      same_turns t (all_sent net outs ++ with_stamp (t + 1) run.at.inputs) 0 run.at.moments ∙ ap (λ ms. turns other t ms 0 run.at.moments) sent in
      λ i. round_end run t (outs_same i) (all i) (first_stop 0 (all i))

  same_rounds : (bound n : ℕ) (run : Run S) → rounds_from net bound n run run.fault ≡ rounds_from other bound n run run.fault
  same_rounds bound zero run = refl
  same_rounds bound (suc n) run =
      let time = round_time run.at in
      let rest : rounds_from net bound n (round net run time) (round net run time).fault ≡ rounds_from other bound n (round other run time) (round other run time).fault =
      same_rounds bound n (round net run time) ∙ ap (λ r. rounds_from other bound n r r.fault) (same_round run time) in
      elim run.fault as (λ fault. rounds_from net bound (suc n) run fault ≡ rounds_from other bound (suc n) run fault)
      [ Some met ↦ refl | None ↦ λ i. if nat_lt (round_time run.at) bound then rest i else run ]

  same_run : (until : ℕ) → sequential net until ≡ sequential other until
  unfolding rounds sequential
  same_run until = same_rounds (stamp until 0 0) (stamp until 0 0) (start_run net)

  -- ---- actions

  same_made : (c : ℕ) (now : Moment S) (pending : List Message) (s : ℕ) (move : Move S) → output_made net c now pending s move ≡ output_made other c now pending s move
  same_made c now pending s move = λ i. record {
    step = record { entry = move.entry; before = now; consumed = []; sent = same_routed c (s + 1) move.entry.bag i };
    after = move.after;
    left = pending;
  }

  same_step_at : (c : ℕ) (now : Moment S) (pending : List Message) (s : ℕ) → step_at net c now pending s ≡ step_at other c now pending s
  unfolding step_at
  same_step_at c now pending s =
      let made = same_made c now pending s (output net c now s) ∙ ap (output_made other c now pending s) (same_output c now s) in
      let moves = same_transition c now s (items_of (front s pending)) in
      λ i. if nat_le never s then Err local.NothingDue else if phase_of s == 0 then Ok (made i) else if_moved (transition_made now pending s) (moves i)

  same_step : (c : ℕ) (now : Moment S) (pending : List Message) → local_step net c now pending ≡ local_step other c now pending
  unfolding local_step
  same_step c now pending = same_step_at c now pending (next_of now pending)

  same_act_step : (until : ℕ) (w : World S) (c : ℕ) (p : Option (Process S)) → act_step net until w c p ≡ act_step other until w c p
  same_act_step until w c None = refl
  same_act_step until w c (Some p) = λ i. if nat_lt (next p) (stamp until 0 0) then if_made w c p (same_step c p.now p.pending i) else (Err NothingDue, w)

  same_action : (until : ℕ) (w : World S) (action : Action) → act net until w action ≡ act other until w action
  unfolding act
  same_action until w (Step c) = same_act_step until w c (slice_get w.processes c)
  same_action until w (Post c) = refl
  same_action until w (Deliver q i) = refl
  same_action until w (Back c s) = refl
  same_action until w Raise = refl
  same_action until w (Harvest c) = refl

  same_commands : (until : ℕ) (w : World S) (commands : List Command) → after_commands net until w commands ≡ after_commands other until w commands
  same_commands until w [] = refl
  same_commands until w (Act action ∷ commands) =
      same_commands until (act net until w action).1 commands ∙ ap (λ done. after_commands other until done.1 commands) (same_action until w action)
  same_commands until w (Rewind ss ∷ commands) = same_commands until (rewind w ss).1 commands

-- ---- networks that are alike

-- what only the order of couplings might change
by_order : {S A : Type 0} (f : Network S → A)
    → ((models : List (Meaning S)) (inputs : List Message) (limit : ℕ) (ks ls : List Coupling) → IsPermutation ks ls → f (made_of models inputs limit ks) ≡ f (made_of models inputs limit ls))
    → (one other : Network S) → AreAlike one other → f one ≡ f other
by_order f same one other h =
    same one.models one.inputs one.micro_limit one.couplings other.couplings h.couplings
    ∙ (λ i. f (made_of (h.models i) (h.inputs i) (h.micro_limit i) other.couplings))

pub couplings_law : {S : Type 0} → CouplingsLaw S
couplings_law = record {
  run = λ one other h until. by_order (λ n. sequential n until) (λ models inputs limit ks ls same. same_run models inputs limit ks ls same until) one other h;
  start = λ one other h cancel. by_order (λ n. new_world n cancel) (λ models inputs limit ks ls same. refl) one other h;
  action = λ one other h until w action. by_order (λ n. act n until w action) (λ models inputs limit ks ls same. same_action models inputs limit ks ls same until w action) one other h;
  commands = λ one other h until w commands.
      by_order (λ n. after_commands n until w commands) (λ models inputs limit ks ls same. same_commands models inputs limit ks ls same until w commands) one other h;
}
