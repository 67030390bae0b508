-- A component's next step by itself, as the code makes it.
use Rattle.std.proofs.Common.{◌≡◌, ℕ, ◌<◌, ◌+◌, ◌*◌, List, [], ◌∷◌, length, Some, Ok, Err, Result, IfErr, IsErrAnd, sym, ap, ◌∙◌, subst, arith, refl}
use Rattle.std.specs.Prelude.{◌≢◌, nat_le, ◌==◌, slice_get}
use Rattle.std.specs.List.{AllByRecursion as Each}
use Rattle.std.proofs.lemmas.Bool.{cond-true, cond-false, eq-eqb, ne_eqb, lt-leb}
use Rattle.tw_atomic.specs.Atomic.{Meaning}
use Rattle.tw_atomic.specs.declared.Turn.{Turn}
use Rattle.tw_msgs.specs.Bags.{Bag}
use Rattle.tw_msgs.specs.declared.message.Message.{Message}
use Rattle.tw_network.specs.Contents.{Contents, network_of}
use Rattle.tw_network.proofs.Places.{model_at}
use Rattle.tw_theory.specs.Bundles.{front, items_of, first_stamp}
use Rattle.tw_theory.specs.Contents.{Cancel, sent_out}
use Rattle.tw_theory.specs.LocalRun.{NothingDue as NothingIsDue, next_of, step_at, local_step, output_made, if_moved, transition_made}
use Rattle.tw_theory.specs.Transitions.{Moment, output, transition}
use Rattle.tw_theory.specs.Installing.{IsFullFor}
use Rattle.tw_theory.specs.Network.{Network, routed}
use Rattle.tw_theory.proofs.Elements.{each_parts}
use Rattle.tw_theory.proofs.MessageOrder.{sorted_right}
use Rattle.tw_vtime.specs.Stamps.{never, phase_of}
use Rattle.tw_process.specs.declared.entry.Entry.{Entry}
use Rattle.tw_step.specs.declared.refused.TurnRefused.{TurnRefused}
use Rattle.tw_step.specs.declared.refused.TurnRefused.TheVariants as refused_turn
use Rattle.tw_pool.specs.declared.refused.PoolRefused.{PoolRefused}
use Rattle.tw_pool.specs.declared.refused.PoolRefused.TheVariants as pool_refused
use Rattle.tw_process.specs.declared.refused.StepRefused.{StepRefused}
use Rattle.tw_process.specs.declared.refused.StepRefused.TheVariants.{OutOfMemory, Full, NothingDue}
use Rattle.tw_process.specs.Refusals.{of_pool, of_turn}
use Rattle.tw_lists.specs.Lists.{Lists, node_count as lists_count}
use Rattle.tw_process.specs.History.{shown, seen, IsKeptBy}
use Rattle.tw_process.specs.Process.{Held, IsStop}
use Rattle.tw_theory.specs.Standing.{CanTake, floor_after}
use Rattle.tw_step.specs.Steps.{IsAt, CanMove, IsOutput, IsStopped}
use Rattle.tw_step.specs.declared.step.Step.{Step as KeptStep}
use Rattle.tw_theory.proofs.Standing.{can_turn}
use Rattle.tw_process.proofs.Histories.{live_shown}

module _ {S : Type 0} (net : Network S) (c : ℕ) (now : Moment S) (pending : List Message) (s : ℕ) where
  pub local_output : s ≡ next_of now pending → s < never → phase_of s ≡ 0 → local_step net c now pending ≡ Ok (output_made net c now pending s (output net c now s))
  unfolding local_step step_at
  local_output is top even =
      ap (step_at net c now pending) (sym is)
      ∙ cond-false (nat_le never s) _ _ (lt-leb never s top)
      ∙ cond-true (phase_of s == 0) _ _ (eq-eqb (phase_of s) 0 even)

  pub local_transition : s ≡ next_of now pending → s < never → phase_of s ≡ 1
      → local_step net c now pending ≡ if_moved (transition_made now pending s) (transition net c now s (items_of (front s pending)))
  unfolding local_step step_at
  local_transition is top odd =
      ap (step_at net c now pending) (sym is)
      ∙ cond-false (nat_le never s) _ _ (lt-leb never s top)
      ∙ cond-false (phase_of s == 0) _ _ (ne_eqb (phase_of s) 0 (omega arith))

pub local_nothing : {S : Type 0} (net : Network S) (c : ℕ) (now : Moment S) (pending : List Message) → next_of now pending ≡ never → local_step net c now pending ≡ Err NothingIsDue
unfolding local_step step_at
local_nothing net c now pending is = ap (step_at net c now pending) is

pub first_odd : (c : ℕ) (ms : List Message) → Each (CanTake c) ms → phase_of (first_stamp ms) ≡ 1
first_odd c [] h = omega arith
first_odd c (m ∷ ms) h = h.0.phase

-- what the refusal of the pool says of a step
stop_as : {M S : Type 0} (meaning : M → Meaning S) (p : Held M S) (e : PoolRefused) → (e ≡ pool_refused.Full → IsFullFor (network_of meaning p.network) p.component p.process) → IsStop meaning p (of_pool e)
stop_as meaning p pool_refused.OutOfMemory full = tt
stop_as meaning p pool_refused.Full full = full refl

pub stop_for_pool : {M S T : Type 0} (meaning : M → Meaning S) (p : Held M S) (r : Result T StepRefused) (e : PoolRefused) → IsErrAnd r (λ x. x ≡ of_pool e) → (e ≡ pool_refused.Full → IsFullFor (network_of meaning p.network) p.component p.process) → IfErr r (IsStop meaning p)
stop_for_pool meaning p (Ok x) e is full = tt
stop_for_pool meaning p (Err x) e is full = subst (λ y. IsStop meaning p y) (sym is) (stop_as meaning p e full)

-- it is never that nothing is due
pub due_for_pool : {T : Type 0} (r : Result T StepRefused) (e : PoolRefused) → IsErrAnd r (λ x. x ≡ of_pool e) → r ≢ Err NothingDue
due_for_pool (Ok x) e is h = absurd (cc h)
due_for_pool (Err x) pool_refused.OutOfMemory is h = let same : x ≡ NothingDue = cc h in let k : OutOfMemory ≡ NothingDue = sym is ∙ same in absurd (cc k)
due_for_pool (Err x) pool_refused.Full is h = let same : x ≡ NothingDue = cc h in let k : Full ≡ NothingDue = sym is ∙ same in absurd (cc k)

module _ {M S R : Type 0} (valid : M → S → Type 0) (meaning : M → Meaning S) (undone : M → Turn → S → ℕ → Bag → R → S) (network : Contents M) (c : ℕ) (model : M) (there : slice_get network.models c ≡ Some model) where
  -- the network of the process, for the steps of tw_step
  pub is_at : (limit : ℕ) → limit ≡ network.micro_limit → IsAt (network_of meaning network) (meaning model) (record { component = c; micro_limit = limit })
  is_at limit limit_is = record { model_is = λ s. model_at meaning network c model s there; limit_is = sym limit_is }

  -- what a transition needs, as the code has its bag
  pub move_possible : (before : Moment S) (floor : ℕ) (es : List (Entry S R)) (old : Lists) (bag : Bag) (s : ℕ) → IsKeptBy (valid model) (meaning model) (undone model) c before floor es old
      → s ≡ next_of before old.pending → s < never → phase_of s ≡ 1 → bag ≡ items_of (front s old.pending) → CanMove (valid model) (meaning model) before s bag
  move_possible before floor es old bag s kept next top odd bag_is =
      let pending_taken = (each_parts (CanTake c) old.consumed old.pending kept.fit).1 in
      let pending_sorted = sorted_right old.consumed old.pending kept.sorted in
      subst (CanMove (valid model) (meaning model) before s) (sym bag_is)
      (can_turn (valid model) (meaning model) c before (floor_after floor (shown es old.consumed old.sent)) s old.pending kept.standing kept.from pending_sorted pending_taken next top odd)

  -- a limit that the transition meets stops the step
  pub stops : (now : Moment S) (line : ℕ) (way : Cancel) (floor : ℕ) (es : List (Entry S R)) (lists : Lists) (s limit : ℕ) (bag : Bag) (e : TurnRefused) → limit ≡ network.micro_limit
      → s ≡ next_of now lists.pending → s < never → phase_of s ≡ 1 → bag ≡ items_of (front s lists.pending)
      → IsStopped (meaning model) (record { component = c; micro_limit = limit }) now s bag e
      → IsStop meaning (seen network c now line way floor es lists) (of_turn e)
  stops now line way floor es lists s limit bag refused_turn.OutOfMemory limit_is next top odd bag_is h = tt
  stops now line way floor es lists s limit bag (refused_turn.OverLimit met) limit_is next top odd bag_is h =
      let net = network_of meaning network in
      local_transition net c now lists.pending s next top odd
      ∙ ap (λ b. if_moved (transition_made now lists.pending s) (transition net c now s b)) (sym bag_is)
      ∙ ap (if_moved (transition_made now lists.pending s)) (h net (is_at limit limit_is))

  -- an output that is made, as the definition makes it
  pub output_step : (now : Moment S) (pending : List Message) (s : ℕ) (step : KeptStep S R) → s ≡ next_of now pending → s < never → phase_of s ≡ 0 → IsOutput (meaning model) c now s step
      → local_step (network_of meaning network) c now pending ≡ Ok (output_made (network_of meaning network) c now pending s (record { entry = step.done; after = record now { due = s + 1 } }))
  output_step now pending s step next top even out =
      let net = network_of meaning network in
      local_output net c now pending s next top even ∙ ap (λ m. Ok (output_made net c now pending s m)) (out.makes net (λ x. model_at meaning network c model x there))

  -- an output whose nodes would be too many
  pub too_large : (now : Moment S) (line : ℕ) (way : Cancel) (floor : ℕ) (es : List (Entry S R)) (lists : Lists) (s : ℕ) (step : KeptStep S R) (ms : List Message)
      → IsKeptBy (valid model) (meaning model) (undone model) c now floor es lists
      → s ≡ next_of now lists.pending → s < never → phase_of s ≡ 0 → IsOutput (meaning model) c now s step → ms ≡ routed (network_of meaning network) c (s + 1) step.done.bag
      → 1048576 < lists_count lists + 2 * length (sent_out way lists.owed ms)
      → IsFullFor (network_of meaning network) c (seen network c now line way floor es lists).process
  too_large now line way floor es lists s step ms kept next top even out ms_is full =
      let net = network_of meaning network in
      record {
        made = output_made net c now lists.pending s (record { entry = step.done; after = record now { due = s + 1 } });
        is = output_step now lists.pending s step next top even out;
        passes = omega (arith, full, ap (λ l. length (sent_out way lists.owed l)) ms_is, live_shown (valid model) (meaning model) (undone model) network c now line way floor es lists kept);
      }
