-- A step that the definition makes keeps what a process keeps: its own, and one that was made elsewhere, as a chain's.
use Rattle.std.proofs.Common.{◌≡◌, ℕ, ◌+◌, ◌-◌, ◌<◌, ◌≤◌, ◌==◌, List, [], ◌∷◌, ◌++◌, true, false, cond, Option, Result, Ok, Err, refl, sym, ap, subst, ◌∙◌, arith, ⊎_elim, length}
use Rattle.std.specs.Prelude.{nat_le}
use Rattle.std.specs.List.{AllByRecursion as Each}
use Rattle.std.proofs.lemmas.Bool.{cond-true, cond-false, eqb-true, eqb-false, lt-leb, cases_Bool}
use Rattle.tw_atomic.specs.Atomic.{Bag, Meaning, turned, CanTurn}
use Rattle.tw_atomic.specs.declared.Turn.{Turn}
use Rattle.tw_msgs.specs.Messages.{Sorted}
use Rattle.tw_msgs.specs.declared.message.Message.{Message}
use Rattle.tw_theory.specs.Bundles.{front, items_of, first_stamp}
use Rattle.tw_theory.specs.LocalRun.{Made, local_step, step_at, next_of, output_made, transition_made, if_moved}
use Rattle.tw_theory.specs.Transitions.{Moment, output, transition, moved, if_within, turn, kind_of, due_of}
use Rattle.tw_theory.specs.Network.{Network, model_of}
use Rattle.tw_theory.proofs.Steps.{local_step_follows}
use Rattle.tw_vtime.specs.Advance.{advanced}
use Rattle.tw_vtime.specs.Stamps.{never, phase_of, tick_of, max_microstep}
use Rattle.tw_vtime.specs.declared.limits.Limit.{Limit}
use Rattle.tw_theory.specs.Standing.{IsStanding, CanTake}
use Rattle.tw_theory.proofs.Standing.{before_never, can_turn, after_output, after_transition}
use Rattle.tw_process.proofs.Made.{first_odd}
use Rattle.tw_theory.specs.Bundles.{positives}
use Rattle.tw_theory.specs.Contents.{Cancel, sent_out, owed_after, with_step}
use Rattle.tw_theory.proofs.Elements.{each_parts}
use Rattle.tw_theory.proofs.MessageOrder.{ascending_of_sorted, sorted_right}
use Rattle.tw_network.specs.Contents.{Contents as NetworkContents}
use Rattle.tw_process.specs.declared.entry.Entry.{Entry}
use Rattle.tw_lists.specs.Lists.{Lists}
use Rattle.tw_step.specs.Steps.{before_of, Linked}
use Rattle.tw_process.specs.History.{step_of, shown, seen, IsKeptBy}
use Rattle.tw_theory.specs.Standing.{floor_after}
use Rattle.tw_process.proofs.Histories.{grown}

module _ {S : Type 0} (net : Network S) (c : ℕ) (valid : S → Type 0) (m : Meaning S) (is : (s : S) → model_of net c s ≡ m) (small : net.micro_limit ≤ max_microstep)
    (stays : (tk : Turn) (state : S) (elapsed : ℕ) (bag : Bag) → CanTurn valid m tk state elapsed bag → valid (turned m tk state elapsed bag)) where
  output_standing : (now : Moment S) (pending : List Message) (floor s : ℕ) → IsStanding valid m now floor → now.due ≡ s → s < never → phase_of s ≡ 0
      → IsStanding valid m (output_made net c now pending s (output net c now s)).after ((output_made net c now pending s (output net c now s)).step.entry.stamp + 1)
  unfolding output
  output_standing now pending floor s at due top even = after_output valid m now floor s at due top even

  moved_standing : (now : Moment S) (pending : List Message) (s : ℕ) (tk : Turn) (bag : Bag) (state : S) (due : Option ℕ) → valid state → s < never → phase_of s ≡ 1 → advanced s (m.ta state) net.micro_limit ≡ Ok due
      → IsStanding valid m (transition_made now pending s (moved net c s (kind_of tk) bag state (due_of due))).after ((transition_made now pending s (moved net c s (kind_of tk) bag state (due_of due))).step.entry.stamp + 1)
  unfolding moved
  moved_standing now pending s tk bag state due fits top odd a = after_transition valid m state s net.micro_limit due fits top odd small a

  transition_is : (now : Moment S) (s : ℕ) (bag : Bag) → (state : S) → state ≡ turned m (turn (now.due == s) bag) now.state (tick_of s - tick_of now.last) bag
      → transition net c now s bag ≡ if_within (moved net c s (kind_of (turn (now.due == s) bag)) bag state) (advanced s (m.ta state) net.micro_limit)
  unfolding transition
  transition_is now s bag state state_is =
      (λ i. if_within (moved net c s (kind_of (turn (now.due == s) bag)) bag (turned (is now.state i) (turn (now.due == s) bag) now.state (tick_of s - tick_of now.last) bag)) (advanced s ((is now.state i).ta (turned (is now.state i) (turn (now.due == s) bag) now.state (tick_of s - tick_of now.last) bag)) net.micro_limit))
      ∙ sym (ap (λ x. if_within (moved net c s (kind_of (turn (now.due == s) bag)) bag x) (advanced s (m.ta x) net.micro_limit)) state_is)

  pub made_standing : (now : Moment S) (pending : List Message) (made : Made S) (floor : ℕ) → IsStanding valid m now floor → floor ≤ first_stamp pending → Sorted pending → Each (CanTake c) pending → local_step net c now pending ≡ Ok made
      → IsStanding valid m made.after (made.step.entry.stamp + 1)
  unfolding local_step step_at
  made_standing now pending made floor at from sorted fit e = ⊎_elim outputs transits (cases_Bool (phase_of s == 0))
    where
      s : ℕ
      s = next_of now pending

      top : next_of now pending < never
      top = (local_step_follows net c now pending made e).before_never

      rest : cond (phase_of (next_of now pending) == 0) (Ok (output_made net c now pending (next_of now pending) (output net c now (next_of now pending)))) (if_moved (transition_made now pending (next_of now pending)) (transition net c now (next_of now pending) (items_of (front (next_of now pending) pending)))) ≡ Ok made
      rest = sym (cond-false (nat_le never (next_of now pending)) _ _ (lt-leb never (next_of now pending) top)) ∙ e

      outputs : (phase_of (next_of now pending) == 0) ≡ true → IsStanding valid m made.after (made.step.entry.stamp + 1)
      outputs p =
          let t = next_of now pending in
          let same : output_made net c now pending t (output net c now t) ≡ made = cc (sym (cond-true (phase_of t == 0) _ _ p) ∙ rest) in
          let even = eqb-true (phase_of t) 0 p in
          let odd = first_odd c pending fit in
          subst (λ (x : Made S). IsStanding valid m x.after (x.step.entry.stamp + 1)) same (output_standing now pending floor t at (omega (arith, even, odd)) top even)

      transits : (phase_of (next_of now pending) == 0) ≡ false → IsStanding valid m made.after (made.step.entry.stamp + 1)
      transits p =
          let t = next_of now pending in
          let bag = items_of (front t pending) in
          let tk = turn (now.due == t) bag in
          let el = tick_of t - tick_of now.last in
          let differs = eqb-false (phase_of t) 0 p in
          let odd : phase_of t ≡ 1 = omega (arith, differs) in
          let can = can_turn valid m c now floor t pending at from sorted fit refl top odd in
          let st = turned m tk now.state el bag in
          go (advanced t (m.ta st) net.micro_limit) refl odd (stays tk now.state el bag can)
          (sym (ap (if_moved (transition_made now pending t)) (transition_is now t bag st refl)) ∙ sym (cond-false (phase_of t == 0) _ _ p) ∙ rest)
        where
          go : (r : Result (Option ℕ) Limit) → advanced (next_of now pending) (m.ta (turned m (turn (now.due == next_of now pending) (items_of (front (next_of now pending) pending))) now.state (tick_of (next_of now pending) - tick_of now.last) (items_of (front (next_of now pending) pending)))) net.micro_limit ≡ r
              → phase_of (next_of now pending) ≡ 1 → valid (turned m (turn (now.due == next_of now pending) (items_of (front (next_of now pending) pending))) now.state (tick_of (next_of now pending) - tick_of now.last) (items_of (front (next_of now pending) pending)))
              → if_moved (transition_made now pending (next_of now pending)) (if_within (moved net c (next_of now pending) (kind_of (turn (now.due == next_of now pending) (items_of (front (next_of now pending) pending)))) (items_of (front (next_of now pending) pending)) (turned m (turn (now.due == next_of now pending) (items_of (front (next_of now pending) pending))) now.state (tick_of (next_of now pending) - tick_of now.last) (items_of (front (next_of now pending) pending)))) r) ≡ Ok made
              → IsStanding valid m made.after (made.step.entry.stamp + 1)
          go (Ok due) a odd fits f =
              let t = next_of now pending in
              let bag = items_of (front t pending) in
              let tk = turn (now.due == t) bag in
              let st = turned m tk now.state (tick_of t - tick_of now.last) bag in
              let same : transition_made now pending t (moved net c t (kind_of tk) bag st (due_of due)) ≡ made = cc f in
              subst (λ (x : Made S). IsStanding valid m x.after (x.step.entry.stamp + 1)) same (moved_standing now pending t tk bag st due fits top odd a)
          go (Err l) a odd fits f = absurd (cc f)

-- ---- In a process

-- the lists when such a step is in the history
abbrev pub installing : {S : Type 0} → Cancel → Made S → Lists → Lists
installing way made old = record old {
  pending = made.left;
  consumed = old.consumed ++ made.step.consumed;
  sent = old.sent ++ made.step.sent;
  outgoing = old.outgoing ++ positives (sent_out way old.owed made.step.sent);
  owed = owed_after way old.owed made.step.sent;
}

module _ {S R : Type 0} (net : Network S) (c : ℕ) (valid : S → Type 0) (m : Meaning S) (undone : Turn → S → ℕ → Bag → R → S) (is : (s : S) → model_of net c s ≡ m) (small : net.micro_limit ≤ max_microstep)
    (stays : (tk : Turn) (state : S) (elapsed : ℕ) (bag : Bag) → CanTurn valid m tk state elapsed bag → valid (turned m tk state elapsed bag)) where
  -- this entry stands for the next step
  pub record IsRow (now : Moment S) (old : Lists) (e : Entry S R) (made : Made S) : Type 0 where
    pub step : local_step net c now old.pending ≡ Ok made
    pub done_is : e.step.done ≡ made.step.entry
    pub before_is : before_of e.step ≡ now
    pub consumed_is : length made.step.consumed ≡ e.consumed
    pub sent_is : length made.step.sent ≡ e.sent
    pub link : Linked undone e.step made.after.state

  pub record Installed {M : Type 0} (network : NetworkContents M) (now : Moment S) (line : ℕ) (way : Cancel) (floor : ℕ) (es : List (Entry S R)) (old : Lists) (e : Entry S R) (made : Made S) : Type 0 where
    pub kept : IsKeptBy valid m undone c made.after floor (es ++ e ∷ []) (installing way made old)
    pub seen_is : seen network c made.after line way floor (es ++ e ∷ []) (installing way made old)
        ≡ record (seen network c now line way floor es old) { process = with_step (seen network c now line way floor es old).process made }

  pub installed : {M : Type 0} (network : NetworkContents M) (now : Moment S) (line : ℕ) (way : Cancel) (floor : ℕ) (es : List (Entry S R)) (old : Lists) (e : Entry S R) (made : Made S)
      → IsKeptBy valid m undone c now floor es old → IsRow now old e made → Installed network now line way floor es old e made
  installed network now line way floor es old e made kept row =
      let s = next_of now old.pending in
      let f = local_step_follows net c now old.pending made row.step in
      let fit = (each_parts (CanTake c) old.consumed old.pending kept.fit).1 in
      let sorted = sorted_right old.consumed old.pending kept.sorted in
      let standing = made_standing net c valid m is small stays now old.pending made (floor_after floor (shown es old.consumed old.sent)) kept.standing kept.from sorted fit row.step in
      let stamp : e.step.done.stamp ≡ s = ap (λ x. x.stamp) row.done_is ∙ f.stamp_is in
      let low = kept.standing.from in
      let first = kept.from in
      let odd = first_odd c old.pending fit in
      let later = f.strict (ascending_of_sorted old.pending (before_never c old.pending fit) sorted) (omega arith) odd in
      let g = grown valid m undone c now made.after floor es e old (installing way made old) made.step.consumed made.step.sent kept row.before_is row.link refl refl row.consumed_is row.sent_is f.messages
      (omega (arith, low, first, stamp)) (subst (λ t. Each (λ x. x.stamp ≡ t) made.step.consumed) (sym stamp) f.consumed_at)
      (subst (λ t. IsStanding valid m made.after (t + 1)) (sym (ap (λ x. x.stamp) row.done_is)) standing) (omega (arith, later, stamp)) in
      let step_is : step_of e made.step.consumed made.step.sent ≡ made.step = λ i. record { entry = row.done_is i; before = (row.before_is ∙ sym f.before) i; consumed = made.step.consumed; sent = made.step.sent } in
      record {
        kept = g.kept;
        seen_is = ap (λ h. record (seen network c made.after line way floor es (installing way made old)) { process = record (seen network c made.after line way floor es (installing way made old)).process { history = h } })
            (g.history ∙ ap (λ x. shown es old.consumed old.sent ++ x ∷ []) step_is);
      }
