-- A component that is ready stays so: by its steps, by cuts, and by messages that come or are withdrawn.
use Rattle.std.proofs.Common.{◌≡◌, ℕ, zero, suc, inl, inr, ◌+◌, ◌-◌, ◌<◌, ◌≤◌, List, [], ◌∷◌, ◌++◌, true, false, cond, Result, Ok, Err, Option, Some, None, refl, sym, ap, subst, ◌∙◌, arith, ⊎_elim}
use Rattle.std.specs.Prelude.{nat_le, nat_lt, ◌==◌, ◌&&◌, filter, take, drop}
use Rattle.std.specs.List.{AllByRecursion as Each}
use Rattle.std.proofs.lemmas.Bool.{cond-true, cond-false, cond_both, eqb-true, eqb-false, lt-leb, cases_Bool, ltb-true, and_parts}
use Rattle.std.proofs.lemmas.List.{take-append-drop}
use Rattle.tw_atomic.specs.Atomic.{Meaning, CanTurn, turned}
use Rattle.tw_atomic.specs.declared.Turn.{Turn}
use Rattle.tw_msgs.specs.Bags.{Bag}
use Rattle.tw_msgs.specs.Messages.{Sorted, place, without}
use Rattle.tw_msgs.specs.declared.message.Item.{Item}
use Rattle.tw_msgs.specs.declared.message.Message.{Message}
use Rattle.tw_msgs.specs.declared.record.Record.{Record}
use Rattle.tw_msgs.proofs.MessageLists.{without-Sorted}
use Rattle.tw_msgs.proofs.Messages.{place-Sorted}
use Rattle.tw_vtime.specs.Advance.{advanced}
use Rattle.tw_vtime.specs.Stamps.{never, phase_of, tick_of, stamp}
use Rattle.tw_vtime.specs.declared.limits.Limit.{Limit}
use Rattle.tw_theory.specs.Bundles.{front, behind, items_of}
use Rattle.tw_theory.specs.Contents.{Process, inputs, cut, before_all, consumed_by, steps_before, back_to_first}
use Rattle.tw_theory.specs.Executive.{mail_of, column_of}
use Rattle.tw_theory.specs.LocalRun.{Step, Made, Leads, next_of, step_at, local_step, output_made, if_moved, transition_made}
use Rattle.tw_theory.specs.Network.{Network, model_of}
use Rattle.tw_theory.specs.Simulator.{records_before, sequential, up_to}
use Rattle.tw_theory.specs.Soundness.{IsFor}
use Rattle.tw_theory.specs.Standing.{IsTied, IsReady, CanTake, floor_after, IsOf, IsReadyFrom, floor_of, floor_of_records}
use Rattle.tw_theory.specs.Transitions.{Moment, Move, output, if_within, moved, transition, turn, kind_of, due_of, first_due, start_moment}
use Rattle.tw_theory.proofs.Elements.{each-place, each-without}
use Rattle.tw_theory.proofs.MessageOrder.{ascending_of_sorted, first_of_place, first_of_without}
use Rattle.tw_theory.proofs.Standing.{before_never, ready_turn, ready_output, ready_transition}
use Rattle.tw_theory.proofs.Steps.{local_step_follows}
use Rattle.tw_laws.specs.Standing.{StandingLaw, MayCome, ReceiveLaw}
use Rattle.tw_laws.proofs.Changing.{box_from_least, each_from_least}
use Rattle.tw_laws.proofs.Runs.{leads_split}

-- ---- at the start

module _ {S : Type 0} (IsValid : S → Type 0) (model : Meaning S) where
  start_tied : (ta : Option ℕ) → IsTied ta (stamp 0 0 0) (first_due ta)
  start_tied None = refl
  start_tied (Some zero) = inl (refl, refl)
  start_tied (Some (suc d)) = inr (omega arith, omega arith)

  start_soon : (ta : Option ℕ) → ta ≡ Some 0 → first_due ta ≤ 0
  start_soon None e = absurd (cc e)
  start_soon (Some d) e = let z : d ≡ 0 = cc e in omega (arith, z)

  pub start_ready : (c : ℕ) (messages : List Message) → IsValid model.start → Sorted messages → Each (CanTake c) messages → IsReadyFrom IsValid model c (start_moment model) messages 0
  start_ready c messages valid sorted takes = (
    record {
      floor = 0;
      stands = record {
        valid = valid;
        last_is = omega arith;
        tied = start_tied (model.ta model.start);
        soon = start_soon (model.ta model.start);
        from = omega arith;
      };
      sorted = sorted;
      takes = takes;
      from = omega arith;
    },
    refl,
  )

-- ---- after a step

-- each turn that may be made keeps a state valid
abbrev pub KeepsValid : {S : Type 0} → (S → Type 0) → Meaning S → Type 0
KeepsValid {S} IsValid model = (turn : Turn) (s : S) (elapsed : ℕ) (bag : Bag) → CanTurn IsValid model turn s elapsed bag → IsValid (turned model turn s elapsed bag)

module _ {S : Type 0} (IsValid : S → Type 0) (model : Meaning S) (keeps : KeepsValid IsValid model) (net : Network S) (c : ℕ) (of : IsOf model net c) where
  -- the move of a transition of a component of this model
  abbrev moved_as : Moment S → ℕ → Bag → Meaning S → Result (Move S) Limit
  moved_as now s bag m =
      let taken = turn (now.due == s) bag in
      let state = turned m taken now.state (tick_of s - tick_of now.last) bag in
      if_within (λ due. record {
        entry = record { component = c; stamp = s; kind = kind_of taken; bag = bag; words = (model_of net c state).words state };
        after = record { state = state; last = s - 1; due = due };
      }) (advanced s (m.ta state) net.micro_limit)

  transition_as : (now : Moment S) (s : ℕ) (bag : Bag) → transition net c now s bag ≡ moved_as now s bag model
  unfolding transition moved
  transition_as now s bag = ap (moved_as now s bag) (of.model_is now.state)

  -- where it stands after a transition
  record Stands (now : Moment S) (s : ℕ) (bag : Bag) (move : Move S) : Type 0 where
    stamp : move.entry.stamp ≡ s
    due : Option ℕ
    advance : advanced s (model.ta (turned model (turn (now.due == s) bag) now.state (tick_of s - tick_of now.last) bag)) net.micro_limit ≡ Ok due
    after : move.after ≡ record { state = turned model (turn (now.due == s) bag) now.state (tick_of s - tick_of now.last) bag; last = s - 1; due = due_of due }

  stands_after : (now : Moment S) (s : ℕ) (bag : Bag) (move : Move S) → transition net c now s bag ≡ Ok move → Stands now s bag move
  stands_after now s bag move e = go (advanced s (model.ta (turned model (turn (now.due == s) bag) now.state (tick_of s - tick_of now.last) bag)) net.micro_limit) refl (sym (transition_as now s bag) ∙ e)
    where
      state : S
      state = turned model (turn (now.due == s) bag) now.state (tick_of s - tick_of now.last) bag

      make : ℕ → Move S
      make due = record {
        entry = record { component = c; stamp = s; kind = kind_of (turn (now.due == s) bag); bag = bag; words = (model_of net c state).words state };
        after = record { state = state; last = s - 1; due = due };
      }

      go : (r : Result (Option ℕ) Limit) → advanced s (model.ta state) net.micro_limit ≡ r → if_within make r ≡ Ok move → Stands now s bag move
      go (Ok due) a f = let is : make (due_of due) ≡ move = cc f in
          record { stamp = sym (ap (λ (m : Move S). m.entry.stamp) is); due = due; advance = a; after = sym (ap (λ (m : Move S). m.after) is) }
      go (Err limit) a f = absurd (cc f)

  output_ready : (now : Moment S) (messages : List Message) (s : ℕ) → IsReady IsValid model c now messages → s ≡ next_of now messages → s < never → phase_of s ≡ 0
      → IsReadyFrom IsValid model c (output net c now s).after messages ((output net c now s).entry.stamp + 1)
  unfolding output ready_output
  output_ready now messages s ready is top even = (ready_output IsValid model c now messages ready s is top even, refl)

  moved_ready : (now : Moment S) (messages : List Message) (s : ℕ) (move : Move S) → IsReady IsValid model c now messages → s ≡ next_of now messages → s < never → phase_of s ≡ 1 → Stands now s (items_of (front s messages)) move
      → IsReadyFrom IsValid model c move.after (behind s messages) (move.entry.stamp + 1)
  unfolding ready_transition
  moved_ready now messages s move ready is top odd at =
      let valid = keeps _ _ _ _ (ready_turn IsValid model c now messages ready s is top odd) in
      subst (λ (m : Moment S). IsReadyFrom IsValid model c m (behind s messages) (move.entry.stamp + 1)) (sym at.after)
      (ready_transition IsValid model c now messages ready s net.micro_limit _ at.due is top odd of.micro_limit valid at.advance, ap (λ n. n + 1) (sym at.stamp))

  pub step_ready : (now : Moment S) (messages : List Message) (made : Made S) → IsReady IsValid model c now messages → local_step net c now messages ≡ Ok made
      → IsReadyFrom IsValid model c made.after made.left (made.step.entry.stamp + 1)
  unfolding local_step step_at
  step_ready now messages made ready e = ⊎_elim outputs transits (cases_Bool (phase_of s == 0))
    where
      s : ℕ
      s = next_of now messages

      top : s < never
      top = (local_step_follows net c now messages made e).before_never

      rest : cond (phase_of s == 0) (Ok (output_made net c now messages s (output net c now s))) (if_moved (transition_made now messages s) (transition net c now s (items_of (front s messages)))) ≡ Ok made
      rest = sym (cond-false (nat_le never s) _ _ (lt-leb never s top)) ∙ e

      outputs : (phase_of s == 0) ≡ true → IsReadyFrom IsValid model c made.after made.left (made.step.entry.stamp + 1)
      outputs p = let is : output_made net c now messages s (output net c now s) ≡ made = cc (sym (cond-true (phase_of s == 0) _ _ p) ∙ rest) in
          subst (λ (m : Made S). IsReadyFrom IsValid model c m.after m.left (m.step.entry.stamp + 1)) is (output_ready now messages s ready refl top (eqb-true (phase_of s) 0 p))

      odd : (phase_of s == 0) ≡ false → phase_of s ≡ 1
      odd p = let n = eqb-false (phase_of s) 0 p in omega (arith, n)

      go : (p : phase_of s ≡ 1) (r : Result (Move S) Limit) → transition net c now s (items_of (front s messages)) ≡ r → if_moved (transition_made now messages s) r ≡ Ok made
          → IsReadyFrom IsValid model c made.after made.left (made.step.entry.stamp + 1)
      go p (Ok move) t f = let is : transition_made now messages s move ≡ made = cc f in
          subst (λ (m : Made S). IsReadyFrom IsValid model c m.after m.left (m.step.entry.stamp + 1)) is (moved_ready now messages s move ready refl top p (stands_after now s (items_of (front s messages)) move t))
      go p (Err limit) t f = absurd (cc f)

      transits : (phase_of s == 0) ≡ false → IsReadyFrom IsValid model c made.after made.left (made.step.entry.stamp + 1)
      transits p = go (odd p) (transition net c now s (items_of (front s messages))) refl (sym (cond-false (phase_of s == 0) _ _ p) ∙ rest)

  pub run_ready : (from : Moment S) (messages : List Message) (steps : List (Step S)) (now : Moment S) (left : List Message) → (ready : IsReady IsValid model c from messages)
      → Leads net c from messages steps now left → IsReadyFrom IsValid model c now left (floor_after ready.floor steps)
  run_ready from messages [] now left ready h =
      subst (λ (m : Moment S). IsReadyFrom IsValid model c m left ready.floor) h.0 (subst (λ (ms : List Message). IsReadyFrom IsValid model c from ms ready.floor) h.1 (ready, refl))
  run_ready from messages (step ∷ steps) now left ready h =
      let after = step_ready from messages h.0 ready h.1 in
      let last : after.0.floor ≡ step.entry.stamp + 1 = after.1 ∙ ap (λ (x : Step S). x.entry.stamp + 1) h.2 in
      subst (λ n. IsReadyFrom IsValid model c now left (floor_after n steps)) last (run_ready h.0.after h.0.left steps now left after.0 h.3)

  pub cut_ready : (s : ℕ) (from : Moment S) (p : Process S) → (ready : IsReady IsValid model c from (inputs p)) → Leads net c from (inputs p) p.history p.now p.pending
      → IsReadyFrom IsValid model c (cut s p).now (cut s p).pending (floor_after ready.floor (cut s p).history)
  unfolding back_to_first
  cut_ready s from p ready h =
      let n = steps_before s p.history in
      let whole = take-append-drop n p.history in
      let split = leads_split net c from (inputs p) (take n p.history) (drop n p.history) p.now p.pending (subst (λ (steps : List (Step S)). Leads net c from (inputs p) steps p.now p.pending) (sym whole) h) in
      run_ready from (inputs p) (take n p.history) (before_all (drop n p.history) p.now) (consumed_by (drop n p.history) ++ p.pending) ready split.0

-- ---- messages that come and go

module _ {S : Type 0} (IsValid : S → Type 0) (model : Meaning S) (c : ℕ) (now : Moment S) (messages : List Message) (m : Message) (ready : IsReady IsValid model c now messages) where
  pub placed_ready : CanTake c m → ready.floor ≤ m.stamp → IsReadyFrom IsValid model c now (place m messages) ready.floor
  placed_ready can late = (
    record {
      floor = ready.floor;
      stands = ready.stands;
      sorted = place-Sorted m messages ready.sorted;
      takes = each-place (CanTake c) m messages can ready.takes;
      from = first_of_place ready.floor m messages late ready.from;
    },
    refl,
  )

  pub withdrawn_ready : IsReadyFrom IsValid model c now (without m messages) ready.floor
  withdrawn_ready = (
    record {
      floor = ready.floor;
      stands = ready.stands;
      sorted = without-Sorted m messages ready.sorted;
      takes = each-without (CanTake c) m messages ready.takes;
      from = first_of_without ready.floor m messages (ascending_of_sorted messages (before_never c messages ready.takes) ready.sorted) ready.from;
    },
    refl,
  )

pub standing_law : {S : Type 0} (IsValid : S → Type 0) (model : Meaning S) → KeepsValid IsValid model → StandingLaw IsValid model
standing_law IsValid model keeps = record {
  start = λ c messages valid sorted takes. start_ready IsValid model c messages valid sorted takes;
  turn = λ c now messages ready s is top odd. ready_turn IsValid model c now messages ready s is top odd;
  step = λ net c now messages made of ready e. step_ready IsValid model keeps net c of now messages made ready e;
  run = λ net c from messages steps now left of ready h. run_ready IsValid model keeps net c of from messages steps now left ready h;
  cut = λ net c s from p of ready h. cut_ready IsValid model keeps net c of s from p ready h;
  placed = λ c now messages m ready can late. placed_ready IsValid model c now messages m ready can late;
  withdrawn = λ c now messages m ready. withdrawn_ready IsValid model c now messages m ready;
}

-- ---- what may be received

-- the records of a component before s stand before a later g too
pub records_early : (c s g : ℕ) (rs : List Record) → s ≤ g → Each (λ r. r.stamp < g) (filter (λ r. (r.component == c) && nat_lt r.stamp s) rs)
records_early c s g [] l = tt
records_early c s g (r ∷ rs) l =
    cond_both ((r.component == c) && nat_lt r.stamp s) _ _ (Each (λ r. r.stamp < g)) (λ e. (let k = ltb-true r.stamp s (and_parts (r.component == c) (nat_lt r.stamp s) e).1 in omega arith, records_early c s g rs l))
    (λ e. records_early c s g rs l)

floor_early : (floor s : ℕ) (rs : List Record) → floor ≤ s → Each (λ r. r.stamp < s) rs → floor_of_records floor rs ≤ s
floor_early floor s [] l h = l
floor_early floor s (r ∷ rs) l h = floor_early (r.stamp + 1) s rs (let k = h.0 in omega (arith, k)) h.1

module _ {S : Type 0} (net : Network S) (until q line : ℕ) (p : Process S) (column : List Record) (line_is : p.line ≡ line) (column_is : column ≡ records_before net until q line) where
  may_come : (g : ℕ) (items : List Item) → line ≤ g → Each (λ i. g ≤ i.message.stamp) items → Each (λ i. IsFor net q i.message) items → Each (λ i. MayCome q p column i.message) items
  may_come g [] l late for = tt
  may_come g (i ∷ items) l late for = (
    record {
      to = for.0.to;
      phase = for.0.fits.phase;
      before_end = for.0.fits.stamp;
      from_line = let a = late.0 in omega (arith, line_is, l, a);
      from_floor = subst (λ (x : List Record). floor_of x ≤ i.message.stamp) (sym column_is) (floor_early 0 i.message.stamp (records_before net until q line) (omega arith)
          (records_early q (up_to until line) i.message.stamp (sequential net until).records (let a = late.0 in omega (arith, l, a))));
      after_column = subst (Each (λ r. r.stamp < i.message.stamp)) (sym column_is) (records_early q (up_to until line) i.message.stamp (sequential net until).records (let a = late.0 in omega (arith, l, a)));
    },
    may_come g items l late.1 for.1,
  )

pub receive_law : {S : Type 0} → ReceiveLaw S
receive_law net until w h q p at =
    let s = h.each q p at in
    let low = box_from_least w.gvt w.mail q (let g = h.gvt_le in omega arith) in
    may_come net until q p.line p (column_of w.columns q) refl s.column_is w.gvt (mail_of w.mail q) s.line_le (each_from_least w.gvt (mail_of w.mail q) low) s.for_mail
