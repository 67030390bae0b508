-- A process whose run began where it was ready stays one, whatever it does.
use Rattle.std.proofs.Common.{◌≡◌, ℕ, suc, ◌∙◌, ◌+◌, ◌≤◌, List, [], ◌∷◌, ◌++◌, Ok, refl, sym, subst, arith}
use Rattle.std.specs.Prelude.{take, drop, ◌==◌}
use Rattle.std.specs.List.{AllByRecursion as Each}
use Rattle.std.proofs.lemmas.Bool.{cond_both, eqb-true}
use Rattle.std.proofs.lemmas.List.{take-append-drop}
use Rattle.tw_atomic.specs.Atomic.{Meaning}
use Rattle.tw_msgs.specs.Messages.{has, place, without, sorted_messages, Sorted}
use Rattle.tw_msgs.specs.declared.message.Message.{Message}
use Rattle.tw_msgs.specs.declared.record.Record.{Record}
use Rattle.tw_msgs.specs.declared.message.Sign.{Sign}
use Rattle.tw_msgs.specs.declared.message.Sign.TheVariants.{Positive, Anti}
use Rattle.tw_msgs.proofs.MessageLists.{without-Sorted}
use Rattle.tw_msgs.proofs.Messages.{place-Sorted, sorted_messages-Sorted}
use Rattle.tw_vtime.specs.Stamps.{phase_of}
use Rattle.tw_theory.specs.Bundles.{first_stamp, addressed, Ascending}
use Rattle.tw_theory.specs.Chains.{Start}
use Rattle.tw_theory.specs.Contents.{Process, Cancel, Aggressive, Lazy, next, inputs, consumed_by, before_all, with_step, with_pending, back_to_first, steps_before, steps_from, cut, placed, removed, Received, receive_signed, settled_as, records_of}
use Rattle.tw_theory.specs.Installing.{TakesFrom}
use Rattle.tw_theory.specs.LocalRun.{Step, Made, Leads, local_step}
use Rattle.tw_theory.specs.Network.{Network}
use Rattle.tw_theory.specs.Soundness.{AllBefore}
use Rattle.tw_theory.specs.Standing.{CanTake, IsOf, IsReadyFrom, IsRunning, floor_after, floor_of, floor_of_records}
use Rattle.tw_theory.specs.Transitions.{start_moment}
use Rattle.tw_theory.proofs.Cuts.{inputs_of_cut}
use Rattle.tw_theory.proofs.Elements.{each-append, each_parts, each_weaker, each-place, each-without, each-sorted}
use Rattle.tw_theory.proofs.Histories.{cut_before, floor_within}
use Rattle.tw_theory.proofs.MessageOrder.{ascending_of_sorted, first_of_place, first_of_without, sorted_join, sorted_right}
use Rattle.tw_theory.proofs.Runs.{leads_more, leads_consumes}
use Rattle.tw_theory.proofs.Standing.{before_never}
use Rattle.tw_theory.proofs.Steps.{local_step_follows}
use Rattle.tw_laws.specs.Standing.{RunningLaw}
use Rattle.tw_laws.proofs.Cutting.{none_from}
use Rattle.tw_laws.proofs.Delivering.{before_weaker, before_both, consumed_before}
use Rattle.tw_laws.proofs.Ready.{KeepsValid, start_ready, run_ready}
use Rattle.tw_laws.proofs.Runs.{leads_split, leads_other, in_order}
use Rattle.tw_laws.proofs.Stepping.{inputs_same}

all_odd : (c : ℕ) (ms : List Message) → Each (CanTake c) ms → Each (λ m. phase_of m.stamp ≡ 1) ms
all_odd c ms h = each_weaker (CanTake c) (λ m. phase_of m.stamp ≡ 1) (λ m k. k.phase) ms h

-- what comes first, where other messages stand behind those that were consumed
first_of_other : (s : ℕ) (xs ys zs : List Message) → s ≤ first_stamp (xs ++ ys) → (s ≤ first_stamp ys → s ≤ first_stamp zs) → s ≤ first_stamp (xs ++ zs)
first_of_other s [] ys zs h f = f h
first_of_other s (x ∷ xs) ys zs h f = h

floor_of_steps : {S : Type 0} (floor : ℕ) (steps : List (Step S)) → floor_after floor steps ≡ floor_of_records floor (records_of steps)
floor_of_steps floor [] = refl
floor_of_steps floor (x ∷ steps) = floor_of_steps (x.entry.stamp + 1) steps

floor_of_more : (floor : ℕ) (xs ys : List Record) → floor_of_records (floor_of_records floor xs) ys ≡ floor_of_records floor (xs ++ ys)
floor_of_more floor [] ys = refl
floor_of_more floor (x ∷ xs) ys = floor_of_more (x.stamp + 1) xs ys

module _ {S : Type 0} (IsValid : S → Type 0) (model : Meaning S) (net : Network S) (c floor : ℕ) where
  abbrev Running : Process S → Type 0
  Running p = IsRunning IsValid model net c floor p

  pub step_runs : (p : Process S) (made : Made S) → Running p → local_step net c p.now p.pending ≡ Ok made → Running (with_step p made)
  step_runs p made h e =
      let f = local_step_follows net c p.now p.pending made e in
      let same = inputs_same p made f.messages in
      record {
        from = h.from;
        ready = subst (λ (ms : List Message). IsReadyFrom IsValid model c h.from ms floor) same h.ready;
        runs = subst (λ (ms : List Message). Leads net c h.from ms (p.history ++ made.step ∷ []) made.after made.left) same (leads_more net c h.from (inputs p) p.history p.now p.pending made h.runs e);
      }

  pub back_runs : (n : ℕ) (p : Process S) → Running p → Running (back_to_first n p)
  unfolding back_to_first
  back_runs n p h =
      let same = sym (inputs_of_cut n p) in
      let whole = take-append-drop n p.history in
      let split = leads_split net c h.from (inputs p) (take n p.history) (drop n p.history) p.now p.pending (subst (λ (steps : List (Step S)). Leads net c h.from (inputs p) steps p.now p.pending) (sym whole) h.runs) in
      record {
        from = h.from;
        ready = subst (λ (ms : List Message). IsReadyFrom IsValid model c h.from ms floor) same h.ready;
        runs = subst (λ (ms : List Message). Leads net c h.from ms (take n p.history) (before_all (drop n p.history) p.now) (consumed_by (drop n p.history) ++ p.pending)) same split.0;
      }

  pub cut_runs : (s : ℕ) (p : Process S) → Running p → Running (cut s p)
  cut_runs s p h = back_runs (steps_before s p.history) p h

  -- ---- other messages pending, behind every step that was made

  order_of : (p : Process S) → Running p → AllBefore (next p) p.history × Ascending p.pending
  order_of p h =
      let ready = h.ready.0 in
      let up = ascending_of_sorted (inputs p) (before_never c (inputs p) ready.takes) ready.sorted in
      let order = in_order net c h.from (inputs p) p.history p.now p.pending h.runs up (all_odd c (inputs p) ready.takes) in
      (order.past, order.ascending)

  pending_runs : (p : Process S) (ms : List Message) → Running p → AllBefore (first_stamp ms) p.history → Sorted ms → Each (CanTake c) ms → (floor ≤ first_stamp p.pending → floor ≤ first_stamp ms)
      → Running (with_pending p ms)
  pending_runs p ms h before up takes first =
      let ready = h.ready.0 in
      let ascends = ascending_of_sorted (inputs p) (before_never c (inputs p) ready.takes) ready.sorted in
      let consumed = consumed_before (first_stamp ms) p.history before (leads_consumes net c h.from (inputs p) p.history p.now p.pending h.runs) in
      let old = each_parts (CanTake c) (consumed_by p.history) p.pending ready.takes in
      let low : floor ≤ first_stamp (consumed_by p.history ++ p.pending) = let is = h.ready.1 in let l = ready.from in omega (arith, is, l) in
      let is : floor ≤ first_stamp (consumed_by p.history ++ ms) = first_of_other floor (consumed_by p.history) p.pending ms low first in
      record {
        from = h.from;
        ready = (
          record {
            floor = ready.floor;
            stands = ready.stands;
            sorted = sorted_join (consumed_by p.history) p.pending ms ready.sorted up consumed;
            takes = each-append (CanTake c) (consumed_by p.history) ms old.0 takes;
            from = (let e = h.ready.1 in omega (arith, e, is));
          },
          h.ready.1,
        );
        runs = leads_other net c h.from (inputs p) p.history p.now p.pending ms h.runs ascends (all_odd c (inputs p) ready.takes) before;
      }

  pub placed_runs : (p : Process S) (m : Message) → Running p → CanTake c m → floor ≤ m.stamp → AllBefore m.stamp p.history → Running (placed p m)
  placed_runs p m h can late before =
      let ready = h.ready.0 in
      let o = order_of p h in
      let old = each_parts (CanTake c) (consumed_by p.history) p.pending ready.takes in
      let first = before_both m.stamp (next p) (first_stamp (place m p.pending)) p.history (λ k a b. let f = first_of_place (suc k) m p.pending a (omega arith) in f) before o.0 in
      pending_runs p (place m p.pending) h first (place-Sorted m p.pending (sorted_right (consumed_by p.history) p.pending ready.sorted)) (each-place (CanTake c) m p.pending can old.1) (λ l. first_of_place floor m p.pending late l)

  pub removed_runs : (p : Process S) (m : Message) → Running p → Running (removed p m)
  removed_runs p m h =
      let ready = h.ready.0 in
      let o = order_of p h in
      let old = each_parts (CanTake c) (consumed_by p.history) p.pending ready.takes in
      let first = before_weaker (next p) (first_stamp (without m p.pending)) p.history (λ k l. let f = first_of_without (suc k) m p.pending o.1 (omega arith) in f) o.0 in
      pending_runs p (without m p.pending) h first (without-Sorted m p.pending (sorted_right (consumed_by p.history) p.pending ready.sorted)) (each-without (CanTake c) m p.pending old.1) (λ l. first_of_without floor m p.pending o.1 l)

  pub received_runs : (p : Process S) (sign : Sign) (m : Message) → Running p → CanTake c m → floor ≤ m.stamp → Running (receive_signed p sign m).1
  received_runs p Positive m h can late =
      cond_both (has m p.waiting) _ _ (λ (r : Received × Process S). Running r.1)
      (λ e. record { from = h.from; ready = h.ready; runs = h.runs })
      (λ e. cond_both (steps_from m.stamp p == 0) _ _ (λ (r : Received × Process S). Running r.1)
      (λ d. placed_runs p m h can late (none_from m.stamp p (eqb-true (steps_from m.stamp p) 0 d)))
      (λ d. placed_runs (cut m.stamp p) m (cut_runs m.stamp p h) can late (cut_before m.stamp p)))
  received_runs p Anti m h can late =
      cond_both (has m p.pending) _ _ (λ (r : Received × Process S). Running r.1)
      (λ e. removed_runs p m h)
      (λ e. cond_both (has m (consumed_by p.history)) _ _ (λ (r : Received × Process S). Running r.1)
      (λ d. removed_runs (cut m.stamp p) m (cut_runs m.stamp p h))
      (λ d. record { from = h.from; ready = h.ready; runs = h.runs }))

  settled_runs : (k : Cancel) (p : Process S) → Running p → Running (settled_as k p)
  settled_runs Aggressive p h = h
  settled_runs Lazy p h = record { from = h.from; ready = h.ready; runs = h.runs }

pub taken_runs : {S : Type 0} (IsValid : S → Type 0) (model : Meaning S) (net : Network S) (floor : ℕ) (start : Start S) (n : ℕ) (steps : List (Step S)) (p q : Process S)
    → IsRunning IsValid model net start.component floor p → TakesFrom net start n steps p q → IsRunning IsValid model net start.component floor q
taken_runs IsValid model net floor start n [] p q h is = subst (λ (x : Process _). IsRunning IsValid model net start.component floor x) (sym is) h
taken_runs IsValid model net floor start n (step ∷ steps) p q h is =
    taken_runs IsValid model net floor start (n + 1) steps (with_step p is.1.0) q (step_runs IsValid model net start.component floor p is.1.0 h is.1.1) is.1.2

module _ {S : Type 0} (IsValid : S → Type 0) (model : Meaning S) (keeps : KeepsValid IsValid model) where
  ready_runs : (net : Network S) (c floor : ℕ) (p : Process S) → IsOf model net c → IsRunning IsValid model net c floor p → IsReadyFrom IsValid model c p.now p.pending (floor_after floor p.history)
  ready_runs net c floor p of h =
      subst (λ n. IsReadyFrom IsValid model c p.now p.pending (floor_after n p.history)) h.ready.1
      (run_ready IsValid model keeps net c of h.from (inputs p) p.history p.now p.pending h.ready.0 h.runs)

  commit_runs : (net : Network S) (c floor n : ℕ) (p : Process S) → IsOf model net c → IsRunning IsValid model net c floor p
      → IsRunning IsValid model net c (floor_after floor (take n p.history)) (record p { history = drop n p.history })
  commit_runs net c floor n p of h =
      let whole = take-append-drop n p.history in
      let split = leads_split net c h.from (inputs p) (take n p.history) (drop n p.history) p.now p.pending (subst (λ (steps : List (Step S)). Leads net c h.from (inputs p) steps p.now p.pending) (sym whole) h.runs) in
      record {
        from = before_all (drop n p.history) p.now;
        ready = subst (λ k. IsReadyFrom IsValid model c (before_all (drop n p.history) p.now) (consumed_by (drop n p.history) ++ p.pending) (floor_after k (take n p.history))) h.ready.1
            (run_ready IsValid model keeps net c of h.from (inputs p) (take n p.history) (before_all (drop n p.history) p.now) (consumed_by (drop n p.history) ++ p.pending) h.ready.0 split.0);
        runs = split.1;
      }

  pub running_law : RunningLaw IsValid model
  running_law = record {
    start = λ net cancel c valid takes. record {
      from = start_moment model;
      ready = start_ready IsValid model c (sorted_messages (addressed c net.inputs)) valid (sorted_messages-Sorted (addressed c net.inputs)) (each-sorted (CanTake c) (addressed c net.inputs) takes);
      runs = (refl, refl);
    };
    ready = λ net c floor p of h. ready_runs net c floor p of h;
    step = λ net c floor p made h e. step_runs IsValid model net c floor p made h e;
    back = λ net c floor n p h. back_runs IsValid model net c floor n p h;
    taken = λ net floor n start steps p q h is. taken_runs IsValid model net floor start n steps p q h is;
    put = λ net c floor p m h can late before. placed_runs IsValid model net c floor p m h can late before;
    withdraw = λ net c floor p m h. removed_runs IsValid model net c floor p m h;
    receive = λ net c floor p item h can late. received_runs IsValid model net c floor p item.sign item.message h can late;
    settle = λ net c floor p h. settled_runs IsValid model net c floor p.cancel p h;
    commit = λ net c floor n p of h. commit_runs net c floor n p of h;
    floor = λ floor s steps l h. floor_within floor s steps l h;
    column = λ column steps. floor_of_steps (floor_of column) steps ∙ floor_of_more 0 column (records_of steps);
  }
