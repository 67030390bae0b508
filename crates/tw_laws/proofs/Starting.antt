-- The executive at the start is sound.
use Rattle.std.proofs.Common.{◌≡◌, ℕ, zero, suc, ◌+◌, ◌-◌, ◌<◌, ◌≤◌, List, [], ◌∷◌, length, replicate, Bool, true, false, cond, ◌&&◌, Some, refl, sym, ap, ◌∙◌, subst, subst₂, arith, map}
use Rattle.std.specs.Prelude.{slice_get, slice_index_or, ◌==◌, nat_lt, filter, ◌≢◌}
use Rattle.std.specs.List.{AllByRecursion as Each}
use Rattle.std.proofs.lemmas.Option.{same_Some, none-some}
use Rattle.std.proofs.lemmas.Bool.{and_right, le-ltb, eqb-true, eqb-false, cond-true, cond-false, cond_both, ne_eqb}
use Rattle.std.proofs.lemmas.List.{length-replicate}
use Rattle.tw_atomic.specs.Atomic.{Meaning}
use Rattle.tw_msgs.specs.Counting.{total, when_positive, when_anti}
use Rattle.tw_msgs.specs.declared.message.Message.{Message}
use Rattle.tw_msgs.specs.declared.record.Record.{Record}
use Rattle.tw_msgs.proofs.MessageLists.{total-sorted_messages}
use Rattle.tw_msgs.proofs.Messages.{sorted_messages-Sorted}
use Rattle.tw_theory.specs.Balance.{issued, held, all_consumed}
use Rattle.tw_theory.specs.Bundles.{addressed}
use Rattle.tw_theory.specs.Contents.{Process, Cancel}
use Rattle.tw_theory.specs.Network.{Network, Fits, IsNetwork}
use Rattle.tw_theory.specs.Simulator.{start_moments, sequential, rounds, up_to, moment_at, due_from, all_sent}
use Rattle.tw_theory.specs.Soundness.{new_process, new_processes, new_world, IsFor, IsSoundProcess, IsSound}
use Rattle.tw_theory.specs.Transitions.{Moment, start_moment}
use Rattle.tw_theory.proofs.Elements.{each-sorted}
use Rattle.tw_theory.proofs.Totals.{total-replicate}
use Rattle.tw_laws.proofs.Cancelling.{started}

no_mail : {X : Type 0} (n c : ℕ) → slice_index_or (replicate {A = List X} n []) c [] ≡ []
no_mail zero c = refl
no_mail (suc n) zero = refl
no_mail (suc n) (suc c) = no_mail n c

none_before : (c n : ℕ) → n ≡ 0 → (rs : List Record) → filter (λ r. (r.component == c) && nat_lt r.stamp n) rs ≡ []
none_before c n e [] = refl
none_before c n e (r ∷ rs) =
    ap (λ b. cond b (r ∷ filter (λ r. (r.component == c) && nat_lt r.stamp n) rs) (filter (λ r. (r.component == c) && nat_lt r.stamp n) rs)) (and_right (r.component == c) _ (le-ltb r.stamp n (omega arith))) ∙ none_before c n e rs

module _ {S : Type 0} (net : Network S) (cancel : Cancel) where
  length-new : (b : ℕ) (models : List (Meaning S)) → length (new_processes net cancel b models) ≡ length models
  length-new b [] = refl
  length-new b (x ∷ models) = ap suc (length-new (suc b) models)

  get-new : (b : ℕ) (models : List (Meaning S)) (c : ℕ) (p : Process S) → slice_get (new_processes net cancel b models) c ≡ Some p
      → (model : Meaning S) × (p ≡ new_process net cancel (b + c) model) × (slice_get (map start_moment models) c ≡ Some (start_moment model))
  get-new b [] c p e = absurd (none-some p e)
  get-new b (x ∷ models) zero p e =
      let n : b ≡ b + 0 = omega arith in
      (x, sym (same_Some _ p e) ∙ ap (λ k. new_process net cancel k x) n, refl)
  get-new b (x ∷ models) (suc c) p e =
      let rest = get-new (suc b) models c p e in
      let n : suc b + c ≡ b + suc c = omega arith in
      (rest.0, rest.1 ∙ ap (λ k. new_process net cancel k rest.0) n, rest.2)

  addressed_for : (c : ℕ) (ms : List Message) → Each (Fits net) ms → Each (IsFor net c) (addressed c ms)
  addressed_for c [] h = tt
  addressed_for c (m ∷ ms) h =
      cond_both (m.to == c) (m ∷ addressed c ms) (addressed c ms) (Each (IsFor net c))
      (λ e. (record { to = eqb-true m.to c e; fits = h.0 }, addressed_for c ms h.1))
      (λ e. addressed_for c ms h.1)

  moment_at_start : (until c : ℕ) (from : Moment S) → slice_get (start_moments net) c ≡ Some from → moment_at net until c 0 ≡ Some from
  unfolding rounds
  moment_at_start until c from e =
      let n : up_to until 0 ≡ 0 = omega arith in
      let first = ap (λ k. due_from k (slice_get (rounds net (k - 1)).at.moments c)) n in
      let none : 0 - 1 ≡ 0 = omega arith in
      let second = ap (λ k. due_from 0 (slice_get (rounds net k).at.moments c)) none in
      let due = ap (λ b. Some (record { state = from.state; last = from.last; due = cond b (from.due + 1) from.due })) (le-ltb from.due 0 (omega arith)) in
      first ∙ second ∙ ap (due_from 0) e ∙ due

  start_process : (until c : ℕ) (p : Process S) → IsNetwork net → slice_get (new_processes net cancel 0 net.models) c ≡ Some p
      → IsSoundProcess net until 0 c [] [] p
  start_process until c p ok e =
      let found = get-new 0 net.models c p e in
      let n : 0 + c ≡ c = omega arith in
      let is : p ≡ new_process net cancel c found.0 = found.1 ∙ ap (λ k. new_process net cancel k found.0) n in
      subst (IsSoundProcess net until 0 c [] []) (sym is)
      (record {
        column_is = sym (none_before c (up_to until 0) (omega arith) (sequential net until).records);
        from = start_moment found.0;
        from_is = moment_at_start until c _ found.2;
        stands = (refl, refl);
        sorted = sorted_messages-Sorted (addressed c net.inputs);
        within = tt;
        apart = λ m w i. absurd (cc_false w);
        for_inputs = each-sorted (IsFor net c) _ (addressed_for c net.inputs ok.inputs);
        for_waiting = tt;
        for_mail = tt;
        fit_outgoing = tt;
        fit_owed = tt;
        line_le = omega arith;
        line_le_fault = λ met e. omega arith;
      })
    where
      cc_false : false ≡ true → ⊥
      cc_false h = cc

  -- each input is pending at its receiver alone
  held_new : (weight : Message → ℕ) (ms : List Message) (b : ℕ) (models : List (Meaning S)) → ℕ
  held_new weight ms b [] = 0
  held_new weight ms b (x ∷ models) = total weight (addressed b ms) + held_new weight ms (suc b) models

  held_is : (weight : Message → ℕ) (b : ℕ) (models : List (Meaning S))
      → total (held weight) (new_processes net cancel b models) ≡ held_new weight net.inputs b models
  unfolding held_new
  held_is weight b [] = refl
  held_is weight b (x ∷ models) = omega (arith, held_is weight (suc b) models, total-sorted_messages weight (addressed b net.inputs))

  held_none : (weight : Message → ℕ) (b : ℕ) (models : List (Meaning S)) → held_new weight [] b models ≡ 0
  unfolding held_new
  held_none weight b [] = refl
  held_none weight b (x ∷ models) = omega (arith, held_none weight (suc b) models)

  held_skips : (weight : Message → ℕ) (m : Message) (ms : List Message) (b : ℕ) (models : List (Meaning S)) → m.to < b
      → held_new weight (m ∷ ms) b models ≡ held_new weight ms b models
  unfolding held_new
  held_skips weight m ms b [] l = refl
  held_skips weight m ms b (x ∷ models) l =
      let other = cond-false (m.to == b) (m ∷ addressed b ms) (addressed b ms) (ne_eqb m.to b (λ e. omega arith)) in
      omega (arith, ap (total weight) other, held_skips weight m ms (suc b) models (omega arith))

  held_counts : (weight : Message → ℕ) (m : Message) (ms : List Message) (b : ℕ) (models : List (Meaning S)) → b ≤ m.to → m.to < b + length models
      → held_new weight (m ∷ ms) b models ≡ weight m + held_new weight ms b models
  unfolding held_new
  held_counts weight m ms b [] l u = absurd (omega arith)
  held_counts weight m ms b (x ∷ models) l u = go (m.to == b) refl (λ k. held_counts weight m ms (suc b) models k (omega arith))
    where
      go : (t : Bool) → (m.to == b) ≡ t → (suc b ≤ m.to → held_new weight (m ∷ ms) (suc b) models ≡ weight m + held_new weight ms (suc b) models)
          → total weight (addressed b (m ∷ ms)) + held_new weight (m ∷ ms) (suc b) models ≡ weight m + (total weight (addressed b ms) + held_new weight ms (suc b) models)
      go true e ih = omega (arith, ap (total weight) (cond-true (m.to == b) (m ∷ addressed b ms) (addressed b ms) e), held_skips weight m ms (suc b) models (omega (arith, eqb-true m.to b e)))
      go false e ih =
          let d : m.to ≢ b = eqb-false m.to b e in
          omega (arith, ap (total weight) (cond-false (m.to == b) (m ∷ addressed b ms) (addressed b ms) e), ih (omega arith))

  held_all : (weight : Message → ℕ) (ms : List Message) → Each (Fits net) ms → held_new weight ms 0 net.models ≡ total weight ms
  held_all weight [] h = held_none weight 0 net.models
  held_all weight (m ∷ ms) h = omega (arith, held_counts weight m ms 0 net.models (omega arith) (omega (arith, h.0.to)), held_all weight ms h.1)

  owed_new : (weight : Message → ℕ) (b : ℕ) (models : List (Meaning S)) → total (issued weight) (new_processes net cancel b models) ≡ 0
  owed_new weight b [] = refl
  owed_new weight b (x ∷ models) = omega (arith, owed_new weight (suc b) models)

  pub start_sound : (until : ℕ) → IsNetwork net → IsSound net until (new_world net cancel)
  start_sound until ok = record {
    processes = length-new 0 net.models;
    mail = length-replicate (length net.models) [];
    columns = length-replicate (length net.models) [];
    each = λ c p e. subst₂ (λ column mail. IsSoundProcess net until 0 c column mail p) (sym (no_mail (length net.models) c)) (sym (no_mail (length net.models) c)) (start_process until c p ok e);
    cancel = cancel;
    cancels = started cancel net 0 net.models;
    balance = λ weight.
        omega (
          arith,
          total-replicate (λ column. total weight (all_sent net column)) (length net.models) [] refl,
          total-replicate (λ column. total weight (all_consumed column)) (length net.models) [] refl,
          total-replicate (total (when_anti weight)) (length net.models) [] refl,
          total-replicate (total (when_positive weight)) (length net.models) [] refl,
          owed_new weight 0 net.models,
          held_is weight 0 net.models,
          held_all weight net.inputs ok.inputs,
        );
    gvt_le = omega arith;
  }
