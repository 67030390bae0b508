-- A harvest keeps an executive sound, by the law of committed history.
use Rattle.std.proofs.Common.{◌≡◌, ℕ, suc, ◌-◌, ◌<◌, ◌≤◌, min, List, [], ◌∷◌, ◌++◌, length, length-set, take, drop, take-append-drop, cond, ◌&&◌, Option, Some, None, refl, sym, ap, ◌∙◌, subst, subst₂, arith, ⊎_elim, append_assoc}
use Rattle.std.specs.Prelude.{slice_get, slice_set, slice_index_or, ◌==◌, nat_lt, filter}
use Rattle.std.specs.List.{AllByRecursion as Each}
use Rattle.std.proofs.lemmas.Option.{slice_get-get_or, slice_get_within}
use Rattle.std.proofs.lemmas.Bool.{lt-ltb, le-ltb, cases_lt, or_right}
use Rattle.std.proofs.lemmas.List.{get_or-set_same, get_or-set_other}
use Rattle.tw_msgs.specs.Counting.{total}
use Rattle.tw_msgs.specs.Messages.{has, Sorted}
use Rattle.tw_msgs.proofs.MessageLists.{has-append}
use Rattle.tw_msgs.proofs.Totals.{total-append}
use Rattle.tw_vtime.specs.Stamps.{stamp, max_tick}
use Rattle.tw_theory.specs.Balance.{issued, held, all_consumed}
use Rattle.tw_theory.specs.Contents.{Process, inputs, consumed_by, sent_by, before_all, steps_before, harvested, records_of}
use Rattle.tw_theory.specs.Executive.{World, Action, Post, Deliver, Back, Raise, Harvest, act, replay, act_harvest, mail_of}
use Rattle.tw_theory.specs.LocalRun.{Step, Leads}
use Rattle.tw_theory.specs.Network.{Network, IsNetwork}
use Rattle.tw_theory.specs.Simulator.{sequential, rounds, due_from, up_to, records_before, moment_at, all_sent}
use Rattle.tw_theory.specs.Soundness.{AllBefore, IsFor, IsSoundProcess, Cancels, IsSound, new_world}
use Rattle.tw_theory.proofs.Elements.{each_parts, each_weaker, each-get, get_of_set}
use Rattle.tw_theory.proofs.MessageOrder.{sorted_right}
use Rattle.tw_theory.proofs.TakingBack.{consumed_by-append, sent_by-append}
use Rattle.tw_theory.proofs.Totals.{total-set}
use Rattle.tw_laws.specs.Committed.{CommittedLaw}
use Rattle.tw_laws.specs.History.{CommittedHistory}
use Rattle.tw_laws.proofs.Acting.{act_law}
use Rattle.tw_laws.proofs.ActionsKeep.{ActsSoundly}
use Rattle.tw_laws.proofs.Cancelling.{each-set}
use Rattle.tw_laws.proofs.Changing.{process_from_least, least_next-set}
use Rattle.tw_laws.proofs.Cutting.{all_before_parts}
use Rattle.tw_laws.proofs.History.Committed.{committed_history}
use Rattle.tw_laws.proofs.History.Counts.{all_sent-append, all_consumed-append}
use Rattle.tw_laws.proofs.Recorded.{leads_recorded}
use Rattle.tw_laws.proofs.Runs.{leads_split}
use Rattle.tw_laws.proofs.AtGvt.{held_by, history_of, run_to, stands_at, stands_at-now}
use Rattle.tw_laws.proofs.Starting.{start_sound}

steps_before_end : {S : Type 0} (g end : ℕ) (steps : List (Step S)) → AllBefore end steps → steps_before (min g end) steps ≡ steps_before g steps
steps_before_end g end [] h = refl
steps_before_end g end (x ∷ steps) h =
    ⊎_elim
    (λ l. ap (λ b. cond b (suc (steps_before (min g end) steps)) 0) (lt-ltb x.entry.stamp (min g end) (let k = h.0 in omega arith) ∙ sym (lt-ltb x.entry.stamp g l)) ∙ ap (λ n. cond (nat_lt x.entry.stamp g) (suc n) 0) (steps_before_end g end steps h.1))
    (λ l. ap (λ b. cond b (suc (steps_before (min g end) steps)) 0) (le-ltb x.entry.stamp (min g end) (omega arith)) ∙ sym (ap (λ b. cond b (suc (steps_before g steps)) 0) (le-ltb x.entry.stamp g l)))
    (cases_lt x.entry.stamp g)

module _ {S : Type 0} (law : CommittedHistory S) (net : Network S) (until : ℕ) (ok : IsNetwork net) (bound : until ≤ max_tick) where
  harvest_sound : (w : World S) (c : ℕ) (o : Option (Process S)) → IsSound net until w → slice_get w.processes c ≡ o
      → IsSound net until (act_harvest w c o).1
  harvest_sound w c None h at = h
  harvest_sound w c (Some p) h at =
      let n = steps_before w.gvt p.history in
      let xs = take n p.history in
      let ys = drop n p.history in
      let old = slice_index_or w.columns c [] in
      let new = old ++ records_of xs in
      let s = h.each c p at in
      let near : c < length net.models = let l = slice_get_within w.processes c p at in omega (arith, h.processes) in
      let near_columns : c < length w.columns = omega (arith, h.columns) in
      let done = law net until (up_to until w.gvt) (held_by until w) bound (run_to net until ok w h) in
      let place : steps_before (up_to until w.gvt) p.history ≡ n = steps_before_end w.gvt (stamp until 0 0) p.history s.within in
      let idem : up_to until (up_to until w.gvt) ≡ up_to until w.gvt = omega arith in
      let records : new ≡ records_before net until c w.gvt =
      ap (λ k. old ++ records_of (take k p.history)) (sym place)
      ∙ subst (λ (q : Option (Process S)). old ++ records_of (take (steps_before (up_to until w.gvt) (history_of q)) (history_of q)) ≡ records_before net until c (up_to until w.gvt)) at (done.records c near)
      ∙ ap (λ k. filter (λ r. (r.component == c) && nat_lt r.stamp k) (sequential net until).records) idem in
      let low = process_from_least w.gvt w.processes c p (let g = h.gvt_le in omega arith) at in
      let gvt_next = low.0 in
      let whole : xs ++ ys ≡ p.history = take-append-drop n p.history in
      let split = leads_split net c s.from (inputs p) xs ys p.now p.pending (subst (λ steps. Leads net c s.from (inputs p) steps p.now p.pending) (sym whole) s.stands) in
      let same : inputs p ≡ consumed_by xs ++ (consumed_by ys ++ p.pending) =
      ap (λ steps. consumed_by steps ++ p.pending) (sym whole) ∙ ap (λ ms. ms ++ p.pending) (consumed_by-append xs ys) ∙ append_assoc (consumed_by xs) (consumed_by ys) p.pending in
      let to = each_weaker (IsFor net c) (λ m. m.to ≡ c) (λ m f. f.to) (inputs p) s.for_inputs in
      let recorded = leads_recorded net c s.from (inputs p) xs _ _ split.0 to in
      let moment : moment_at net until c w.gvt ≡ Some (before_all ys p.now) =
      ap (λ k. due_from k (slice_get (rounds net (k - 1)).at.moments c)) (sym idem)
      ∙ subst (λ (q : Option (Process S)). moment_at net until c (up_to until w.gvt) ≡ Some (before_all (drop (steps_before (up_to until w.gvt) (history_of q)) (history_of q)) (stands_at net until ok w h c p at).now)) at (done.moment c near (stands_at net until ok w h c p at))
      ∙ ap (λ k. Some (before_all (drop k p.history) (stands_at net until ok w h c p at).now)) place
      ∙ ap (λ now. Some (before_all ys now)) (stands_at-now net until ok w h c p at) in
      let column_same : slice_index_or (slice_set w.columns c new) c [] ≡ new = get_or-set_same w.columns c new [] near_columns in
      let sound : IsSoundProcess net until w.gvt c new (mail_of w.mail c) (harvested w.gvt p) = record {
        column_is = records;
        from = before_all ys p.now;
        from_is = moment;
        stands = split.1;
        sorted = sorted_right (consumed_by xs) (consumed_by ys ++ p.pending) (subst Sorted same s.sorted);
        within = (all_before_parts (stamp until 0 0) xs ys (subst (AllBefore (stamp until 0 0)) (sym whole) s.within)).1;
        apart = λ m waits i. s.apart m waits (ap (has m) same ∙ has-append m (consumed_by xs) (consumed_by ys ++ p.pending) ∙ or_right _ _ i);
        for_inputs = (each_parts (IsFor net c) (consumed_by xs) (consumed_by ys ++ p.pending) (subst (Each (IsFor net c)) same s.for_inputs)).1;
        for_waiting = s.for_waiting;
        for_mail = s.for_mail;
        fit_outgoing = s.fit_outgoing;
        fit_owed = s.fit_owed;
        line_le = omega arith;
        line_le_fault = done.unstopped;
      } in
      record {
        processes = length-set w.processes c (harvested w.gvt p) ∙ h.processes;
        mail = h.mail;
        columns = length-set w.columns c new ∙ h.columns;
        each = λ d q e.
            ⊎_elim
            (λ k.
            subst (λ x. IsSoundProcess net until w.gvt x (slice_index_or (slice_set w.columns c new) x []) (mail_of w.mail x) q) (sym k.0)
            (subst₂ (λ column r. IsSoundProcess net until w.gvt c column (mail_of w.mail c) r) (sym column_same) (sym k.1) sound))
            (λ k. subst (λ column. IsSoundProcess net until w.gvt d column (mail_of w.mail d) q) (sym (get_or-set_other w.columns c d new [] k.0)) (h.each d q k.1))
            (get_of_set w.processes c d (harvested w.gvt p) q e);
        cancel = h.cancel;
        cancels =
            let k = each-get (Cancels h.cancel) w.processes c p at h.cancels in
            each-set (Cancels h.cancel) w.processes c (harvested w.gvt p) (record { is = k.is; nothing_owed = k.nothing_owed }) h.cancels;
        balance = λ weight.
            omega (
              arith,
              h.balance weight,
              total-set (issued weight) w.processes c p (harvested w.gvt p) at,
              total-set (held weight) w.processes c p (harvested w.gvt p) at,
              total-set (λ column. total weight (all_sent net column)) w.columns c old new (slice_get-get_or w.columns c [] near_columns),
              total-set (λ column. total weight (all_consumed column)) w.columns c old new (slice_get-get_or w.columns c [] near_columns),
              ap (total weight) (all_sent-append net old (records_of xs)) ∙ total-append weight (all_sent net old) (all_sent net (records_of xs)),
              ap (total weight) (all_consumed-append old (records_of xs)) ∙ total-append weight (all_consumed old) (all_consumed (records_of xs)),
              ap (total weight) recorded.0,
              ap (total weight) recorded.1,
              ap (λ steps. total weight (sent_by steps)) (sym whole) ∙ ap (total weight) (sent_by-append xs ys) ∙ total-append weight (sent_by xs) (sent_by ys),
              ap (total weight) same ∙ total-append weight (consumed_by xs) (consumed_by ys ++ p.pending),
            );
        gvt_le = let g = h.gvt_le in let l = least_next-set w.gvt w.processes c (harvested w.gvt p) (omega arith) gvt_next low.1 low.2 in omega arith;
      }

pub acts_soundly : {S : Type 0} → ActsSoundly S
unfolding act
acts_soundly {S} net until w ok bound h (Action.Step c) = act_law net until w ok bound h (Action.Step c) tt
acts_soundly {S} net until w ok bound h (Post c) = act_law net until w ok bound h (Post c) tt
acts_soundly {S} net until w ok bound h (Deliver q i) = act_law net until w ok bound h (Deliver q i) tt
acts_soundly {S} net until w ok bound h (Back c s) = act_law net until w ok bound h (Back c s) tt
acts_soundly {S} net until w ok bound h Raise = act_law net until w ok bound h Raise tt
acts_soundly {S} net until w ok bound h (Harvest c) = harvest_sound (λ n u g k. committed_history n u g k) net until ok bound w c (slice_get w.processes c) h refl

pub replay_sound : {S : Type 0} (net : Network S) (until : ℕ) (w : World S) (actions : List Action) → IsNetwork net → until ≤ max_tick
    → IsSound net until w → IsSound net until (replay net until w actions)
replay_sound net until w [] ok bound h = h
replay_sound net until w (a ∷ actions) ok bound h = replay_sound net until (act net until w a).1 actions ok bound (acts_soundly net until w ok bound h a)

pub committed_law : {S : Type 0} → CommittedLaw S
committed_law {S} net cancel until actions ok bound =
    let h = replay_sound net until (new_world net cancel) actions ok bound (start_sound net cancel until ok) in
    record { processes = h.processes; columns = h.columns; each = λ c p at. (h.each c p at).column_is }
