-- A step, and a post, keep an executive sound.
use Rattle.std.proofs.Common.{◌≡◌, ℕ, zero, suc, ◌+◌, ◌<◌, ◌≤◌, List, [], ◌∷◌, ◌++◌, length, length-set, Option, Some, None, Result, Ok, Err, refl, sym, ap, ◌∙◌, subst, arith, ⊎_elim, append_assoc, append-nil}
use Rattle.std.specs.Prelude.{slice_get, slice_set, slice_index_or, nat_lt}
use Rattle.std.specs.List.{AllByRecursion as Each}
use Rattle.std.proofs.lemmas.Bool.{cond_both, ltb-true, cases_eq}
use Rattle.std.proofs.lemmas.List.{get_or-set_same, get_or-set_other}
use Rattle.tw_msgs.specs.Counting.{total, when_positive, when_anti}
use Rattle.tw_msgs.specs.Messages.{has, Sorted}
use Rattle.tw_msgs.specs.declared.message.Item.{Item}
use Rattle.tw_msgs.specs.declared.message.Message.{Message}
use Rattle.tw_msgs.specs.declared.record.Record.{Record}
use Rattle.tw_msgs.proofs.Totals.{total-append}
use Rattle.tw_vtime.specs.Stamps.{stamp, never, max_tick, phase_of}
use Rattle.tw_theory.specs.Balance.{issued, held}
use Rattle.tw_theory.specs.Bundles.{positives, antis, overdue, first_stamp, least_stamp, least_owed, Ascending}
use Rattle.tw_theory.specs.Contents.{Process, next, inputs, consumed_by, sent_by, Cancel, Aggressive, Lazy, sent_out, with_step, with_outgoing, settled_as, settle}
use Rattle.tw_theory.specs.Executive.{World, Answer, act_step, act_post, if_made, mail_of, posted, least_mail}
use Rattle.tw_theory.specs.LocalRun.{Made, local_step, Leads, NoStep}
use Rattle.tw_theory.specs.Network.{Network, Fits, IsNetwork}
use Rattle.tw_theory.specs.Soundness.{IsFor, IsSoundProcess, IsSound}
use Rattle.tw_theory.proofs.Elements.{each-append, each_weaker, each-positives, each-antis}
use Rattle.tw_theory.proofs.Histories.{before_push}
use Rattle.tw_theory.proofs.Leasts.{least_mail_top}
use Rattle.tw_theory.proofs.Mail.{length-posted}
use Rattle.tw_theory.proofs.MessageOrder.{ascending_of_sorted}
use Rattle.tw_theory.proofs.Owing.{total-out, each-out, each-after, each-overdue, total-overdue, each_from_owed, owed_from_each}
use Rattle.tw_theory.proofs.Runs.{leads_more}
use Rattle.tw_theory.proofs.Steps.{local_step_follows}
use Rattle.tw_theory.proofs.TakingBack.{consumed_by-append, sent_by-append}
use Rattle.tw_theory.proofs.Totals.{positive-positives, anti-positives, positive-antis, anti-antis, total-set}
use Rattle.tw_laws.proofs.Cancelling.{stepped, settled}
use Rattle.tw_laws.proofs.Changing.{each_from_least, least_from_each, box_from_least, least_mail-set, process_from_least, replaced_sound}
use Rattle.tw_laws.proofs.Runs.{in_order}
use Rattle.tw_laws.proofs.Sends.{IsSentAt, local_step_sends}

pub all_odd : {S : Type 0} (net : Network S) (c : ℕ) (ms : List Message) → Each (IsFor net c) ms → Each (λ m. phase_of m.stamp ≡ 1) ms
all_odd net c ms h = each_weaker (IsFor net c) (λ m. phase_of m.stamp ≡ 1) (λ m f. f.fits.phase) ms h

pub inputs_ascending : {S : Type 0} (net : Network S) (c : ℕ) (ms : List Message) → Each (IsFor net c) ms → Sorted ms → Ascending ms
inputs_ascending net c ms h up = ascending_of_sorted ms (each_weaker (IsFor net c) (λ m. m.stamp < never) (λ m f. f.fits.stamp) ms h) up

-- a step has the same inputs before and after it: what it consumed was pending
pub inputs_same : {S : Type 0} (p : Process S) (made : Made S) → made.step.consumed ++ made.left ≡ p.pending → inputs p ≡ inputs (with_step p made)
inputs_same p made e = sym (rw (consumed_by-append p.history (made.step ∷ []), append-nil made.step.consumed, append_assoc (consumed_by p.history) made.step.consumed made.left, e) refl)

module _ {S : Type 0} (net : Network S) (until : ℕ) (ok : IsNetwork net) (bound : until ≤ max_tick) where
  step_process : (gvt c : ℕ) (column : List Record) (mail : List Item) (p : Process S) (made : Made S) → IsSoundProcess net until gvt c column mail p
      → local_step net c p.now p.pending ≡ Ok made → next p < stamp until 0 0 → IsSoundProcess net until gvt c column mail (with_step p made)
  step_process gvt c column mail p made h e early =
      let f = local_step_follows net c p.now p.pending made e in
      let same = inputs_same p made f.messages in
      let sent = each_weaker (IsSentAt net (next p)) (Fits net) (λ m a. record { to = a.to; phase = let x = a.stamp in let y = a.even in omega arith; stamp = let x = a.stamp in omega arith }) made.step.sent (local_step_sends net ok c p.now p.pending made e) in
      record {
        column_is = h.column_is;
        from = h.from;
        from_is = h.from_is;
        stands = subst (λ all. Leads net c h.from all (p.history ++ made.step ∷ []) made.after made.left) same (leads_more net c h.from (inputs p) p.history p.now p.pending made h.stands e);
        sorted = subst Sorted same h.sorted;
        within = before_push (stamp until 0 0) p.history made.step h.within (omega (arith, f.stamp_is, early));
        apart = λ m waits is_input. h.apart m waits (ap (has m) same ∙ is_input);
        for_inputs = subst (Each (IsFor net c)) same h.for_inputs;
        for_waiting = h.for_waiting;
        for_mail = h.for_mail;
        fit_outgoing = each-append (λ i. Fits net i.message) p.outgoing (positives (sent_out p.cancel p.owed made.step.sent)) h.fit_outgoing (each-positives (Fits net) _ (each-out (Fits net) p.cancel p.owed made.step.sent sent));
        fit_owed = each-after (Fits net) p.cancel p.owed made.step.sent h.fit_owed;
        line_le = h.line_le;
        line_le_fault = h.line_le_fault;
      }

  -- a step adds the same weight to both sides
  step_balance : (weight : Message → ℕ) (p : Process S) (made : Made S) → made.step.consumed ++ made.left ≡ p.pending
      → issued weight (with_step p made) + held weight p ≡ issued weight p + held weight (with_step p made)
  step_balance weight p made e =
      let sent = ap (total weight) (sent_by-append p.history (made.step ∷ []) ∙ ap (λ l. sent_by p.history ++ l) (append-nil made.step.sent)) ∙ total-append weight (sent_by p.history) made.step.sent in
      let new = sent_out p.cancel p.owed made.step.sent in
      let anti = total-append (when_anti weight) p.outgoing (positives new) in
      let positive = total-append (when_positive weight) p.outgoing (positives new) in
      omega (arith, sent, anti, positive, anti-positives weight new, positive-positives weight new, total-out weight p.cancel p.owed made.step.sent, ap (total weight) (inputs_same p made e))

  made_sound : (w : World S) (c : ℕ) (p : Process S) (r : Result (Made S) NoStep) → IsSound net until w → slice_get w.processes c ≡ Some p
      → local_step net c p.now p.pending ≡ r → next p < stamp until 0 0 → IsSound net until (if_made w c p r).1
  made_sound w c p (Err why) h at e early = h
  made_sound w c p (Ok made) h at e early =
      let sound = h.each c p at in
      let f = local_step_follows net c p.now p.pending made e in
      let order = in_order net c sound.from (inputs p) p.history p.now p.pending sound.stands (inputs_ascending net c (inputs p) sound.for_inputs sound.sorted) (all_odd net c (inputs p) sound.for_inputs) in
      let least : next p ≤ first_stamp p.pending = omega arith in
      let left = (f.ascending order.ascending least).1 in
      let old = process_from_least w.gvt w.processes c p (let g = h.gvt_le in omega arith) at in
      let sent = each_weaker (IsSentAt net (next p)) (λ m. w.gvt ≤ m.stamp) (λ m a. let x = a.stamp in let y = old.0 in omega arith) made.step.sent (local_step_sends net ok c p.now p.pending made e) in
      let top : w.gvt ≤ never = let g = h.gvt_le in let t = least_mail_top w.mail in omega arith in
      replaced_sound net until w c p (with_step p made) w.mail h at
      (record {
        boxes = refl;
        sound = step_process w.gvt c _ _ p made sound e early;
        for_mail = λ d m. m;
        balance = λ weight. let b = step_balance weight p made f.messages in omega arith;
        cancels = λ k x. stepped k p made x;
        next = let l = f.later in let o = old.0 in omega arith;
        outgoing = least_from_each w.gvt (p.outgoing ++ positives (sent_out p.cancel p.owed made.step.sent)) top
            (each-append (λ i. w.gvt ≤ i.message.stamp) p.outgoing (positives (sent_out p.cancel p.owed made.step.sent)) (each_from_least w.gvt p.outgoing old.1)
            (each-positives (λ m. w.gvt ≤ m.stamp) _ (each-out (λ m. w.gvt ≤ m.stamp) p.cancel p.owed made.step.sent sent)));
        owed = owed_from_each w.gvt _ top (each-after (λ m. w.gvt ≤ m.stamp) p.cancel p.owed made.step.sent (each_from_owed w.gvt p.owed old.2));
        least = let g = h.gvt_le in omega arith;
      })

  pub step_sound : (w : World S) (c : ℕ) (o : Option (Process S)) → IsSound net until w → slice_get w.processes c ≡ o
      → IsSound net until (act_step net until w c o).1
  step_sound w c None h at = h
  step_sound w c (Some p) h at =
      cond_both (nat_lt (next p) (stamp until 0 0)) _ _ (λ (r : Answer × World S). IsSound net until r.1)
      (λ e. made_sound w c p (local_step net c p.now p.pending) h at refl (ltb-true (next p) (stamp until 0 0) e))
      (λ e. h)

-- ---- posting

pub get_box : (mail : List (List Item)) (c : ℕ) → c < length mail → slice_get mail c ≡ Some (mail_of mail c)
get_box [] c l = absurd (omega arith)
get_box (box ∷ mail) zero l = refl
get_box (box ∷ mail) (suc c) l = get_box mail c (omega arith)

-- what holds of each item in the mailbox of its receiver
each_posted : (P : ℕ → Item → Type 0) (mail : List (List Item)) (items : List Item)
    → Each (λ i. (i.message.to < length mail) × P i.message.to i) items → (d : ℕ) → Each (P d) (mail_of mail d)
    → Each (P d) (mail_of (posted mail items) d)
each_posted P mail [] h d m = m
each_posted P mail (i ∷ items) h d m =
    let to = i.message.to in
    let mail' = slice_set mail to (mail_of mail to ++ i ∷ []) in
    let same = length-set mail to (mail_of mail to ++ i ∷ []) in
    let rest = each_weaker (λ j. (j.message.to < length mail) × P j.message.to j) (λ j. (j.message.to < length mail') × P j.message.to j) (λ j f. (let l = f.0 in omega arith, f.1)) items h.1 in
    each_posted P mail' items rest d
    (⊎_elim
    (λ e. subst (Each (P d)) (sym (ap (mail_of mail') e ∙ get_or-set_same mail to (mail_of mail to ++ i ∷ []) [] h.0.0 ∙ ap (λ k. mail_of mail k ++ i ∷ []) (sym e))) (each-append (P d) (mail_of mail d) (i ∷ []) m (subst (λ k. P k i) (sym e) h.0.1, tt)))
    (λ ne. subst (Each (P d)) (sym (get_or-set_other mail to d (mail_of mail to ++ i ∷ []) [] ne)) m)
    (cases_eq d to))

pub total-posted : (weight : Item → ℕ) (mail : List (List Item)) (items : List Item) → Each (λ i. i.message.to < length mail) items
    → total (total weight) (posted mail items) ≡ total (total weight) mail + total weight items
total-posted weight mail [] h = omega arith
total-posted weight mail (i ∷ items) h =
    let to = i.message.to in
    let box = mail_of mail to in
    let same = length-set mail to (box ++ i ∷ []) in
    let rest = each_weaker (λ j. j.message.to < length mail) (λ j. j.message.to < length (slice_set mail to (box ++ i ∷ []))) (λ j l. omega arith) items h.1 in
    let more = total-append weight box (i ∷ []) in
    omega (arith, total-posted weight (slice_set mail to (box ++ i ∷ [])) items rest, total-set (total weight) mail to box (box ++ i ∷ []) (get_box mail to h.0), more)

least_mail-posted : (g : ℕ) (mail : List (List Item)) (items : List Item) → g ≤ never → g ≤ least_mail mail → Each (λ i. g ≤ i.message.stamp) items
    → g ≤ least_mail (posted mail items)
least_mail-posted g mail [] top l h = l
least_mail-posted g mail (i ∷ items) top l h =
    let to = i.message.to in
    let box = each-append (λ j. g ≤ j.message.stamp) (mail_of mail to) (i ∷ []) (each_from_least g (mail_of mail to) (box_from_least g mail to l)) (h.0, tt) in
    least_mail-posted g (slice_set mail to (mail_of mail to ++ i ∷ [])) items top (least_mail-set g mail to (mail_of mail to ++ i ∷ []) l (least_from_each g (mail_of mail to ++ i ∷ []) top box)) h.1

-- what is kept when messages owed become anti-messages
pub record IsSoundWhenSettled {S : Type 0} (net : Network S) (until gvt c : ℕ) (column : List Record) (mail : List Item) (p q : Process S) : Type 0 where
  pub sound : IsSoundProcess net until gvt c column mail q
  pub balance : (weight : Message → ℕ) → issued weight q + held weight p ≡ issued weight p + held weight q
  pub next : gvt ≤ next q
  pub outgoing : gvt ≤ least_stamp q.outgoing
  pub owed : gvt ≤ least_owed q.owed

module _ {S : Type 0} (net : Network S) (until : ℕ) where
  settle_sound : (gvt c : ℕ) (column : List Record) (mail : List Item) (p : Process S) (k : Cancel) → IsSoundProcess net until gvt c column mail p
      → gvt ≤ never → gvt ≤ next p → gvt ≤ least_stamp p.outgoing → gvt ≤ least_owed p.owed → IsSoundWhenSettled net until gvt c column mail p (settled_as k p)
  settle_sound gvt c column mail p Aggressive h top n out owe = record { sound = h; balance = λ weight. refl; next = n; outgoing = out; owed = owe }
  settle_sound gvt c column mail p Lazy h top n out owe =
      let due = overdue (next p) p.owed in
      let fit = each-overdue (Fits net) (next p) p.owed h.fit_owed in
      let late = each-overdue (λ m. gvt ≤ m.stamp) (next p) p.owed (each_from_owed gvt p.owed owe) in
      record {
        sound = record {
          column_is = h.column_is;
          from = h.from;
          from_is = h.from_is;
          stands = h.stands;
          sorted = h.sorted;
          within = h.within;
          apart = h.apart;
          for_inputs = h.for_inputs;
          for_waiting = h.for_waiting;
          for_mail = h.for_mail;
          fit_outgoing = each-append (λ i. Fits net i.message) p.outgoing (antis due) h.fit_outgoing (each-antis (Fits net) due fit.0);
          fit_owed = fit.1;
          line_le = h.line_le;
          line_le_fault = h.line_le_fault;
        };
        balance = λ weight.
            omega (
              arith,
              total-append (when_anti weight) p.outgoing (antis due),
              total-append (when_positive weight) p.outgoing (antis due),
              anti-antis weight due,
              positive-antis weight due,
              total-overdue weight (next p) p.owed,
            );
        next = n;
        outgoing = least_from_each gvt _ top (each-append (λ i. gvt ≤ i.message.stamp) p.outgoing (antis due) (each_from_least gvt p.outgoing out) (each-antis (λ m. gvt ≤ m.stamp) due late.0));
        owed = owed_from_each gvt _ top late.1;
      }

  post_process : (gvt c : ℕ) (column : List Record) (mail mail' : List Item) (p : Process S) → IsSoundProcess net until gvt c column mail p
      → Each (λ i. IsFor net c i.message) mail' → IsSoundProcess net until gvt c column mail' (with_outgoing p [])
  post_process gvt c column mail mail' p h m = record {
    column_is = h.column_is;
    from = h.from;
    from_is = h.from_is;
    stands = h.stands;
    sorted = h.sorted;
    within = h.within;
    apart = h.apart;
    for_inputs = h.for_inputs;
    for_waiting = h.for_waiting;
    for_mail = m;
    fit_outgoing = tt;
    fit_owed = h.fit_owed;
    line_le = h.line_le;
    line_le_fault = h.line_le_fault;
  }

  pub post_sound : (w : World S) (c : ℕ) (o : Option (Process S)) → IsSound net until w → slice_get w.processes c ≡ o
      → IsSound net until (act_post w c o).1
  post_sound w c None h at = h
  post_sound w c (Some p) h at =
      let q = settle p in
      let old = process_from_least w.gvt w.processes c p (let g = h.gvt_le in omega arith) at in
      let top : w.gvt ≤ never = let g = h.gvt_le in let t = least_mail_top w.mail in omega arith in
      let mail_least : w.gvt ≤ least_mail w.mail = let g = h.gvt_le in omega arith in
      let k = settle_sound w.gvt c (slice_index_or w.columns c []) (mail_of w.mail c) p p.cancel (h.each c p at) top old.0 old.1 old.2 in
      let near = each_weaker (λ i. Fits net i.message) (λ i. i.message.to < length w.mail) (λ i f. let l = f.to in let n = h.mail in omega arith) q.outgoing k.sound.fit_outgoing in
      let belongs = each_weaker (λ i. Fits net i.message) (λ i. (i.message.to < length w.mail) × IsFor net i.message.to i.message) (λ i f. (let l = f.to in let n = h.mail in omega arith, record { to = refl; fits = f })) q.outgoing k.sound.fit_outgoing in
      let all = each_posted (λ d i. IsFor net d i.message) w.mail q.outgoing belongs in
      replaced_sound net until w c p (with_outgoing q []) (posted w.mail q.outgoing) h at
      (record {
        boxes = length-posted w.mail q.outgoing;
        sound = post_process w.gvt c _ (mail_of w.mail c) _ q k.sound (all c k.sound.for_mail);
        for_mail = all;
        balance = λ weight. omega (arith, k.balance weight, total-posted (when_anti weight) w.mail q.outgoing near, total-posted (when_positive weight) w.mail q.outgoing near);
        cancels = λ cancel x. let y = settled cancel p x in record { is = y.is; nothing_owed = y.nothing_owed };
        next = k.next;
        outgoing = top;
        owed = k.owed;
        least = least_mail-posted w.gvt w.mail q.outgoing top mail_least (each_from_least w.gvt q.outgoing k.outgoing);
      })
