-- A delivery, and a rollback, keep an executive sound.
use Rattle.std.proofs.Common.{◌≡◌, ℕ, suc, ◌+◌, ◌<◌, ◌≤◌, List, [], ◌∷◌, ◌++◌, length, length-set, true, false, ◌||◌, Option, Some, None, refl, sym, ap, ◌∙◌, subst, arith, ⊎_elim}
use Rattle.std.specs.Prelude.{nat_lt, ◌==◌, slice_get, slice_set, slice_index_or, remove}
use Rattle.std.specs.List.{AllByRecursion as Each}
use Rattle.std.proofs.lemmas.Bool.{cond_both, ltb-false, eqb-true, or_cases, or_left, or_right, cases_eq, both_ways, true≢false}
use Rattle.std.proofs.lemmas.List.{get_or-set_same, get_or-set_other}
use Rattle.std.proofs.lemmas.Option.{slice_get_within}
use Rattle.tw_msgs.specs.Counting.{total, when_positive, when_anti}
use Rattle.tw_msgs.specs.Messages.{has, without, place, Sorted}
use Rattle.tw_msgs.specs.declared.message.Item.{Item}
use Rattle.tw_msgs.specs.declared.message.Message.{Message}
use Rattle.tw_msgs.specs.declared.message.Sign.{Sign}
use Rattle.tw_msgs.specs.declared.message.Sign.TheVariants.{Positive, Anti}
use Rattle.tw_msgs.specs.declared.record.Record.{Record}
use Rattle.tw_msgs.proofs.MessageLists.{has-append, has_of_place, has_of_without, total-place, total-without, without-Sorted}
use Rattle.tw_msgs.proofs.Messages.{place-Sorted, same_message_is}
use Rattle.tw_msgs.proofs.Totals.{total-append}
use Rattle.tw_vtime.specs.Stamps.{never, max_tick}
use Rattle.tw_theory.specs.Balance.{issued, held}
use Rattle.tw_theory.specs.Bundles.{least_stamp, least_owed, first_stamp, Ascending}
use Rattle.tw_theory.specs.Contents.{Process, next, inputs, consumed_by, steps_from, cut, placed, removed, with_waiting, with_pending, Received, receive_message, receive_anti, receive_signed, receive, steps_before}
use Rattle.tw_theory.specs.Executive.{World, Answer, act_deliver, act_back, mail_of, least_mail}
use Rattle.tw_theory.specs.LocalRun.{Step}
use Rattle.tw_theory.specs.Network.{Network, IsNetwork}
use Rattle.tw_theory.specs.Soundness.{AllBefore, IsFor, IsSoundProcess, IsSound}
use Rattle.tw_theory.proofs.Elements.{each-append, each_parts, each_weaker, each-place, each-without, each-remove, each-get}
use Rattle.tw_theory.proofs.Leasts.{least_mail_top}
use Rattle.tw_theory.proofs.MessageOrder.{first_of_place, first_of_without, sorted_join, sorted_right}
use Rattle.tw_theory.proofs.Runs.{leads_consumes}
use Rattle.tw_theory.proofs.Totals.{total-set, total-remove}
use Rattle.tw_laws.proofs.Cancelling.{received, undone}
use Rattle.tw_laws.proofs.Changing.{each_from_least, least_from_each, box_from_least, least_mail-set, other_mail, process_from_least, replaced_sound}
use Rattle.tw_laws.proofs.Cutting.{IsCutOf, cut_sound, none_from}
use Rattle.tw_laws.proofs.Runs.{leads_other, in_order}
use Rattle.tw_laws.proofs.Stepping.{all_odd, inputs_ascending, get_box}

pub before_weaker : {S : Type 0} (s t : ℕ) (steps : List (Step S)) → ((k : ℕ) → k < s → k < t) → AllBefore s steps → AllBefore t steps
before_weaker s t [] f h = tt
before_weaker s t (x ∷ steps) f h = (f x.entry.stamp h.0, before_weaker s t steps f h.1)

pub before_both : {S : Type 0} (s t u : ℕ) (steps : List (Step S)) → ((k : ℕ) → k < s → k < t → k < u) → AllBefore s steps → AllBefore t steps
    → AllBefore u steps
before_both s t u [] f h k = tt
before_both s t u (x ∷ steps) f h k = (f x.entry.stamp h.0 k.0, before_both s t u steps f h.1 k.1)

-- what steps before s consumed has stamps before s
pub consumed_before : {S : Type 0} (s : ℕ) (steps : List (Step S)) → AllBefore s steps
    → Each (λ step. Each (λ m. m.stamp ≡ step.entry.stamp) step.consumed) steps → Each (λ m. m.stamp < s) (consumed_by steps)
consumed_before s [] h k = tt
consumed_before s (x ∷ steps) h k =
    each-append (λ m. m.stamp < s) x.consumed (consumed_by steps) (each_weaker (λ m. m.stamp ≡ x.entry.stamp) (λ m. m.stamp < s) (λ m e. let l = h.0 in omega arith) x.consumed k.0) (consumed_before s steps h.1 k.1)

absent : (m : Message) (ms : List Message) → Each (λ k. k.stamp < m.stamp) ms → has m ms ≡ true → ⊥
absent m [] h e = true≢false (sym e)
absent m (n ∷ ms) h e = ⊎_elim (λ s. let same = ap (λ (k : Message). k.stamp) (same_message_is m n s) in let l = h.0 in omega arith) (λ s. absent m ms h.1 s) (or_cases _ _ e)

module _ {S : Type 0} (net : Network S) (until : ℕ) (ok : IsNetwork net) (bound : until ≤ max_tick) (gvt c : ℕ) (column : List Record) (mail : List Item) where
  -- other messages pending, after every step that was made
  pending_sound : (p : Process S) (ms : List Message) → IsSoundProcess net until gvt c column mail p → AllBefore (first_stamp ms) p.history
      → Sorted ms → Each (IsFor net c) ms → ((m : Message) → has m p.waiting ≡ true → has m ms ≡ true → ⊥)
      → IsSoundProcess net until gvt c column mail (with_pending p ms)
  pending_sound p ms h before up belong apart =
      let consumed = consumed_before (first_stamp ms) p.history before (leads_consumes net c h.from (inputs p) p.history p.now p.pending h.stands) in
      let old = each_parts (IsFor net c) (consumed_by p.history) p.pending h.for_inputs in
      record {
        column_is = h.column_is;
        from = h.from;
        from_is = h.from_is;
        stands = leads_other net c h.from (inputs p) p.history p.now p.pending ms h.stands (inputs_ascending net c (inputs p) h.for_inputs h.sorted) (all_odd net c (inputs p) h.for_inputs) before;
        sorted = sorted_join (consumed_by p.history) p.pending ms h.sorted up consumed;
        within = h.within;
        apart = λ m waits is_input. ⊎_elim
            (λ e. h.apart m waits (has-append m (consumed_by p.history) p.pending ∙ or_left _ _ e))
            (λ e. apart m waits e)
            (or_cases _ _ (sym (has-append m (consumed_by p.history) ms) ∙ is_input));
        for_inputs = each-append (IsFor net c) (consumed_by p.history) ms old.0 belong;
        for_waiting = h.for_waiting;
        for_mail = h.for_mail;
        fit_outgoing = h.fit_outgoing;
        fit_owed = h.fit_owed;
        line_le = h.line_le;
        line_le_fault = h.line_le_fault;
      }

  -- what a process is after a message of weight `less` left its mailbox and one of weight `more` came to count against it
  pub record IsChanged (p q : Process S) (item : Item) : Type 0 where
    pub sound : IsSoundProcess net until gvt c column mail q
    pub balance : (weight : Message → ℕ)
        → issued weight q + held weight p + when_positive weight item ≡ issued weight p + held weight q + when_anti weight item
    pub next : gvt ≤ next q
    pub outgoing : gvt ≤ least_stamp q.outgoing
    pub owed : gvt ≤ least_owed q.owed

  -- what is known of the process before
  pub record IsGiven (p : Process S) (m : Message) : Type 0 where
    sound : IsSoundProcess net until gvt c column mail p
    belongs : IsFor net c m
    stamp : gvt ≤ m.stamp
    next : gvt ≤ next p
    outgoing : gvt ≤ least_stamp p.outgoing
    owed : gvt ≤ least_owed p.owed
    top : gvt ≤ never

  past : (p : Process S) → IsSoundProcess net until gvt c column mail p → AllBefore (next p) p.history × Ascending p.pending
  past p h =
      let order = in_order net c h.from (inputs p) p.history p.now p.pending h.stands (inputs_ascending net c (inputs p) h.for_inputs h.sorted) (all_odd net c (inputs p) h.for_inputs) in
      (order.past, order.ascending)

  in_pending : (p : Process S) (m : Message) → has m p.pending ≡ true → has m (inputs p) ≡ true
  in_pending p m e = has-append m (consumed_by p.history) p.pending ∙ or_right _ _ e

  placed_changed : (p : Process S) (m : Message) → IsGiven p m → AllBefore m.stamp p.history → has m p.waiting ≡ false
      → IsChanged p (placed p m) (record { sign = Positive; message = m })
  placed_changed p m g before free =
      let h = g.sound in
      let o = past p h in
      let old = each_parts (IsFor net c) (consumed_by p.history) p.pending h.for_inputs in
      let first = before_both m.stamp (next p) (first_stamp (place m p.pending)) p.history (λ k a b. let f = first_of_place (suc k) m p.pending a (omega arith) in f) before o.0 in
      record {
        sound = pending_sound p (place m p.pending) h first (place-Sorted m p.pending (sorted_right (consumed_by p.history) p.pending h.sorted)) (each-place (IsFor net c) m p.pending g.belongs old.1)
            (λ k waits e. ⊎_elim (λ s. both_ways (has m p.waiting) free (subst (λ x. has x p.waiting ≡ true) (same_message_is k m s) waits)) (λ s. h.apart k waits (in_pending p k s)) (has_of_place k m p.pending e));
        balance = λ weight. omega (arith, total-append weight (consumed_by p.history) p.pending, total-append weight (consumed_by p.history) (place m p.pending), total-place weight m p.pending);
        next = let f = first_of_place gvt m p.pending g.stamp (let n = g.next in omega arith) in let n = g.next in omega arith;
        outgoing = g.outgoing;
        owed = g.owed;
      }

  removed_changed : (p : Process S) (m : Message) → IsGiven p m → has m p.pending ≡ true
      → IsChanged p (removed p m) (record { sign = Anti; message = m })
  removed_changed p m g e =
      let h = g.sound in
      let o = past p h in
      let old = each_parts (IsFor net c) (consumed_by p.history) p.pending h.for_inputs in
      let first = before_weaker (next p) (first_stamp (without m p.pending)) p.history (λ k l. let f = first_of_without (suc k) m p.pending o.1 (omega arith) in f) o.0 in
      record {
        sound = pending_sound p (without m p.pending) h first (without-Sorted m p.pending (sorted_right (consumed_by p.history) p.pending h.sorted)) (each-without (IsFor net c) m p.pending old.1) (λ k waits s. h.apart k waits (in_pending p k (has_of_without k m p.pending s)));
        balance = λ weight. omega (arith, total-append weight (consumed_by p.history) p.pending, total-append weight (consumed_by p.history) (without m p.pending), total-without weight m p.pending e);
        next = let f = first_of_without gvt m p.pending o.1 (let n = g.next in omega arith) in let n = g.next in omega arith;
        outgoing = g.outgoing;
        owed = g.owed;
      }

  waiting_sound : (p : Process S) (ms : List Message) → IsSoundProcess net until gvt c column mail p → Each (IsFor net c) ms
      → ((m : Message) → has m ms ≡ true → has m (inputs p) ≡ true → ⊥) → IsSoundProcess net until gvt c column mail (with_waiting p ms)
  waiting_sound p ms h belong apart = record {
    column_is = h.column_is;
    from = h.from;
    from_is = h.from_is;
    stands = h.stands;
    sorted = h.sorted;
    within = h.within;
    apart = apart;
    for_inputs = h.for_inputs;
    for_waiting = belong;
    for_mail = h.for_mail;
    fit_outgoing = h.fit_outgoing;
    fit_owed = h.fit_owed;
    line_le = h.line_le;
    line_le_fault = h.line_le_fault;
  }

  -- its anti-message no longer waits
  matched_changed : (p : Process S) (m : Message) → IsGiven p m → has m p.waiting ≡ true
      → IsChanged p (with_waiting p (without m p.waiting)) (record { sign = Positive; message = m })
  matched_changed p m g e = record {
    sound = waiting_sound p (without m p.waiting) g.sound (each-without (IsFor net c) m p.waiting g.sound.for_waiting) (λ k waits i. g.sound.apart k (has_of_without k m p.waiting waits) i);
    balance = λ weight. omega (arith, total-without weight m p.waiting e);
    next = g.next;
    outgoing = g.outgoing;
    owed = g.owed;
  }

  -- an anti-message waits
  waiting_changed : (p : Process S) (m : Message) → IsGiven p m → has m p.pending ≡ false → has m (consumed_by p.history) ≡ false
      → IsChanged p (with_waiting p (p.waiting ++ m ∷ [])) (record { sign = Anti; message = m })
  waiting_changed p m g not_pending not_consumed =
      let none : has m (inputs p) ≡ false = has-append m (consumed_by p.history) p.pending ∙ ap (λ b. b || has m p.pending) not_consumed ∙ not_pending in
      record {
        sound = waiting_sound p (p.waiting ++ m ∷ []) g.sound (each-append (IsFor net c) p.waiting (m ∷ []) g.sound.for_waiting (g.belongs, tt))
            (λ k waits i. ⊎_elim
            (λ e. g.sound.apart k e i)
            (λ e. ⊎_elim (λ s. both_ways (has m (inputs p)) none (subst (λ x. has x (inputs p) ≡ true) (same_message_is k m s) i)) (λ s. true≢false (sym s)) (or_cases _ _ e))
            (or_cases _ _ (sym (has-append k p.waiting (m ∷ [])) ∙ waits)));
        balance = λ weight. omega (arith, total-append weight p.waiting (m ∷ []));
        next = g.next;
        outgoing = g.outgoing;
        owed = g.owed;
      }

  given_cut : (p : Process S) (m : Message) → IsGiven p m → IsCutOf net until gvt c column mail p (cut m.stamp p) m.stamp
  given_cut p m g = cut_sound net until ok bound gvt c column mail p m.stamp g.sound g.stamp g.next g.top g.outgoing g.owed

  after_cut : (p : Process S) (m : Message) → IsGiven p m → IsGiven (cut m.stamp p) m
  after_cut p m g =
      let k = given_cut p m g in
      record { sound = k.sound; belongs = g.belongs; stamp = g.stamp; next = k.next; outgoing = k.outgoing; owed = k.owed; top = g.top }

  cut_then : (p q : Process S) (m : Message) (item : Item) (g : IsGiven p m) → IsChanged (cut m.stamp p) q item → IsChanged p q item
  cut_then p q m item g r =
      let k = given_cut p m g in
      record { sound = r.sound; balance = λ weight. omega (arith, k.balance weight, r.balance weight); next = r.next; outgoing = r.outgoing; owed = r.owed }

  -- a message that was consumed is pending after the cut
  pending_after_cut : (p : Process S) (m : Message) (g : IsGiven p m) → has m (consumed_by p.history) ≡ true → has m (cut m.stamp p).pending ≡ true
  pending_after_cut p m g e =
      let q = cut m.stamp p in
      let k = given_cut p m g in
      let is_input : has m (inputs q) ≡ true = ap (has m) k.inputs ∙ has-append m (consumed_by p.history) p.pending ∙ or_left _ _ e in
      let consumed = consumed_before m.stamp q.history k.before (leads_consumes net c k.sound.from (inputs q) q.history q.now q.pending k.sound.stands) in
      ⊎_elim (λ h. absurd (absent m (consumed_by q.history) consumed h)) (λ h. h) (or_cases _ _ (sym (has-append m (consumed_by q.history) q.pending) ∙ is_input))

  message_changed : (p : Process S) (m : Message) → IsGiven p m → IsChanged p (receive_message p m).1 (record { sign = Positive; message = m })
  message_changed p m g =
      let item : Item = record { sign = Positive; message = m } in
      cond_both (has m p.waiting) _ _ (λ (r : Received × Process S). IsChanged p r.1 item)
      (λ e. matched_changed p m g e)
      (λ e. cond_both (steps_from m.stamp p == 0) _ _ (λ (r : Received × Process S). IsChanged p r.1 item)
      (λ d. placed_changed p m g (none_from m.stamp p (eqb-true (steps_from m.stamp p) 0 d)) e)
      (λ d. let k = given_cut p m g in cut_then p (placed (cut m.stamp p) m) m item g (placed_changed (cut m.stamp p) m (after_cut p m g) k.before (ap (has m) k.waiting ∙ e))))

  anti_changed : (p : Process S) (m : Message) → IsGiven p m → IsChanged p (receive_anti p m).1 (record { sign = Anti; message = m })
  anti_changed p m g =
      let item : Item = record { sign = Anti; message = m } in
      cond_both (has m p.pending) _ _ (λ (r : Received × Process S). IsChanged p r.1 item)
      (λ e. removed_changed p m g e)
      (λ e. cond_both (has m (consumed_by p.history)) _ _ (λ (r : Received × Process S). IsChanged p r.1 item)
      (λ d. cut_then p (removed (cut m.stamp p) m) m item g (removed_changed (cut m.stamp p) m (after_cut p m g) (pending_after_cut p m g d)))
      (λ d. waiting_changed p m g e d))

  pub received_changed : (p : Process S) (sign : Sign) (m : Message) → IsGiven p m
      → IsChanged p (receive_signed p sign m).1 (record { sign = sign; message = m })
  received_changed p Positive m g = message_changed p m g
  received_changed p Anti m g = anti_changed p m g

module _ {S : Type 0} (net : Network S) (until : ℕ) (ok : IsNetwork net) (bound : until ≤ max_tick) where
  pub deliver_sound : (w : World S) (q i : ℕ) (o : Option (Process S)) (x : Option Item) → IsSound net until w → slice_get w.processes q ≡ o
      → slice_get (mail_of w.mail q) i ≡ x → IsSound net until (act_deliver w q i o x).1
  deliver_sound w q i None x h at is = h
  deliver_sound w q i (Some p) None h at is = h
  deliver_sound w q i (Some p) (Some item) h at is =
      let box = mail_of w.mail q in
      let mail = slice_set w.mail q (remove box i) in
      let sound = h.each q p at in
      let old = process_from_least w.gvt w.processes q p (let g = h.gvt_le in omega arith) at in
      let top : w.gvt ≤ never = let g = h.gvt_le in let t = least_mail_top w.mail in omega arith in
      let least : w.gvt ≤ least_mail w.mail = let g = h.gvt_le in omega arith in
      let near : q < length w.mail = let l = slice_get_within w.processes q p at in omega (arith, h.mail, h.processes) in
      let stamps = each_from_least w.gvt box (box_from_least w.gvt w.mail q least) in
      let for_rest = each-remove (λ j. IsFor net q j.message) box i sound.for_mail in
      let same : mail_of mail q ≡ remove box i = get_or-set_same w.mail q (remove box i) [] near in
      let for_new = subst (Each (λ j. IsFor net q j.message)) (sym same) for_rest in
      let given : IsGiven net until ok bound w.gvt q (slice_index_or w.columns q []) (mail_of mail q) p item.message = record {
        sound = other_mail net until w.gvt q _ box (mail_of mail q) p sound for_new;
        belongs = each-get (λ j. IsFor net q j.message) box i item is sound.for_mail;
        stamp = each-get (λ j. w.gvt ≤ j.message.stamp) box i item is stamps;
        next = old.0;
        outgoing = old.1;
        owed = old.2;
        top = top;
      } in
      let r = received_changed net until ok bound w.gvt q (slice_index_or w.columns q []) (mail_of mail q) p item.sign item.message given in
      replaced_sound net until w q p (receive p item).1 mail h at
      (record {
        boxes = length-set w.mail q (remove box i);
        sound = r.sound;
        for_mail = λ d m. ⊎_elim
            (λ e. subst (λ k. Each (λ j. IsFor net k j.message) (mail_of mail k)) (sym e) for_new)
            (λ ne. subst (Each (λ j. IsFor net d j.message)) (sym (get_or-set_other w.mail q d (remove box i) [] ne)) m)
            (cases_eq d q);
        balance = λ weight.
            omega (
              arith,
              r.balance weight,
              total-set (total (when_anti weight)) w.mail q box (remove box i) (get_box w.mail q near),
              total-set (total (when_positive weight)) w.mail q box (remove box i) (get_box w.mail q near),
              total-remove (when_anti weight) box i item is,
              total-remove (when_positive weight) box i item is,
            );
        cancels = λ k x. received k p item.sign item.message x;
        next = r.next;
        outgoing = r.outgoing;
        owed = r.owed;
        least = least_mail-set w.gvt w.mail q (remove box i) least (least_from_each w.gvt (remove box i) top (each-remove (λ j. w.gvt ≤ j.message.stamp) box i stamps));
      })

  pub back_sound : (w : World S) (c s : ℕ) (o : Option (Process S)) → IsSound net until w → slice_get w.processes c ≡ o
      → IsSound net until (act_back w c s o).1
  back_sound w c s None h at = h
  back_sound w c s (Some p) h at =
      cond_both (nat_lt s w.gvt) _ _ (λ (r : Answer × World S). IsSound net until r.1)
      (λ e. h)
      (λ e.
      let sound = h.each c p at in
      let old = process_from_least w.gvt w.processes c p (let g = h.gvt_le in omega arith) at in
      let top : w.gvt ≤ never = let g = h.gvt_le in let t = least_mail_top w.mail in omega arith in
      let least : w.gvt ≤ least_mail w.mail = let g = h.gvt_le in omega arith in
      let k = cut_sound net until ok bound w.gvt c (slice_index_or w.columns c []) (mail_of w.mail c) p s sound (ltb-false s w.gvt e) old.0 top old.1 old.2 in
      replaced_sound net until w c p (cut s p) w.mail h at
      (record { boxes = refl; sound = k.sound; for_mail = λ d m. m; balance = λ weight. let b = k.balance weight in omega arith; cancels = λ cancel x. undone cancel (steps_before s p.history) p x; next = k.next; outgoing = k.outgoing; owed = k.owed; least = least }))
