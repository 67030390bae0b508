-- A sound executive gives the premise of the law of committed history.
use Rattle.std.proofs.Common.{◌≡◌, ℕ, zero, suc, ◌+◌, ◌-◌, ◌<◌, ◌≤◌, ◌⊎◌, List, [], ◌∷◌, length, Bool, true, false, cond, ◌&&◌, ◌||◌, true≢false, Option, Some, None, refl, sym, ap, ap₂, ◌∙◌, subst, arith, inl, inr, ⊎_elim}
use Rattle.std.specs.Prelude.{slice_get, slice_index_or, ◌==◌, nat_lt, filter, ◌≢◌}
use Rattle.std.specs.List.{AllByRecursion as Each}
use Rattle.std.proofs.lemmas.Option.{get_or_from_slice_get, slice_get_within, same_Some}
use Rattle.std.proofs.lemmas.Bool.{cond_both, cases_Bool, and_parts, eqb-true, cases_eq}
use Rattle.tw_msgs.specs.Bags.{Bag}
use Rattle.tw_msgs.specs.Counting.{one_at, total, when_positive, when_anti}
use Rattle.tw_msgs.specs.Messages.{same_message, has, Sorted}
use Rattle.tw_msgs.specs.declared.message.Item.{Item}
use Rattle.tw_msgs.specs.declared.message.Message.{Message}
use Rattle.tw_msgs.specs.declared.message.Sign.{Sign}
use Rattle.tw_msgs.specs.declared.message.Sign.TheVariants.{Positive, Anti}
use Rattle.tw_msgs.specs.declared.record.Record.{Record}
use Rattle.tw_msgs.specs.declared.record_kind.RecordKind.{RecordKind}
use Rattle.tw_msgs.specs.declared.record_kind.RecordKind.TheVariants.{Out, Int, Ext, Con}
use Rattle.tw_msgs.proofs.Messages.{same_message_is}
use Rattle.tw_msgs.proofs.Totals.{total-append}
use Rattle.tw_vtime.specs.Stamps.{phase_of}
use Rattle.tw_vtime.specs.declared.limits.Limit.{Limit}
use Rattle.tw_theory.specs.Balance.{issued, held, consumed_in, all_consumed}
use Rattle.tw_theory.specs.Bundles.{messages_for}
use Rattle.tw_theory.specs.Contents.{Process, inputs, sent_by}
use Rattle.tw_theory.specs.Executive.{World, least_mail}
use Rattle.tw_theory.specs.LocalRun.{Step, Leads, next_of, local_step}
use Rattle.tw_theory.specs.Network.{Network, Fits, IsNetwork}
use Rattle.tw_theory.specs.Simulator.{sequential, rounds, due_from, up_to, all_sent}
use Rattle.tw_theory.specs.Soundness.{IsFor, IsSound}
use Rattle.tw_theory.specs.Transitions.{Moment}
use Rattle.tw_theory.proofs.Elements.{each_weaker, present}
use Rattle.tw_theory.proofs.Owing.{each_from_owed}
use Rattle.tw_laws.specs.Ending.{ShowsFault}
use Rattle.tw_laws.specs.History.{count, sum_below, AreInputs, AllPhaseOne, Holdings, StandsTo, sent_count, IsRunTo, IsFaulting}
use Rattle.tw_laws.proofs.Changing.{each_from_least, process_from_least}
use Rattle.tw_laws.proofs.History.Components.{sum_front}

-- ---- sums over places

sum_below-add : (f g : ℕ → ℕ) (n : ℕ) → sum_below (λ c. f c + g c) n ≡ sum_below f n + sum_below g n
unfolding sum_below
sum_below-add f g zero = refl
sum_below-add f g (suc n) = omega (arith, sum_below-add f g n)

sum_below-none : (f : ℕ → ℕ) (n : ℕ) → ((c : ℕ) → c < n → f c ≡ 0) → sum_below f n ≡ 0
unfolding sum_below
sum_below-none f zero h = refl
sum_below-none f (suc n) h = omega (arith, sum_below-none f n (λ c l. h c (omega arith)), h n (omega arith))

sum_below-one : (f : ℕ → ℕ) (n k : ℕ) → k < n → ((c : ℕ) → c < n → c ≢ k → f c ≡ 0) → sum_below f n ≡ f k
unfolding sum_below
sum_below-one f zero k l h = absurd (omega arith)
sum_below-one f (suc n) k l h =
    ⊎_elim
    (λ e. omega (arith, sum_below-none f n (λ c m. h c (omega arith) (omega arith)), ap f e))
    (λ ne. let near : k < n = omega arith in omega (arith, sum_below-one f n k near (λ c m d. h c (omega arith) d), h n (omega arith) (λ e. ne (sym e))))
    (cases_eq k n)

total_below : {X : Type 0} (f : X → ℕ) (g : ℕ → ℕ) (xs : List X) → ((c : ℕ) (x : X) → slice_get xs c ≡ Some x → g c ≡ f x)
    → sum_below g (length xs) ≡ total f xs
unfolding sum_below
total_below f g [] h = refl
total_below f g (x ∷ xs) h = omega (arith, sum_front g (length xs), h 0 x refl, total_below f (λ c. g (suc c)) xs (λ c y e. h (suc c) y e))

-- ---- messages that are not there

absent_count : (m : Message) (ms : List Message) → Each (λ k. m ≡ k → ⊥) ms → total (one_at m) ms ≡ 0
absent_count m [] h = refl
absent_count m (k ∷ ms) h =
    cond_both (same_message m k) 1 0 (λ n. n + total (one_at m) ms ≡ 0) (λ e. absurd (h.0 (same_message_is m k e))) (λ e. omega (arith, absent_count m ms h.1))

not_one : (m k : Message) → (m ≡ k → ⊥) → one_at m k ≡ 0
not_one m k h = cond_both (same_message m k) 1 0 (λ n. n ≡ 0) (λ e. absurd (h (same_message_is m k e))) (λ e. refl)

if_anti : (s : Sign) (weight : Message → ℕ) (k : Message) → weight k ≡ 0 → when_anti weight (record { sign = s; message = k }) ≡ 0
if_anti Positive weight k e = refl
if_anti Anti weight k e = e

if_positive : (s : Sign) (weight : Message → ℕ) (k : Message) → weight k ≡ 0 → when_positive weight (record { sign = s; message = k }) ≡ 0
if_positive Positive weight k e = e
if_positive Anti weight k e = refl

absent_anti : (m : Message) (items : List Item) → Each (λ i. m ≡ i.message → ⊥) items → total (when_anti (one_at m)) items ≡ 0
absent_anti m [] h = refl
absent_anti m (i ∷ items) h = omega (arith, if_anti i.sign (one_at m) i.message (not_one m i.message h.0), absent_anti m items h.1)

absent_positive : (m : Message) (items : List Item) → Each (λ i. m ≡ i.message → ⊥) items → total (when_positive (one_at m)) items ≡ 0
absent_positive m [] h = refl
absent_positive m (i ∷ items) h = omega (arith, if_positive i.sign (one_at m) i.message (not_one m i.message h.0), absent_positive m items h.1)

later_items : (m : Message) (g : ℕ) (items : List Item) → m.stamp < g → Each (λ i. g ≤ i.message.stamp) items → Each (λ i. m ≡ i.message → ⊥) items
later_items m g items l h = each_weaker (λ i. g ≤ i.message.stamp) (λ i. m ≡ i.message → ⊥) (λ i k e. let s = ap (λ (x : Message). x.stamp) e in omega arith) items h

elsewhere : {S : Type 0} (net : Network S) (m : Message) (c : ℕ) (ms : List Message) → c ≢ m.to → Each (IsFor net c) ms → total (one_at m) ms ≡ 0
elsewhere net m c ms ne h = absent_count m ms (each_weaker (IsFor net c) (λ k. m ≡ k → ⊥) (λ k f e. let t = ap (λ (x : Message). x.to) e in let u = f.to in ne (omega arith)) ms h)

count_none : (m : Message) (ms : List Message) → has m ms ≡ false → total (one_at m) ms ≡ 0
count_none m [] e = refl
count_none m (k ∷ ms) e = go (same_message m k) refl e (λ h. count_none m ms h)
  where
    go : (b : Bool) → same_message m k ≡ b → (b || has m ms) ≡ false → (has m ms ≡ false → total (one_at m) ms ≡ 0)
        → cond b 1 0 + total (one_at m) ms ≡ 0
    go true is h ih = absurd (true≢false h)
    go false is h ih = omega (arith, ih h)

-- ---- what the components hold

abbrev pub line_of : {S : Type 0} → Option (Process S) → ℕ
line_of None = 0
line_of (Some p) = p.line

abbrev pub history_of : {S : Type 0} → Option (Process S) → List (Step S)
history_of None = []
history_of (Some p) = p.history

abbrev pub inputs_of : {S : Type 0} → Option (Process S) → List Message
inputs_of None = []
inputs_of (Some p) = inputs p

abbrev pub waiting_of : {S : Type 0} → Option (Process S) → List Message
waiting_of None = []
waiting_of (Some p) = p.waiting

abbrev pub held_by : {S : Type 0} → ℕ → World S → Holdings S
held_by until w = record {
  line = λ c. up_to until (line_of (slice_get w.processes c));
  column = λ c. slice_index_or w.columns c [];
  history = λ c. history_of (slice_get w.processes c);
  inputs = λ c. inputs_of (slice_get w.processes c);
  waiting = λ c. waiting_of (slice_get w.processes c);
}

in_column : (c n : ℕ) (rs : List Record) → Each (λ r. r.component ≡ c) (filter (λ r. (r.component == c) && nat_lt r.stamp n) rs)
in_column c n [] = tt
in_column c n (r ∷ rs) =
    cond_both ((r.component == c) && nat_lt r.stamp n) (r ∷ filter (λ r. (r.component == c) && nat_lt r.stamp n) rs) (filter (λ r. (r.component == c) && nat_lt r.stamp n) rs) (Each (λ r. r.component ≡ c))
    (λ e. (eqb-true r.component c (and_parts _ _ e).0, in_column c n rs))
    (λ e. in_column c n rs)

messages_elsewhere : (m : Message) (c s : ℕ) (bag : Bag) → c ≢ m.to → total (one_at m) (messages_for c s bag) ≡ 0
messages_elsewhere m c s [] ne = refl
messages_elsewhere m c s (x ∷ bag) ne =
    omega (arith, not_one m (record { to = c; port = x.0; stamp = s; value = x.1 }) (λ e. ne (sym (ap (λ (k : Message). k.to) e))), messages_elsewhere m c s bag ne)

consumed_elsewhere : (m : Message) (c : ℕ) (rs : List Record) → c ≢ m.to → Each (λ r. r.component ≡ c) rs → total (one_at m) (all_consumed rs) ≡ 0
consumed_elsewhere m c [] ne h = refl
consumed_elsewhere m c (r ∷ rs) ne h =
    omega (arith, total-append (one_at m) (consumed_in r) (all_consumed rs), here r.kind, consumed_elsewhere m c rs ne h.1)
  where
    other : r.component ≢ m.to
    other e = ne (sym h.0 ∙ e)

    here : (k : RecordKind)
        → total (one_at m) (elim k [ Out ↦ [] | Int ↦ messages_for r.component r.stamp r.bag | Ext ↦ messages_for r.component r.stamp r.bag | Con ↦ messages_for r.component r.stamp r.bag ]) ≡ 0
    here Out = refl
    here Int = messages_elsewhere m r.component r.stamp r.bag other
    here Ext = messages_elsewhere m r.component r.stamp r.bag other
    here Con = messages_elsewhere m r.component r.stamp r.bag other

are_inputs : {S : Type 0} (net : Network S) (c : ℕ) (ms : List Message) → Each (IsFor net c) ms → Sorted ms → AreInputs c ms
are_inputs net c [] h k = tt
are_inputs net c (m ∷ ms) h k = (h.0.to, h.0.fits.phase, k.0, are_inputs net c ms h.1 k.1)

pub all_phase_one : {S : Type 0} (net : Network S) (ms : List Message) → Each (Fits net) ms → AllPhaseOne ms
unfolding AllPhaseOne
all_phase_one net [] h = tt
all_phase_one net (m ∷ ms) h = (h.0.phase, all_phase_one net ms h.1)

module _ {S : Type 0} (net : Network S) (until : ℕ) (ok : IsNetwork net) (w : World S) (h : IsSound net until w) where
  -- component c's process
  pub process_at : (c : ℕ) → c < length net.models → (p : Process S) × (slice_get w.processes c ≡ Some p)
  process_at c l = present w.processes c (let n = h.processes in omega arith)

  -- a message is nowhere in transit, nor owed
  record IsClear (m : Message) : Type 0 where
    outgoing : (c : ℕ) (p : Process S) → slice_get w.processes c ≡ Some p → Each (λ i. m ≡ i.message → ⊥) p.outgoing
    owed : (c : ℕ) (p : Process S) → slice_get w.processes c ≡ Some p → Each (λ k. m ≡ k → ⊥) p.owed
    anti : total (total (when_anti (one_at m))) w.mail ≡ 0
    positive : total (total (when_positive (one_at m))) w.mail ≡ 0

  -- nothing of this stamp is in transit
  none_out : (m : Message) → m.stamp < w.gvt → (c : ℕ) (p : Process S) → slice_get w.processes c ≡ Some p → Each (λ i. m ≡ i.message → ⊥) p.outgoing
  none_out m l c p at = later_items m w.gvt p.outgoing l (each_from_least w.gvt p.outgoing (process_from_least w.gvt w.processes c p (let g = h.gvt_le in omega arith) at).1)

  -- nor is it owed
  none_owed : (m : Message) → m.stamp < w.gvt → (c : ℕ) (p : Process S) → slice_get w.processes c ≡ Some p → Each (λ k. m ≡ k → ⊥) p.owed
  none_owed m l c p at =
      each_weaker (λ k. w.gvt ≤ k.stamp) (λ k. m ≡ k → ⊥) (λ k late e. let s = ap (λ (x : Message). x.stamp) e in omega arith) p.owed
      (each_from_owed w.gvt p.owed (process_from_least w.gvt w.processes c p (let g = h.gvt_le in omega arith) at).2)

  none_in_mail : (g : ℕ) (m : Message) (mail : List (List Item)) → m.stamp < g → g ≤ least_mail mail
      → (total (total (when_anti (one_at m))) mail ≡ 0) × (total (total (when_positive (one_at m))) mail ≡ 0)
  none_in_mail g m [] l k = (refl, refl)
  none_in_mail g m (box ∷ mail) l k =
      let here = later_items m g box l (each_from_least g box (omega arith)) in
      let rest = none_in_mail g m mail l (omega arith) in
      (omega (arith, absent_anti m box here, rest.0), omega (arith, absent_positive m box here, rest.1))

  clear_before : (m : Message) → m.stamp < w.gvt → IsClear m
  clear_before m l =
      let mail = none_in_mail w.gvt m w.mail l (let g = h.gvt_le in omega arith) in
      record { outgoing = λ c p at. none_out m l c p at; owed = λ c p at. none_owed m l c p at; anti = mail.0; positive = mail.1 }

  settled_balance : (m : Message) → m.to < length net.models → IsClear m
      → sent_count net (held_by until w) m + count m (waiting_of (slice_get w.processes m.to)) ≡ count m (all_consumed (slice_index_or w.columns m.to [])) + count m (inputs_of (slice_get w.processes m.to))
  settled_balance m to clear =
      let u = one_at m in
      let n = length net.models in
      let sent = λ (c : ℕ). count m (sent_by (history_of (slice_get w.processes c))) in
      let wait = λ (c : ℕ). count m (waiting_of (slice_get w.processes c)) in
      let kept = λ (c : ℕ). count m (inputs_of (slice_get w.processes c)) in
      let out = λ (c : ℕ). count m (all_sent net (slice_index_or w.columns c [])) in
      let took = λ (c : ℕ). count m (all_consumed (slice_index_or w.columns c [])) in
      let columns_sent : sum_below out (length w.columns) ≡ total (λ column. total u (all_sent net column)) w.columns =
      total_below (λ column. total u (all_sent net column)) out w.columns (λ c x e. ap (λ column. total u (all_sent net column)) (get_or_from_slice_get w.columns c x [] e)) in
      let columns_took : sum_below took (length w.columns) ≡ total (λ column. total u (all_consumed column)) w.columns =
      total_below (λ column. total u (all_consumed column)) took w.columns (λ c x e. ap (λ column. total u (all_consumed column)) (get_or_from_slice_get w.columns c x [] e)) in
      let process_owed : sum_below (λ c. sent c + wait c) (length w.processes) ≡ total (issued u) w.processes =
      total_below (issued u) (λ c. sent c + wait c) w.processes
      (λ c p e. ap (λ (o : Option (Process S)). count m (sent_by (history_of o)) + count m (waiting_of o)) e ∙ (let z = absent_anti m p.outgoing (clear.outgoing c p e) in let o = absent_count m p.owed (clear.owed c p e) in omega arith)) in
      let process_held : sum_below kept (length w.processes) ≡ total (held u) w.processes =
      total_below (held u) kept w.processes (λ c p e. ap (λ (o : Option (Process S)). count m (inputs_of o)) e ∙ (let z = absent_positive m p.outgoing (clear.outgoing c p e) in omega arith)) in
      let one_wait : sum_below wait n ≡ wait m.to = sum_below-one wait n m.to to
      (λ c l ne. let q = process_at c l in ap (λ (o : Option (Process S)). count m (waiting_of o)) q.1 ∙ elsewhere net m c q.0.waiting ne (h.each c q.0 q.1).for_waiting) in
      let one_kept : sum_below kept n ≡ kept m.to = sum_below-one kept n m.to to
      (λ c l ne. let q = process_at c l in ap (λ (o : Option (Process S)). count m (inputs_of o)) q.1 ∙ elsewhere net m c (inputs q.0) ne (h.each c q.0 q.1).for_inputs) in
      let one_took : sum_below took n ≡ took m.to = sum_below-one took n m.to to
      (λ c l ne.
      let q = process_at c l in
      let s = h.each c q.0 q.1 in
      consumed_elsewhere m c (slice_index_or w.columns c []) ne (subst (Each (λ r. r.component ≡ c)) (sym s.column_is) (in_column c (up_to until q.0.line) (sequential net until).records))) in
      omega (
        arith,
        h.balance u,
        columns_sent,
        ap (sum_below out) h.columns,
        columns_took,
        ap (sum_below took) h.columns,
        process_owed,
        ap (sum_below (λ c. sent c + wait c)) h.processes,
        process_held,
        ap (sum_below kept) h.processes,
        clear.anti,
        clear.positive,
        one_wait,
        one_kept,
        one_took,
        sum_below-add sent wait n,
        sum_below-add out sent n,
      )

  settled_apart : (m : Message) (p : Process S) → ((k : Message) → has k p.waiting ≡ true → has k (inputs p) ≡ true → ⊥)
      → (count m p.waiting ≡ 0) ⊎ (count m (inputs p) ≡ 0)
  settled_apart m p apart =
      ⊎_elim
      (λ e. inr (count_none m (inputs p) (⊎_elim (λ k. absurd (apart m e k)) (λ k. k) (cases_Bool (has m (inputs p))))))
      (λ e. inl (count_none m p.waiting e))
      (cases_Bool (has m p.waiting))

  pub stands_at : (c : ℕ) (p : Process S) → slice_get w.processes c ≡ Some p → StandsTo net until (up_to until w.gvt) (held_by until w) c
  stands_at c p at =
      let s = h.each c p at in
      let e = ap line_of at in
      let n : up_to until (up_to until (line_of (slice_get w.processes c))) ≡ up_to until p.line = omega arith in
      let g = (process_from_least w.gvt w.processes c p (let g = h.gvt_le in omega arith) at).0 in
      record {
        from = s.from;
        now = p.now;
        pending = p.pending;
        from_is = ap (λ k. due_from k (slice_get (rounds net (k - 1)).at.moments c)) n ∙ s.from_is;
        runs = subst (λ (o : Option (Process S)). Leads net c s.from (inputs_of o) (history_of o) p.now p.pending) (sym at) s.stands;
        next = omega arith;
      }

  pub stands_at-now : (c : ℕ) (p : Process S) (at : slice_get w.processes c ≡ Some p) → (stands_at c p at).now ≡ p.now
  unfolding stands_at
  stands_at-now c p at = refl

  pub run_to : IsRunTo net until (up_to until w.gvt) (held_by until w)
  run_to = record {
    horizon = omega arith;
    given = all_phase_one net net.inputs ok.inputs;
    lines = λ c l. let q = process_at c l in let s = (h.each c q.0 q.1).line_le in let e = ap line_of q.1 in omega arith;
    unstopped = λ c met l fault. let q = process_at c l in let k = (h.each c q.0 q.1).line_le_fault met fault in let e = ap line_of q.1 in omega arith;
    columns = λ c l.
        let q = process_at c l in
        let e = ap line_of q.1 in
        let n : up_to until q.0.line ≡ up_to until (up_to until (line_of (slice_get w.processes c))) = omega arith in
        (h.each c q.0 q.1).column_is ∙ ap (λ k. filter (λ r. (r.component == c) && nat_lt r.stamp k) (sequential net until).records) n;
    inputs = λ c l. let q = process_at c l in let s = h.each c q.0 q.1 in subst (λ (o : Option (Process S)). AreInputs c (inputs_of o)) (sym q.1) (are_inputs net c (inputs q.0) s.for_inputs s.sorted);
    stands = λ c l. let q = process_at c l in stands_at c q.0 q.1;
    balance = λ m to early. settled_balance m to (clear_before m (omega arith));
    apart = λ m to early. let q = process_at m.to to in subst (λ (o : Option (Process S)). (count m (waiting_of o) ≡ 0) ⊎ (count m (inputs_of o) ≡ 0)) (sym q.1) (settled_apart m q.0 (h.each m.to q.0 q.1).apart);
  }

  -- ---- where nothing is in transit at gvt either

  empty_boxes : (weight : Item → ℕ) (mail : List (List Item)) → Each (λ box. box ≡ []) mail → total (total weight) mail ≡ 0
  empty_boxes weight [] k = refl
  empty_boxes weight (box ∷ mail) k = omega (arith, ap (total weight) k.0, empty_boxes weight mail k.1)

  clear_at : (c : ℕ) (limit : Limit) → ShowsFault net until w c limit → (m : Message) → m.stamp ≡ w.gvt → IsClear m
  clear_at c limit shows m e = record {
    outgoing = λ d q at. subst (Each (λ i. m ≡ i.message → ⊥)) (sym (shows.outgoing d q at)) tt;
    owed = λ d q at. each_weaker (λ k. k.stamp ≢ w.gvt) (λ k. m ≡ k → ⊥) (λ k ne same. ne (sym (ap (λ (x : Message). x.stamp) same) ∙ e)) q.owed (shows.owed d q at);
    anti = empty_boxes (when_anti (one_at m)) w.mail shows.mail;
    positive = empty_boxes (when_positive (one_at m)) w.mail shows.mail;
  }

  settled_now : (c : ℕ) (below : c < length net.models) (p : Process S) → slice_get w.processes c ≡ Some p
      → ((run_to.stands c below).now ≡ p.now) × ((run_to.stands c below).pending ≡ p.pending)
  unfolding run_to stands_at
  settled_now c below p at =
      let q = process_at c below in
      let same : q.0 ≡ p = same_Some q.0 p (sym q.1 ∙ at) in
      (ap (λ (x : Process S). x.now) same, ap (λ (x : Process S). x.pending) same)

  pub faulting : (c : ℕ) (limit : Limit) → ShowsFault net until w c limit → IsFaulting net until (up_to until w.gvt) (held_by until w) run_to c limit
  faulting c limit shows =
      let below : c < length net.models = let l = slice_get_within w.processes c shows.process shows.at in omega (arith, h.processes) in
      let before = shows.before in
      let same : up_to until w.gvt ≡ w.gvt = omega arith in
      let is = settled_now c below shows.process shows.at in
      record {
        before = omega arith;
        odd = ap phase_of same ∙ shows.odd;
        balance = λ m to e. settled_balance m to (clear_at c limit shows m (e ∙ same));
        apart = λ m to e. let q = process_at m.to to in subst (λ (o : Option (Process S)). (count m (waiting_of o) ≡ 0) ⊎ (count m (inputs_of o) ≡ 0)) (sym q.1) (settled_apart m q.0 (h.each m.to q.0 q.1).apart);
        below = below;
        meets = record {
          at = ap₂ (λ (now : Moment S) (ms : List Message). next_of now ms) is.0 is.1 ∙ shows.next_is ∙ sym same;
          meets = ap₂ (λ (now : Moment S) (ms : List Message). local_step net c now ms) is.0 is.1 ∙ shows.meets;
        };
        least = λ d near other l met.
            let q = process_at d near in
            let at = settled_now d near q.0 q.1 in
            shows.least d q.0 other q.1 l
            (sym (ap₂ (λ (now : Moment S) (ms : List Message). next_of now ms) at.0 at.1) ∙ met.at ∙ same)
            (sym (ap₂ (λ (now : Moment S) (ms : List Message). local_step net d now ms) at.0 at.1) ∙ met.meets);
      }
