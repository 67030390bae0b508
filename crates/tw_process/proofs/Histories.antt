-- The last step of a history, made and taken back.
use Rattle.std.proofs.Common.{◌≡◌, ◌≢◌, ℕ, suc, ◌+◌, ◌-◌, ◌<◌, ◌≤◌, List, [], ◌∷◌, ◌++◌, length, take, drop, Some, true, false, refl, sym, ap, subst, ◌∙◌, arith, length-append, append-nil, append_assoc, take-append-drop, length-take-le, length-drop, take_all}
use Rattle.std.proofs.lemmas.List.{map_push, take-append-le, drop-append-le}
use Rattle.std.proofs.lemmas.Option.{same_Some}
use Rattle.std.specs.Prelude.{slice_get, slice_index_or}
use Rattle.tw_network.specs.Contents.{Contents as NetworkContents}
use Rattle.std.specs.List.{AllByRecursion as Each}
use Rattle.tw_atomic.specs.Atomic.{Bag, Meaning}
use Rattle.tw_atomic.specs.declared.Turn.{Turn}
use Rattle.tw_msgs.specs.Messages.{Sorted}
use Rattle.tw_msgs.specs.declared.message.Message.{Message}
use Rattle.tw_theory.specs.Bundles.{first_stamp}
use Rattle.tw_theory.specs.Contents.{Process, Cancel, undo_last, back_to_first, before_all, consumed_by, sent_by, unsent_by, outgoing_undone, owed_undone}
use Rattle.tw_theory.specs.LocalRun.{Step}
use Rattle.tw_theory.specs.Transitions.{Moment}
use Rattle.tw_theory.specs.Soundness.{AllBefore}
use Rattle.tw_theory.proofs.Cuts.{nothing_back}
use Rattle.tw_theory.proofs.Histories.{floor_push}
use Rattle.tw_process.specs.declared.entry.Entry.{Entry}
use Rattle.tw_lists.specs.Lists.{Lists, node_count as lists_count, restored, cancelled}
use Rattle.tw_step.specs.Steps.{before_of, Linked, AllLinked}
use Rattle.tw_step.proofs.Links.{linked_pop, linked_push}
use Rattle.tw_process.specs.History.{kept_of, step_of, shown, seen, total_consumed, total_sent, IsKeptBy, IsKept}
use Rattle.tw_theory.specs.Memory.{live}
use Rattle.tw_process.specs.Process.{with_last_undone, last_stamp_of}
use Rattle.tw_theory.specs.Standing.{IsStanding, floor_after, CanTake}
use Rattle.tw_process.specs.History.{Stood}
use Rattle.tw_lists.proofs.Ends.{last_off}
use Rattle.tw_lists.proofs.Loops.{sorted_drop}

-- ---- Steps that the component stood before

module _ {S : Type 0} where
  module _ (valid : S → Type 0) (m : Meaning S) where
    pub stood_more : (floor : ℕ) (steps : List (Step S)) (step : Step S) → Stood valid m floor steps → IsStanding valid m step.before (floor_after floor steps) → floor_after floor steps ≤ step.entry.stamp → Each (λ x. x.stamp ≡ step.entry.stamp) step.consumed → Stood valid m floor (steps ++ step ∷ [])
    stood_more floor [] step chain standing le at = (standing, le, at, tt)
    stood_more floor (x ∷ steps) step chain standing le at = (chain.0, chain.1, chain.2, stood_more (x.entry.stamp + 1) steps step chain.3 standing le at)

    pub record StoodLast (floor : ℕ) (steps : List (Step S)) (step : Step S) : Type 0 where
      pub stood : Stood valid m floor steps
      pub standing : IsStanding valid m step.before (floor_after floor steps)
      pub from : floor_after floor steps ≤ step.entry.stamp
      pub at : Each (λ x. x.stamp ≡ step.entry.stamp) step.consumed

    pub stood_last : (floor : ℕ) (steps : List (Step S)) (step : Step S) → Stood valid m floor (steps ++ step ∷ []) → StoodLast floor steps step
    stood_last floor [] step chain = record { stood = tt; standing = chain.0; from = chain.1; at = chain.2 }
    stood_last floor (x ∷ steps) step chain =
        let rest = stood_last (x.entry.stamp + 1) steps step chain.3 in
        record { stood = (chain.0, chain.1, chain.2, rest.stood); standing = rest.standing; from = rest.from; at = rest.at }

first_at : (low s : ℕ) (xs ys : List Message) → low ≤ s → Each (λ x. x.stamp ≡ s) xs → low ≤ first_stamp ys → low ≤ first_stamp (xs ++ ys)
first_at low s [] ys less at le = le
first_at low s (x ∷ xs) ys less at le = let e = at.0 in omega (arith, e, less)

-- ---- Taking back, on contents

-- the last step of contents, taken back
pub undone_is : {S : Type 0} (p : Process S) (steps : List (Step S)) (step : Step S) → p.history ≡ steps ++ step ∷ []
    → undo_last p ≡ record p { now = step.before; pending = step.consumed ++ p.pending; history = steps; outgoing = outgoing_undone p.cancel p.outgoing step.sent; owed = owed_undone p.cancel p.owed step.sent }
unfolding back_to_first
undone_is p steps step is =
    let off = last_off p.history steps step is in
    λ i. record {
      now = before_all (off.dropped i) p.now;
      pending = (ap (λ l. consumed_by l ++ p.pending) off.dropped ∙ ap (λ l. l ++ p.pending) (append-nil step.consumed)) i;
      history = off.taken i;
      waiting = p.waiting;
      outgoing = outgoing_undone p.cancel p.outgoing (unsent_by (off.dropped i));
      owed = owed_undone p.cancel p.owed (unsent_by (off.dropped i));
      line = p.line;
      cancel = p.cancel;
    }

pub nothing_undone : {S : Type 0} (p : Process S) → p.history ≡ [] → undo_last p ≡ p
nothing_undone p none = ap (λ n. back_to_first n p) (omega (arith, ap length none)) ∙ nothing_back p

-- ---- Entries

module _ {S R : Type 0} where
  consumed_last : (es : List (Entry S R)) (e : Entry S R) → total_consumed (es ++ e ∷ []) ≡ total_consumed es + e.consumed
  consumed_last [] e = omega arith
  consumed_last (x ∷ es) e = let rest = consumed_last es e in omega (arith, rest)

  sent_last : (es : List (Entry S R)) (e : Entry S R) → total_sent (es ++ e ∷ []) ≡ total_sent es + e.sent
  sent_last [] e = omega arith
  sent_last (x ∷ es) e = let rest = sent_last es e in omega (arith, rest)

  pub shown_last : (es : List (Entry S R)) (e : Entry S R) (a b c d : List Message) → total_consumed es ≡ length a → length b ≡ e.consumed → total_sent es ≡ length c → length d ≡ e.sent → shown (es ++ e ∷ []) (a ++ b) (c ++ d) ≡ shown es a c ++ step_of e b d ∷ []
  shown_last [] e [] b [] d a_is b_is c_is d_is =
      ap (λ x. step_of e x (take e.sent d) ∷ []) (take_all e.consumed b (omega (arith, b_is))) ∙ ap (λ x. step_of e b x ∷ []) (take_all e.sent d (omega (arith, d_is)))
  shown_last [] e (x ∷ a) b c d a_is b_is c_is d_is = absurd (omega (arith, a_is))
  shown_last [] e [] b (x ∷ c) d a_is b_is c_is d_is = absurd (omega (arith, c_is))
  shown_last (x ∷ es) e a b c d a_is b_is c_is d_is =
      let m = x.consumed in
      let n = x.sent in
      let a_in : m ≤ length a = omega (arith, a_is) in
      let c_in : n ≤ length c = omega (arith, c_is) in
      (λ i. step_of x (take-append-le m a b a_in i) (take-append-le n c d c_in i) ∷ shown (es ++ e ∷ []) (drop-append-le m a b a_in i) (drop-append-le n c d c_in i))
      ∙ ap (λ l. step_of x (take m a) (take n c) ∷ l) (shown_last es e (drop m a) b (drop n c) d (omega (arith, a_is, length-drop m a)) b_is (omega (arith, c_is, length-drop n c)) d_is)

  pub shown_some : (es : List (Entry S R)) (e : Entry S R) (a c : List Message) → shown (es ++ e ∷ []) a c ≢ []
  shown_some [] e a c none = absurd (omega (arith, ap length none))
  shown_some (x ∷ es) e a c none = absurd (omega (arith, ap length none))

  module _ (valid : S → Type 0) (m : Meaning S) (undone : Turn → S → ℕ → Bag → R → S) where
    -- the entries of one step more are linked so as their steps
    links_last : (es : List (Entry S R)) (e : Entry S R) (now : S) → AllLinked undone (kept_of (es ++ e ∷ [])) now → Linked undone e.step now × AllLinked undone (kept_of es) e.step.before.value
    links_last es e now links = linked_pop undone (kept_of es) e.step now (subst (λ l. AllLinked undone l now) (map_push (λ (x : Entry S R). x.step) es e) links)

    links_more : (es : List (Entry S R)) (e : Entry S R) (now : S) → AllLinked undone (kept_of es) e.step.before.value → Linked undone e.step now → AllLinked undone (kept_of (es ++ e ∷ [])) now
    links_more es e now links link = subst (λ l. AllLinked undone l now) (sym (map_push (λ (x : Entry S R). x.step) es e)) (linked_push undone (kept_of es) e.step now links link)

    pub record TakenBack {M : Type 0} (network : NetworkContents M) (c : ℕ) (now : Moment S) (line : ℕ) (way : Cancel) (floor : ℕ) (es : List (Entry S R)) (e : Entry S R) (lists : Lists) : Type 0 where
      pub link : Linked undone e.step now.state
      pub consumed_in : e.consumed ≤ length lists.consumed
      pub sent_in : e.sent ≤ length lists.sent
      pub sorted : Sorted (drop (length lists.consumed - e.consumed) lists.consumed ++ lists.pending)
      pub kept : IsKeptBy valid m undone c (before_of e.step) floor es (cancelled way e.sent (restored e.consumed lists))
      pub seen_is : seen network c (before_of e.step) line way floor es (cancelled way e.sent (restored e.consumed lists)) ≡ with_last_undone (seen network c now line way floor (es ++ e ∷ []) lists)

    pub taken_back : {M : Type 0} (network : NetworkContents M) (c : ℕ) (now : Moment S) (line : ℕ) (way : Cancel) (floor : ℕ) (es : List (Entry S R)) (e : Entry S R) (lists : Lists) → IsKeptBy valid m undone c now floor (es ++ e ∷ []) lists → TakenBack network c now line way floor es e lists
    taken_back {M} network c now line way floor es e lists kept =
        let links = links_last es e now.state kept.linked in
        let consumed : total_consumed es + e.consumed ≡ length lists.consumed = sym (consumed_last es e) ∙ kept.consumed_is in
        let sent : total_sent es + e.sent ≡ length lists.sent = sym (sent_last es e) ∙ kept.sent_is in
        let k = length lists.consumed - e.consumed in
        let n = length lists.sent - e.sent in
        let a = take k lists.consumed in
        let b = drop k lists.consumed in
        let x = take n lists.sent in
        let d = drop n lists.sent in
        let a_is : total_consumed es ≡ length a = omega (arith, consumed, length-take-le k lists.consumed (omega arith)) in
        let x_is : total_sent es ≡ length x = omega (arith, sent, length-take-le n lists.sent (omega arith)) in
        let history : shown (es ++ e ∷ []) lists.consumed lists.sent ≡ shown es a x ++ step_of e b d ∷ [] =
        sym (λ i. shown (es ++ e ∷ []) (take-append-drop k lists.consumed i) (take-append-drop n lists.sent i))
        ∙ shown_last es e a b x d a_is (omega (arith, consumed, length-drop k lists.consumed)) x_is (omega (arith, sent, length-drop n lists.sent)) in
        let all : a ++ (b ++ lists.pending) ≡ lists.consumed ++ lists.pending = sym (append_assoc a b lists.pending) ∙ ap (λ l. l ++ lists.pending) (take-append-drop k lists.consumed) in
        let last = stood_last valid m floor (shown es a x) (step_of e b d) (subst (λ l. Stood valid m floor l) history kept.stood) in
        let low : e.step.done.stamp + 1 ≤ first_stamp lists.pending = subst (λ f. f ≤ first_stamp lists.pending) (ap (floor_after floor) history ∙ floor_push floor (shown es a x) (step_of e b d)) kept.from in
        let from = last.from in
        record {
          link = links.0;
          consumed_in = omega (arith, consumed);
          sent_in = omega (arith, sent);
          sorted = sorted_drop k lists.consumed lists.pending kept.sorted;
          kept = record {
            linked = links.1;
            consumed_is = a_is;
            sent_is = x_is;
            sorted = subst (λ l. Sorted l) (sym all) kept.sorted;
            fit = subst (λ l. Each (CanTake c) l) (sym all) kept.fit;
            stood = last.stood;
            standing = last.standing;
            from = first_at (floor_after floor (shown es a x)) e.step.done.stamp b lists.pending from last.at (omega (arith, from, low));
          };
          seen_is = sym (ap (λ p. record (seen network c now line way floor (es ++ e ∷ []) lists) { process = p })
              (undone_is (seen network c now line way floor (es ++ e ∷ []) lists).process (shown es a x) (step_of e b d) history));
        }

    -- one more step stands in the history
    pub record Grown (c : ℕ) (now : Moment S) (floor : ℕ) (es : List (Entry S R)) (e : Entry S R) (old lists : Lists) (b d : List Message) : Type 0 where
      pub kept : IsKeptBy valid m undone c now floor (es ++ e ∷ []) lists
      pub history : shown (es ++ e ∷ []) lists.consumed lists.sent ≡ shown es old.consumed old.sent ++ step_of e b d ∷ []

    pub grown : (c : ℕ) (before now : Moment S) (floor : ℕ) (es : List (Entry S R)) (e : Entry S R) (old lists : Lists) (b d : List Message) → IsKeptBy valid m undone c before floor es old → before_of e.step ≡ before → Linked undone e.step now.state
        → lists.consumed ≡ old.consumed ++ b → lists.sent ≡ old.sent ++ d → length b ≡ e.consumed → length d ≡ e.sent → b ++ lists.pending ≡ old.pending
        → floor_after floor (shown es old.consumed old.sent) ≤ e.step.done.stamp → Each (λ x. x.stamp ≡ e.step.done.stamp) b → IsStanding valid m now (e.step.done.stamp + 1) → e.step.done.stamp + 1 ≤ first_stamp lists.pending
        → Grown c now floor es e old lists b d
    grown c before now floor es e old lists b d kept before_is link consumed sent b_is d_is pending le at standing from =
        let history : shown (es ++ e ∷ []) lists.consumed lists.sent ≡ shown es old.consumed old.sent ++ step_of e b d ∷ [] =
        (λ j. shown (es ++ e ∷ []) (consumed j) (sent j)) ∙ shown_last es e old.consumed b old.sent d kept.consumed_is b_is kept.sent_is d_is in
        let all : lists.consumed ++ lists.pending ≡ old.consumed ++ old.pending =
        ap (λ l. l ++ lists.pending) consumed ∙ append_assoc old.consumed b lists.pending ∙ ap (λ l. old.consumed ++ l) pending in
        let later : floor_after floor (shown (es ++ e ∷ []) lists.consumed lists.sent) ≡ e.step.done.stamp + 1 = ap (floor_after floor) history ∙ floor_push floor (shown es old.consumed old.sent) (step_of e b d) in
        record {
          kept = record {
            linked = links_more es e now.state (subst (AllLinked undone (kept_of es)) (sym (ap (λ (x : Moment S). x.state) before_is)) kept.linked) link;
            consumed_is = consumed_last es e ∙ (let n = length-append old.consumed b in let l = ap length consumed in omega (arith, n, l, b_is, kept.consumed_is));
            sent_is = sent_last es e ∙ (let n = length-append old.sent d in let l = ap length sent in omega (arith, n, l, d_is, kept.sent_is));
            sorted = subst (λ l. Sorted l) (sym all) kept.sorted;
            fit = subst (λ l. Each (CanTake c) l) (sym all) kept.fit;
            stood = subst (λ l. Stood valid m floor l) (sym history) (stood_more valid m floor (shown es old.consumed old.sent) (step_of e b d) kept.stood (subst (λ (x : Moment S). IsStanding valid m x (floor_after floor (shown es old.consumed old.sent))) (sym before_is) kept.standing) le at);
            standing = subst (λ f. IsStanding valid m now f) (sym later) standing;
            from = subst (λ f. f ≤ first_stamp lists.pending) (sym later) from;
          };
          history = history;
        }

-- what a process keeps, for its model as it was found
pub kept_at : {M S R : Type 0} (valid : M → S → Type 0) (meaning : M → Meaning S) (undone : M → Turn → S → ℕ → Bag → R → S) (network : NetworkContents M) (c : ℕ) (now : Moment S) (floor : ℕ) (es : List (Entry S R)) (lists : Lists) → IsKept valid meaning undone network c now floor es lists
    → (m : M) → slice_get network.models c ≡ Some m → IsKeptBy (valid m) (meaning m) (undone m) c now floor es lists
kept_at valid meaning undone network c now floor es lists kept m is =
    subst (λ x. IsKeptBy (valid x) (meaning x) (undone x) c now floor es lists) (same_Some kept.model m (sym kept.there ∙ is)) kept.by

-- ---- How many nodes there are

pub consumed_by_shown : {S R : Type 0} (es : List (Entry S R)) (a c : List Message) → total_consumed es ≡ length a → consumed_by (shown es a c) ≡ a
consumed_by_shown [] [] c is = refl
consumed_by_shown [] (x ∷ a) c is = absurd (omega (arith, is))
consumed_by_shown (e ∷ es) a c is =
    ap (λ l. take e.consumed a ++ l) (consumed_by_shown es (drop e.consumed a) (drop e.sent c) (omega (arith, is, length-drop e.consumed a)))
    ∙ take-append-drop e.consumed a

pub sent_by_shown : {S R : Type 0} (es : List (Entry S R)) (a c : List Message) → total_sent es ≡ length c → sent_by (shown es a c) ≡ c
sent_by_shown [] a [] is = refl
sent_by_shown [] a (x ∷ c) is = absurd (omega (arith, is))
sent_by_shown (e ∷ es) a c is =
    ap (λ l. take e.sent c ++ l) (sent_by_shown es (drop e.consumed a) (drop e.sent c) (omega (arith, is, length-drop e.sent c)))
    ∙ take-append-drop e.sent c

-- the lists have as many nodes as the contents say
pub live_shown : {M S R : Type 0} (valid : S → Type 0) (m : Meaning S) (undone : Turn → S → ℕ → Bag → R → S) (network : NetworkContents M) (c : ℕ) (now : Moment S) (line : ℕ) (way : Cancel) (floor : ℕ) (es : List (Entry S R)) (lists : Lists)
    → IsKeptBy valid m undone c now floor es lists → live (seen network c now line way floor es lists).process ≡ lists_count lists
live_shown valid m undone network c now line way floor es lists kept =
    omega (arith, ap length (consumed_by_shown es lists.consumed lists.sent kept.consumed_is), ap length (sent_by_shown es lists.consumed lists.sent kept.sent_is), length-append (consumed_by (shown es lists.consumed lists.sent)) lists.pending)

-- ---- The last stamp

pub length_shown : {S R : Type 0} (es : List (Entry S R)) (a b : List Message) → length (shown es a b) ≡ length es
length_shown [] a b = refl
length_shown (e ∷ es) a b = ap suc (length_shown es (drop e.consumed a) (drop e.sent b))

pub last_shown : {S R : Type 0} (es : List (Entry S R)) (e : Entry S R) (a b : List Message) → 0 < length es → e ≡ slice_index_or es (length es - 1) e → last_stamp_of (shown es a b) ≡ Some e.step.done.stamp
last_shown [] e a b some is = absurd (omega (arith, some))
last_shown (x ∷ []) e a b some is = ap (λ (y : Entry _ _). Some y.step.done.stamp) (sym is)
last_shown (x ∷ y ∷ es) e a b some is =
    let one : length (x ∷ y ∷ es) - 1 ≡ suc (length (y ∷ es) - 1) = omega arith in
    last_shown (y ∷ es) e (drop x.consumed a) (drop x.sent b) (omega arith) (is ∙ ap (λ n. slice_index_or (x ∷ y ∷ es) n e) one)

pub stood_before : {S : Type 0} (valid : S → Type 0) (m : Meaning S) (floor s : ℕ) (steps : List (Step S)) → Stood valid m floor steps → last_stamp_of steps ≡ Some s → AllBefore (s + 1) steps
stood_before valid m floor s [] chain is = tt
stood_before valid m floor s (x ∷ []) chain is = let same : x.entry.stamp ≡ s = cc in (omega (arith, same), tt)
stood_before valid m floor s (x ∷ y ∷ steps) chain is =
    let rest = stood_before valid m (x.entry.stamp + 1) s (y ∷ steps) chain.3 is in
    let low = chain.3.1 in
    let high = rest.0 in
    (omega (arith, low, high), rest)

-- where there is no first or last step there is none
pub no_steps : {X : Type 0} (xs : List X) (n : ℕ) → n ≡ length xs → (0 < n → false ≡ true) → xs ≡ []
no_steps [] n is none = refl
no_steps (x ∷ xs) n is none = let some = none (omega (arith, is)) in absurd (cc)
