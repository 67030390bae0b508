-- A component that stands between its steps can make the turn that is due, and stands so after its next step.
use Rattle.std.proofs.Common.{◌≡◌, ◌≢◌, ℕ, ℤ, ◌+◌, ◌-◌, ◌<◌, ◌≤◌, ◌==◌, ◌&&◌, ◌||◌, inl, inr, List, [], ◌∷◌, ◌++◌, Bool, true, false, nat_lt, nat_le, int_le, int_lt, cond, Option, Some, None, Ok, Err, refl, sym, ap, ◌∙◌, subst, ⊎_elim, arith, min}
use Rattle.std.specs.List.{AllByRecursion as Each}
use Rattle.std.specs.Ordering.{int_eq, is_le, is_eq}
use Rattle.std.specs.declared.cmp.Ordering.TheVariants.{Less, Equal, Greater}
use Rattle.std.proofs.lemmas.Bool.{cond-true, cond-false, cond_both, eqb-true, eqb-false, leb-true, eq-eqb, le-ltb, cases_eq}
use Rattle.tw_atomic.specs.Atomic.{Meaning, IsDue, CanTurn, FitsBag}
use Rattle.tw_atomic.specs.declared.Turn.TheVariants as turns
use Rattle.tw_msgs.specs.Bags.{Bag, IsSorted, by_port}
use Rattle.tw_msgs.specs.Messages.{Sorted, at_or_before}
use Rattle.tw_msgs.specs.declared.message.Message.{Message}
use Rattle.tw_msgs.proofs.Orders.{int_le-is}
use Rattle.tw_vtime.specs.Advance.{advanced, next_microstep, later_tick}
use Rattle.tw_vtime.specs.Stamps.{max_tick, max_microstep, never, stamp, tick_of, micro_of, phase_of}
use Rattle.tw_theory.specs.Bundles.{front, behind, items_of, messages_for, first_stamp}
use Rattle.tw_theory.specs.LocalRun.{next_of}
use Rattle.tw_theory.specs.Standing.{IsTied, IsStanding, CanTake, IsReady}
use Rattle.tw_theory.specs.Transitions.{Moment, due_of, turn}
use Rattle.tw_theory.proofs.Elements.{each_parts, each_weaker}
use Rattle.tw_theory.proofs.MessageOrder.{ascending_of_sorted, sorted_right}
use Rattle.tw_theory.proofs.Steps.{front-behind, front_at, behind_strict}

-- ---- Bags

item_le : (a b : ℤ) (r : Bool) → (int_lt a b || int_eq a b && r) ≡ true → int_le a b ≡ true
item_le a b r h = int_le-is a b ∙ go (int_lt a b) (int_lt b a) h
  where
    go : (l g : Bool) → (l || is_eq (cond l Less (cond g Greater Equal)) && r) ≡ true → is_le (cond l Less (cond g Greater Equal)) ≡ true
    go true g h = refl
    go false true h = absurd (cc)
    go false false h = refl

in_order_from : (lt eq plt peq v vle : Bool) → lt ≡ false → (v ≡ true → vle ≡ true) → (lt || eq && (plt || peq && v)) ≡ true → (plt || peq && vle) ≡ true
in_order_from true eq plt peq v vle not f h = absurd (cc)
in_order_from false false plt peq v vle not f h = absurd (cc)
in_order_from false true true peq v vle not f h = refl
in_order_from false true false true v vle not f h = f h
in_order_from false true false false v vle not f h = absurd (cc)

by_port_of : (m n : Message) → m.stamp ≡ n.stamp → at_or_before m n ≡ true → by_port (m.port, m.value) (n.port, n.value) ≡ true
by_port_of m n same h =
    in_order_from (nat_lt m.stamp n.stamp) (m.stamp == n.stamp) (nat_lt m.port n.port) (m.port == n.port) (int_lt m.value n.value || int_eq m.value n.value && nat_le m.to n.to) (int_le m.value n.value)
    (le-ltb m.stamp n.stamp (omega (arith, same))) (item_le m.value n.value (nat_le m.to n.to)) h

-- messages of one stamp that stand in order make a sorted bag
pub sorted_items : (s : ℕ) (ms : List Message) → Each (λ x. x.stamp ≡ s) ms → Sorted ms → IsSorted (items_of ms)
sorted_items s [] at sorted = tt
sorted_items s (m ∷ []) at sorted = (tt, tt)
sorted_items s (m ∷ n ∷ ms) at sorted = (by_port_of m n (at.0 ∙ sym at.1.0) sorted.0, sorted_items s (n ∷ ms) at.1 sorted.1)

pub sorted_left : (xs ys : List Message) → Sorted (xs ++ ys) → Sorted xs
sorted_left [] ys h = tt
sorted_left (x ∷ []) ys h = (tt, tt)
sorted_left (x ∷ y ∷ xs) ys h = (h.0, sorted_left (y ∷ xs) ys h.1)

-- what a component can take comes before the end
pub before_never : (c : ℕ) (ms : List Message) → Each (CanTake c) ms → Each (λ m. m.stamp < never) ms
before_never c ms h = each_weaker (CanTake c) (λ m. m.stamp < never) (λ m k. k.before_end) ms h

fits_items : (c : ℕ) (ms : List Message) → Each (CanTake c) ms → FitsBag (items_of ms)
fits_items c [] h = tt
fits_items c (m ∷ ms) h = (h.0.fits, fits_items c ms h.1)

-- the bag tells which messages were consumed
pub front_for : (c s : ℕ) (ms : List Message) → Each (CanTake c) ms → front s ms ≡ messages_for c s (items_of (front s ms))
front_for c s [] h = refl
front_for c s (m ∷ ms) h =
    cond_both (m.stamp == s) (m ∷ front s ms) [] (λ l. l ≡ messages_for c s (items_of l))
    (λ e. let stamp_is = eqb-true m.stamp s e in let rest = front_for c s ms h.1 in
    λ i. record { stamp = stamp_is i; port = m.port; value = m.value; to = h.0.to i } ∷ rest i)
    (λ e. refl)

-- ---- The turn that is due

tied_now : (ta : Option ℕ) (last due s : ℕ) → IsTied ta last due → due ≡ s → s < never → ta ≡ Some (tick_of s - tick_of last)
tied_now None last due s tied is top = absurd (omega (arith, tied, is, top))
tied_now (Some a) last due s (inl h) is top = let z = h.0 in let t = h.1 in let w : a ≡ tick_of s - tick_of last = omega (arith, z, t, is) in ap Some w
tied_now (Some a) last due s (inr h) is top = let z = h.0 in let t = h.1 in let w : a ≡ tick_of s - tick_of last = omega (arith, z, t, is) in ap Some w

waiting : (a last due s floor : ℕ) → IsTied (Some a) last due → (Some a ≡ Some 0 → due ≤ floor) → floor ≤ s → s < due → phase_of s ≡ 1 → tick_of s - tick_of last < a
waiting a last due s floor (inl h) soon from less odd = let k = soon (ap Some h.0) in absurd (omega (arith, k, from, less))
waiting a last due s floor (inr h) soon from less odd = let z = h.0 in let t = h.1 in omega (arith, z, t, less, odd)

not_nil : (x : ℕ × ℤ) (xs : Bag) → x ∷ xs ≢ []
not_nil x xs h = cc h

due_ext : (ta : Option ℕ) (last due s floor : ℕ) (x : ℕ × ℤ) (xs : Bag) → IsTied ta last due → (ta ≡ Some 0 → due ≤ floor) → floor ≤ s → s < due → phase_of s ≡ 1 → IsDue ta turns.Ext (tick_of s - tick_of last) (x ∷ xs)
due_ext None last due s floor x xs tied soon from less odd = not_nil x xs
due_ext (Some a) last due s floor x xs tied soon from less odd = (waiting a last due s floor tied soon from less odd, not_nil x xs)

pub turn_due : (ta : Option ℕ) (last due s floor : ℕ) (b : Bool) (bag : Bag) → (due == s) ≡ b → (b ≡ false → bag ≢ []) → IsTied ta last due → (ta ≡ Some 0 → due ≤ floor) → floor ≤ s → s ≤ due → s < never → phase_of s ≡ 1 → IsDue ta (turn b bag) (tick_of s - tick_of last) bag
turn_due ta last due s floor true [] is some tied soon from le top odd = (tied_now ta last due s tied (eqb-true due s is) top, refl)
turn_due ta last due s floor true (x ∷ xs) is some tied soon from le top odd = (tied_now ta last due s tied (eqb-true due s is) top, not_nil x xs)
turn_due ta last due s floor false [] is some tied soon from le top odd = absurd (some refl refl)
turn_due ta last due s floor false (x ∷ xs) is some tied soon from le top odd = let d = eqb-false due s is in due_ext ta last due s floor x xs tied soon from (omega (arith, d, le)) odd

some_front : (s due : ℕ) (ms : List Message) → s ≡ min due (first_stamp ms) → s < never → (due == s) ≡ false → items_of (front s ms) ≢ []
some_front s due [] is top differs none = let d = eqb-false due s differs in omega (arith, is, top, d)
some_front s due (m ∷ ms) is top differs none =
    let d = eqb-false due s differs in
    let same : m.stamp ≡ s = omega (arith, is, d) in
    let t = eq-eqb m.stamp s same in
    let bag : (m.port, m.value) ∷ items_of (front s ms) ≡ [] = sym (ap (λ b. items_of (cond b (m ∷ front s ms) [])) t) ∙ none in
    cc bag

pub can_turn : {S : Type 0} (IsValid : S → Type 0) (m : Meaning S) (c : ℕ) (now : Moment S) (floor s : ℕ) (pending : List Message) → IsStanding IsValid m now floor → floor ≤ first_stamp pending → Sorted pending → Each (CanTake c) pending
    → s ≡ next_of now pending → s < never → phase_of s ≡ 1 → CanTurn IsValid m (turn (now.due == s) (items_of (front s pending))) now.state (tick_of s - tick_of now.last) (items_of (front s pending))
can_turn IsValid m c now floor s pending at from sorted taken is top odd =
    let parts = front-behind s pending in
    let low = at.from in
    record {
      valid = at.valid;
      due = turn_due (m.ta now.state) now.last now.due s floor (now.due == s) (items_of (front s pending)) refl (some_front s now.due pending is top) at.tied at.soon (omega (arith, is, from, low)) (omega (arith, is)) top odd;
      sorted = sorted_items s (front s pending) (front_at s pending) (sorted_left (front s pending) (behind s pending) (subst Sorted (sym parts) sorted));
      elapsed_fits = omega (arith, top);
      bag_fits = fits_items c (front s pending) (each_parts (CanTake c) (front s pending) (behind s pending) (subst (Each (CanTake c)) (sym parts) taken)).0;
    }

-- ---- After a step

pub tied_output : (ta : Option ℕ) (last s : ℕ) → IsTied ta last s → s < never → phase_of s ≡ 0 → IsTied ta last (s + 1)
tied_output None last s tied top even = absurd (omega (arith, tied, top))
tied_output (Some a) last s (inl h) top even = let t = h.1 in inl (h.0, omega (arith, t, even))
tied_output (Some a) last s (inr h) top even = let t = h.1 in inr (h.0, omega (arith, t, even))

pub after_output : {S : Type 0} (IsValid : S → Type 0) (m : Meaning S) (now : Moment S) (floor s : ℕ) → IsStanding IsValid m now floor → now.due ≡ s → s < never → phase_of s ≡ 0 → IsStanding IsValid m (record { state = now.state; last = now.last; due = s + 1 }) (s + 1)
after_output IsValid m now floor s at is top even =
    record {
      valid = at.valid;
      last_is = at.last_is;
      tied = tied_output (m.ta now.state) now.last s (subst (λ d. IsTied (m.ta now.state) now.last d) is at.tied) top even;
      soon = λ z. omega arith;
      from = omega arith;
    }

pub record IsAfter (ta : Option ℕ) (s due : ℕ) : Type 0 where
  pub tied : IsTied ta (s - 1) due
  pub soon : ta ≡ Some 0 → due ≤ s + 1
  pub from : s + 1 ≤ due

due_micro : (s limit : ℕ) (o : Option ℕ) → phase_of s ≡ 1 → limit ≤ max_microstep → (b : Bool) → nat_le (micro_of s + 1) limit ≡ b → next_microstep (tick_of s) (micro_of s) limit ≡ Ok o → (due_of o ≡ s + 1) × (tick_of (due_of o) ≡ tick_of (s - 1))
due_micro s limit o p m true b e =
    let l : micro_of s + 1 ≤ limit = leb-true (micro_of s + 1) limit b in
    let q : Ok (Some (stamp (tick_of s) (micro_of s + 1) 0)) ≡ Ok o = sym (cond-true (nat_le (micro_of s + 1) limit) _ _ b) ∙ e in
    let w : o ≡ Some (stamp (tick_of s) (micro_of s + 1) 0) = cc q in
    let d : due_of o ≡ stamp (tick_of s) (micro_of s + 1) 0 = ap due_of w in
    let is : due_of o ≡ s + 1 = omega (arith, d, l, m, p) in
    (is, omega (arith, d, l, m, p))
due_micro s limit o p m false b e =
    let q : Err _ ≡ Ok o = sym (cond-false (nat_le (micro_of s + 1) limit) _ _ b) ∙ e in
    absurd (cc q)

due_later : (s a : ℕ) (o : Option ℕ) → (b : Bool) → nat_le (tick_of s + a) max_tick ≡ b → later_tick (tick_of s + a) ≡ Ok o → due_of o ≡ stamp (tick_of s + a) 0 0
due_later s a o true b e =
    let q : Ok (Some (stamp (tick_of s + a) 0 0)) ≡ Ok o = sym (cond-true (nat_le (tick_of s + a) max_tick) _ _ b) ∙ e in
    let w : o ≡ Some (stamp (tick_of s + a) 0 0) = cc q in
    ap due_of w
due_later s a o false b e =
    let q : Err _ ≡ Ok o = sym (cond-false (nat_le (tick_of s + a) max_tick) _ _ b) ∙ e in
    absurd (cc q)

some_zero : (a : ℕ) → Some a ≡ Some 0 → a ≡ 0
some_zero a e = cc e

advanced_after : (s limit : ℕ) (ta o : Option ℕ) → s < never → phase_of s ≡ 1 → limit ≤ max_microstep → advanced s ta limit ≡ Ok o → IsAfter ta s (due_of o)
advanced_after s limit None o top p m e =
    let w : o ≡ None = cc e in
    let d : due_of o ≡ never = ap due_of w in
    record { tied = d; soon = λ z. absurd (cc z); from = omega (arith, d, top) }
advanced_after s limit (Some a) o top p m e =
    ⊎_elim
    (λ z.
    let q : next_microstep (tick_of s) (micro_of s) limit ≡ Ok o = sym (cond-true (a == 0) _ _ (eq-eqb a 0 z)) ∙ e in
    let r = due_micro s limit o p m _ refl q in
    let d = r.0 in
    let t = r.1 in
    record { tied = inl (z, t); soon = λ k. omega (arith, d); from = omega (arith, d) })
    (λ n.
    let q : later_tick (tick_of s + a) ≡ Ok o = sym (cond-false (a == 0) _ _ (not_zero a n)) ∙ e in
    let d = due_later s a o _ refl q in
    record {
      tied = inr (omega (arith, n), omega (arith, d, p));
      soon = λ k. absurd (n (some_zero a k));
      from = omega (arith, d, n);
    })
    (cases_eq a 0)
  where
    not_zero : (a : ℕ) → a ≢ 0 → (a == 0) ≡ false
    not_zero a n = go (a == 0) refl
      where
        go : (b : Bool) → (a == 0) ≡ b → (a == 0) ≡ false
        go true is = absurd (n (eqb-true a 0 is))
        go false is = is

pub after_transition : {S : Type 0} (IsValid : S → Type 0) (m : Meaning S) (state : S) (s limit : ℕ) (o : Option ℕ) → IsValid state → s < never → phase_of s ≡ 1 → limit ≤ max_microstep → advanced s (m.ta state) limit ≡ Ok o
    → IsStanding IsValid m (record { state = state; last = s - 1; due = due_of o }) (s + 1)
after_transition IsValid m state s limit o fits top odd small e =
    let at = advanced_after s limit (m.ta state) o top odd small e in
    record { valid = fits; last_is = omega (arith, top); tied = at.tied; soon = at.soon; from = at.from }

-- ---- A component with messages to come

module _ {S : Type 0} (IsValid : S → Type 0) (m : Meaning S) (c : ℕ) (now : Moment S) (messages : List Message) (ready : IsReady IsValid m c now messages) where
  pub ready_turn : (s : ℕ) → s ≡ next_of now messages → s < never → phase_of s ≡ 1
      → CanTurn IsValid m (turn (now.due == s) (items_of (front s messages))) now.state (tick_of s - tick_of now.last) (items_of (front s messages))
  ready_turn s is top odd = can_turn IsValid m c now ready.floor s messages ready.stands ready.from ready.sorted ready.takes is top odd

  unfoldable pub ready_output : (s : ℕ) → s ≡ next_of now messages → s < never → phase_of s ≡ 0 → IsReady IsValid m c (record { state = now.state; last = now.last; due = s + 1 }) messages
  ready_output s is top even =
      let first = first_odd messages ready.takes in
      let due_is : now.due ≡ s = omega (arith, is, even, first) in
      record {
        floor = s + 1;
        stands = after_output IsValid m now ready.floor s ready.stands due_is top even;
        sorted = ready.sorted;
        takes = ready.takes;
        from = omega (arith, is, even, first);
      }
    where
      first_odd : (ms : List Message) → Each (CanTake c) ms → phase_of (first_stamp ms) ≡ 1
      first_odd [] h = refl
      first_odd (x ∷ xs) h = h.0.phase

  unfoldable pub ready_transition : (s limit : ℕ) (state : S) (due : Option ℕ) → s ≡ next_of now messages → s < never → phase_of s ≡ 1 → limit ≤ max_microstep → IsValid state → advanced s (m.ta state) limit ≡ Ok due
      → IsReady IsValid m c (record { state = state; last = s - 1; due = due_of due }) (behind s messages)
  ready_transition s limit state due is top odd small valid adv =
      let parts = front-behind s messages in
      record {
        floor = s + 1;
        stands = after_transition IsValid m state s limit due valid top odd small adv;
        sorted = sorted_right (front s messages) (behind s messages) (subst Sorted (sym parts) ready.sorted);
        takes = (each_parts (CanTake c) (front s messages) (behind s messages) (subst (Each (CanTake c)) (sym parts) ready.takes)).1;
        from = (let later = behind_strict s messages top (ascending_of_sorted messages (before_never c messages ready.takes) ready.sorted) (omega (arith, is)) in omega (arith, later));
      }
