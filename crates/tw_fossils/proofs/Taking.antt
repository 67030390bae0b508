-- What merging columns keeps, as the first record of the column that comes next is taken.
use Rattle.std.proofs.Common.{◌≡◌, ℕ, zero, suc, ◌+◌, ◌<◌, ◌≤◌, List, [], ◌∷◌, ◌++◌, length, map, append-nil, append_assoc, Some, refl, sym, ap, ap₂, ◌∙◌, subst, subst₂, arith, inl, inr, ⊎_elim, get_or-set_same, get_or-set_other}
use Rattle.std.specs.Option.{option_map}
use Rattle.std.specs.Prelude.{◌⊎◌, ◌==◌, ◌≢◌, nat_lt, slice_get, slice_index_or, slice_set}
use Rattle.std.specs.List.{AllByRecursion as Each}
use Rattle.std.proofs.lemmas.Bool.{cond-true, cond-false, cond_both, eq-eqb, ne_eqb, cases_eq, ltb-true, ltb-false, lt-ltb}
use Rattle.std.proofs.lemmas.List.{get_or-map, length-map, map-set}
use Rattle.std.proofs.lemmas.List.Elements.{filter-append}
use Rattle.std.proofs.lemmas.Option.{same_Some, slice_get-get_or, slice_get-map, slice_get_within}
use Rattle.tw_fossils.specs.Columns.{IsRising, IsColumn, AreColumns}
use Rattle.tw_fossils.specs.Merging.{head_before, to_take, IsMerging, IsReady}
use Rattle.tw_msgs.specs.declared.record.Record.{Record}
use Rattle.tw_laws.proofs.Merging.{none_before}
use Rattle.tw_theory.proofs.Elements.{each-append, each_weaker}
use Rattle.tw_theory.specs.Executive.{column_of}
use Rattle.tw_theory.specs.Traces.{Precedes, IsTrace, before, of_component}
use Rattle.tw_tournament.specs.Times.{IsFirst, NoneFirst}
use Rattle.tw_vtime.specs.Stamps.{never, IsStamp}

-- of what is left, column c comes next, with x and then rs: x is before the line, and no other column begins with an earlier one
pub record IsNext (line : ℕ) (left : List (List Record)) (c : ℕ) (x : Record) (rs : List Record) : Type 0 where
  pub near : c < length left
  pub at : column_of left c ≡ x ∷ rs
  pub early : x.stamp < line
  pub least : (d : ℕ) (y : Record) (ys : List Record) → column_of left d ≡ y ∷ ys → (x.stamp < y.stamp) ⊎ ((x.stamp ≡ y.stamp) × (c ≤ d))

-- ---- the heads of what is left

head_is : (line : ℕ) (left : List (List Record)) (heads : List ℕ) (c : ℕ) → heads ≡ map (head_before line) left → c < length left → slice_get heads c ≡ Some (head_before line (column_of left c))
head_is line left heads c are near = ap (λ l. slice_get l c) are ∙ slice_get-map (head_before line) left c ∙ ap (option_map (head_before line)) (slice_get-get_or left c [] near)

not_past : (left : List (List Record)) (d : ℕ) (y : Record) (ys : List Record) → column_of left d ≡ y ∷ ys → d < length left
not_past [] d y ys at = absurd (cc)
not_past (l ∷ left) zero y ys at = omega arith
not_past (l ∷ left) (suc d) y ys at = let rest = not_past left d y ys at in omega arith

pub is_near : (line : ℕ) (left : List (List Record)) (heads : List ℕ) (t c : ℕ) → heads ≡ map (head_before line) left → IsFirst heads t c → c < length left
is_near line left heads t c are first = omega (arith, slice_get_within heads c t first.at, ap length are, length-map left (head_before line))

head_there : (line : ℕ) (left : List (List Record)) (heads : List ℕ) (t c : ℕ) → heads ≡ map (head_before line) left → IsFirst heads t c → head_before line (column_of left c) ≡ t
head_there line left heads t c are first = same_Some _ _ (sym (head_is line left heads c are (is_near line left heads t c are first)) ∙ first.at)

-- the column of the first head is not empty
not_empty : (line : ℕ) (left : List (List Record)) (heads : List ℕ) (t c : ℕ) → heads ≡ map (head_before line) left → IsFirst heads t c → column_of left c ≡ [] → ⊥
not_empty line left heads t c are first none =
    let end : never ≡ t = sym (ap (head_before line) none) ∙ head_there line left heads t c are first in
    absurd (omega (arith, end, first.before_end))

-- and comes next
is_next : (line : ℕ) (left : List (List Record)) (heads : List ℕ) (t c : ℕ) (x : Record) (rs : List Record) → heads ≡ map (head_before line) left → IsFirst heads t c → column_of left c ≡ x ∷ rs → IsNext line left c x rs
is_next line left heads t c x rs are first at = record { near = is_near line left heads t c are first; at = at; early = own.1; least = others }
  where
    own : (x.stamp ≡ t) × (x.stamp < line)
    own =
        cond_both (nat_lt x.stamp line) x.stamp never (λ n. n ≡ t → (x.stamp ≡ t) × (x.stamp < line)) (λ e h. (h, ltb-true x.stamp line e)) (λ e h. absurd (omega (arith, h, first.before_end)))
        (sym (ap (head_before line) at) ∙ head_there line left heads t c are first)

    others : (d : ℕ) (y : Record) (ys : List Record) → column_of left d ≡ y ∷ ys → (x.stamp < y.stamp) ⊎ ((x.stamp ≡ y.stamp) × (c ≤ d))
    others d y ys there =
        cond_both (nat_lt y.stamp line) y.stamp never (λ n. (t < n) ⊎ ((t ≡ n) × (c ≤ d)) → (x.stamp < y.stamp) ⊎ ((x.stamp ≡ y.stamp) × (c ≤ d)))
        (λ e h. ⊎_elim (λ l. inl (omega (arith, l, own.0))) (λ k. inr (own.0 ∙ k.0, k.1)) h)
        (λ e h. let far = ltb-false y.stamp line e in inl (omega (arith, far, own.1)))
        (first.least d (head_before line (y ∷ ys)) (head_is line left heads d are (not_past left d y ys there) ∙ ap (λ l. Some (head_before line l)) there))

-- the same, of columns that are shown by other values
module _ {X : Type 0} (show : X → List Record) (items : List X) (line : ℕ) (heads : List ℕ) (t c : ℕ) (y : X) (are : heads ≡ map (head_before line) (map show items)) (first : IsFirst heads t c) (at : y ≡ slice_index_or items c y) where
  its_column : column_of (map show items) c ≡ show y
  its_column = get_or-map show items c y [] (omega (arith, is_near line (map show items) heads t c are first, length-map items show)) ∙ ap show (sym at)

  pub shown_next : (x : Record) (rs : List Record) → show y ≡ x ∷ rs → IsNext line (map show items) c x rs
  shown_next x rs is = is_next line (map show items) heads t c x rs are first (its_column ∙ is)

  pub shown_some : show y ≡ [] → ⊥
  shown_some none = not_empty line (map show items) heads t c are first (its_column ∙ none)

-- ---- how many are to be taken

taken_here : (line : ℕ) (left : List (List Record)) (c : ℕ) (r : Record) (rs : List Record) → column_of left c ≡ r ∷ rs → r.stamp < line → to_take line (slice_set left c rs) + 1 ≡ to_take line left
taken_here line [] c r rs at early = absurd (cc)
taken_here line (l ∷ left) zero r rs at early =
    let one : length (before line (r ∷ rs)) ≡ suc (length (before line rs)) = ap length (cond-true (nat_lt r.stamp line) (r ∷ before line rs) (before line rs) (lt-ltb r.stamp line early)) in
    omega (arith, one, ap (λ column. length (before line column)) at)
taken_here line (l ∷ left) (suc c) r rs at early = omega (arith, taken_here line left c r rs at early)

-- ---- the trace so far, and what is left

trace_push : (rs : List Record) (y : Record) → IsTrace rs → Each (λ x. Precedes x y) rs → IsTrace (rs ++ y ∷ [])
trace_push [] y h k = (tt, tt)
trace_push (x ∷ rs) y h k = (each-append (Precedes x) rs (y ∷ []) h.0 (k.0, tt), trace_push rs y h.1 k.1)

each_both : (P Q : Record → Type 0) (rs : List Record) → Each P rs → Each Q rs → Each (λ r. P r × Q r) rs
each_both P Q [] h k = tt
each_both P Q (r ∷ rs) h k = ((h.0, k.0), each_both P Q rs h.1 k.1)

follow : (taken : List Record) (x : Record) (rs : List Record) → Each (λ y. Each (λ z. Precedes z y) taken) rs → Each (Precedes x) rs → Each (λ y. Each (λ z. Precedes z y) (taken ++ x ∷ [])) rs
follow taken x rs h k =
    each_weaker (λ y. Each (λ z. Precedes z y) taken × Precedes x y) (λ y. Each (λ z. Precedes z y) (taken ++ x ∷ [])) (λ y p. each-append (λ z. Precedes z y) taken (x ∷ []) p.0 (p.1, tt)) rs
    (each_both (λ y. Each (λ z. Precedes z y) taken) (Precedes x) rs h k)

-- of another column, which does not come before x, each record follows x
column_follows : (x : Record) (c d : ℕ) (rs : List Record) → x.component ≡ c → d ≢ c → IsColumn d rs
    → ((y : Record) (ys : List Record) → rs ≡ y ∷ ys → (x.stamp < y.stamp) ⊎ ((x.stamp ≡ y.stamp) × (c ≤ d))) → Each (Precedes x) rs
column_follows x c d [] is ne column least = tt
column_follows x c d (y ∷ ys) is ne column least =
    let own = column.own.0 in
    ⊎_elim
    (λ l. (inl l, each_weaker (λ z. y.stamp < z.stamp) (Precedes x) (λ z k. inl (omega (arith, l, k))) ys column.rising.0))
    (λ e. (inr (e.0, omega (arith, is, ne, own, e.1)), each_weaker (λ z. y.stamp < z.stamp) (Precedes x) (λ z k. inl (omega (arith, e.0, k))) ys column.rising.0))
    (least y ys refl)

module _ {line : ℕ} {columns left : List (List Record)} {taken : List Record} {c : ℕ} {x : Record} {rs : List Record} (next : IsNext line left c x rs) (m : IsMerging line columns left taken) where
  column : IsColumn c (x ∷ rs)
  column = subst (IsColumn c) next.at (m.own c)

  followed : Each (λ y. Each (λ z. Precedes z y) taken) (x ∷ rs)
  followed = subst (Each (λ y. Each (λ z. Precedes z y) taken)) next.at (m.later c)

  here : (d : ℕ) → d ≡ c → column_of (slice_set left c rs) d ≡ rs
  here d e = ap (column_of (slice_set left c rs)) e ∙ get_or-set_same left c rs [] next.near

  there : (d : ℕ) → d ≢ c → column_of (slice_set left c rs) d ≡ column_of left d
  there d ne = get_or-set_other left c d rs [] ne

  part_here : (d : ℕ) → d ≡ c → of_component d (taken ++ x ∷ []) ++ before line (column_of (slice_set left c rs) d) ≡ before line (column_of columns d)
  part_here d e =
      let mine : of_component d (taken ++ x ∷ []) ≡ of_component d taken ++ x ∷ [] =
      filter-append (λ r. r.component == d) taken (x ∷ []) ∙ ap (λ l. of_component d taken ++ l) (cond-true (x.component == d) (x ∷ []) [] (eq-eqb x.component d (column.own.0 ∙ sym e))) in
      let kept : before line (x ∷ rs) ≡ x ∷ before line rs = cond-true (nat_lt x.stamp line) _ _ (lt-ltb x.stamp line next.early) in
      ap₂ (λ (a b : List Record). a ++ before line b) mine (here d e)
      ∙ append_assoc (of_component d taken) (x ∷ []) (before line rs)
      ∙ ap (λ l. of_component d taken ++ l) (sym kept ∙ ap (before line) (sym (ap (column_of left) e ∙ next.at)))
      ∙ m.parts d

  part_there : (d : ℕ) → d ≢ c → of_component d (taken ++ x ∷ []) ++ before line (column_of (slice_set left c rs) d) ≡ before line (column_of columns d)
  part_there d ne =
      let other : of_component d (taken ++ x ∷ []) ≡ of_component d taken =
      filter-append (λ r. r.component == d) taken (x ∷ []) ∙ ap (λ l. of_component d taken ++ l) (cond-false (x.component == d) (x ∷ []) [] (ne_eqb x.component d (λ e. ne (sym e ∙ column.own.0)))) ∙ append-nil (of_component d taken) in
      ap₂ (λ (a b : List Record). a ++ before line b) other (there d ne) ∙ m.parts d

  -- the first record of the column that comes next is taken
  pub one_more : IsMerging line columns (slice_set left c rs) (taken ++ x ∷ [])
  one_more = record {
    ordered = trace_push taken x m.ordered followed.0;
    parts = λ d. ⊎_elim (part_here d) (part_there d) (cases_eq d c);
    own = λ d. ⊎_elim
        (λ e. subst₂ IsColumn (sym e) (sym (here d e)) (record { own = column.own.1; rising = column.rising.1 }))
        (λ ne. subst (IsColumn d) (sym (there d ne)) (m.own d)) (cases_eq d c);
    later = λ d. ⊎_elim
        (λ e. subst (Each (λ y. Each (λ z. Precedes z y) (taken ++ x ∷ []))) (sym (here d e))
        (follow taken x rs followed.1 (each_weaker (λ z. x.stamp < z.stamp) (Precedes x) (λ z l. inl l) rs column.rising.0)))
        (λ ne. subst (Each (λ y. Each (λ z. Precedes z y) (taken ++ x ∷ []))) (sym (there d ne))
        (follow taken x (column_of left d) (m.later d) (column_follows x c d (column_of left d) column.own.0 ne (m.own d) (next.least d))))
        (cases_eq d c);
  }

-- ---- one step

-- what is known after the first record of the column that comes next is taken
pub record Taken (line : ℕ) (left left' : List (List Record)) (heads' : List ℕ) (len' capacity' : ℕ) (taken taken' : List Record) : Type 0 where
  pub ready : IsReady line left' heads' len' capacity'
  pub fewer : to_take line left' + 1 ≡ to_take line left
  pub merging : (columns : List (List Record)) → IsMerging line columns left taken → IsMerging line columns left' taken'

pub has_room : {line : ℕ} {left : List (List Record)} {c : ℕ} {x : Record} {rs : List Record} {heads : List ℕ} {len capacity : ℕ} → IsNext line left c x rs → IsReady line left heads len capacity → len < capacity
has_room {line} {left} {c} {x} {rs} next ready = omega (arith, taken_here line left c x rs next.at next.early, ready.room)

pub take_one : {X : Type 0} (show : X → List Record) (items : List X) (line c : ℕ) (y : X) (x copy : Record) (heads heads' : List ℕ) (len capacity len' capacity' : ℕ) (taken taken' : List Record)
    → IsNext line (map show items) c x (show y) → IsReady line (map show items) heads len capacity
    → heads' ≡ slice_set heads c (head_before line (show y)) → len' ≡ len + 1 → capacity' ≡ capacity → copy ≡ x → taken' ≡ taken ++ copy ∷ []
    → Taken line (map show items) (map show (slice_set items c y)) heads' len' capacity' taken taken'
take_one show items line c y x copy heads heads' len capacity len' capacity' taken taken' next ready heads_is len_is capacity_is same taken_is =
    let left = map show items in
    let rs = show y in
    let is : map show (slice_set items c y) ≡ slice_set left c rs = map-set show items c y in
    let fewer = taken_here line left c x rs next.at next.early in
    subst (λ l. Taken line left l heads' len' capacity' taken taken') (sym is)
    (record {
      ready = record {
        heads_are = heads_is ∙ ap (λ l. slice_set l c (head_before line rs)) ready.heads_are ∙ sym (map-set (head_before line) left c rs);
        room = omega (arith, fewer, ready.room, len_is, capacity_is);
      };
      fewer = fewer;
      merging = λ columns m. subst (IsMerging line columns (slice_set left c rs)) (sym (taken_is ∙ ap (λ r. taken ++ r ∷ []) same)) (one_more next m);
    })

-- ---- the beginning and the end

own_at : (b c k : ℕ) (columns : List (List Record)) → c ≡ b + k → AreColumns b columns → IsColumn c (column_of columns k)
own_at b c k [] e h = record { own = tt; rising = tt }
own_at b c zero (column ∷ columns) e h = let same : b ≡ c = omega arith in subst (λ i. IsColumn i column) same h.0
own_at b c (suc k) (column ∷ columns) e h = own_at (suc b) c k columns (omega arith) h.1

follow_none : (rs : List Record) → Each (λ y. Each (λ x. Precedes x y) []) rs
follow_none [] = tt
follow_none (r ∷ rs) = (tt, follow_none rs)

none_taken : (line : ℕ) (columns : List (List Record)) → AreColumns 0 columns → IsMerging line columns columns []
none_taken line columns all = record { ordered = tt; parts = λ c. refl; own = λ c. own_at 0 c c columns (omega arith) all; later = λ c. follow_none (column_of columns c) }

pub merging_from : (line : ℕ) (columns left : List (List Record)) (taken : List Record) → left ≡ columns → taken ≡ [] → AreColumns 0 columns → IsMerging line columns left taken
merging_from line columns left taken all none h = subst₂ (IsMerging line columns) (sym all) (sym none) (none_taken line columns h)

late : (line : ℕ) (left : List (List Record)) → NoneFirst (map (head_before line) left) → (c : ℕ) → never ≤ head_before line (column_of left c)
late line [] none c = omega arith
late line (l ∷ left) none zero = none 0 (head_before line l) refl
late line (l ∷ left) none (suc c) = late line left (λ d s at. none (suc d) s at) c

none_left : (line : ℕ) (rs : List Record) → line ≤ never → IsRising rs → never ≤ head_before line rs → before line rs ≡ []
none_left line [] bound rising head = refl
none_left line (r ∷ rs) bound rising head =
    let after : line ≤ r.stamp = cond_both (nat_lt r.stamp line) r.stamp never (λ n. never ≤ n → line ≤ r.stamp) (λ e h. omega (arith, bound, h)) (λ e h. ltb-false r.stamp line e) head in
    none_before line (r ∷ rs) (after, each_weaker (λ y. r.stamp < y.stamp) (λ y. line ≤ y.stamp) (λ y l. omega (arith, after, l)) rs rising.0)

-- where no head is left, all that is before the line was taken
pub all_taken : (line : ℕ) (columns left : List (List Record)) (taken : List Record) (heads : List ℕ) → IsStamp line → heads ≡ map (head_before line) left → NoneFirst heads → IsMerging line columns left taken
    → IsTrace taken × ((c : ℕ) → of_component c taken ≡ before line (column_of columns c))
all_taken line columns left taken heads stamp are none m =
    let bound : line ≤ never = ⊎_elim (λ l. omega (arith, l)) (λ e. omega (arith, e)) stamp in
    (m.ordered, λ c. sym (append-nil (of_component c taken)) ∙ ap (λ l. of_component c taken ++ l) (sym (none_left line (column_of left c) bound (m.own c).rising (late line left (subst NoneFirst are none) c))) ∙ m.parts c)
