-- The lines that records bring are the table of their run.
use Rattle.std.proofs.Common.{◌≡◌, ◌∙◌, ◌++◌, ◌<◌, ◌≤◌, ◌∷◌, [], ℕ, ℤ, List, Bool, true, false, cond, refl, sym, ap, subst, arith, append_assoc, append-nil, ⊎_elim}
use Rattle.std.specs.Prelude.{◌||◌, nat_lt}
use Rattle.std.specs.List.{AllByRecursion as Each}
use Rattle.std.proofs.lemmas.Bool.{cases_Bool, cond-true, cond-false, le-ltb, leb-false, leb-true, lt-ltb, or_left, or_parts, or_right}
use Rattle.std.proofs.lemmas.List.Elements.{filter-append}
use Rattle.std.proofs.lemmas.List.Folds.{list_any-append}
use Rattle.tw_msgs.specs.declared.record.Record.{Record}
use Rattle.tw_figures.specs.Figures.{IsSteady, before}
use Rattle.tw_vtime.specs.Stamps.{tick_of}
use Rattle.tw_record_lines.specs.FigureTables.{FigureTable, all_rows, changes, changes_at, figures_head, figures_text}
use Rattle.tw_record_lines.specs.Gathering.{is_from, is_opened, rows_at, rows_behind, rows_due}
use Rattle.tw_record_lines.proofs.Changing.{untold_changes}

-- ---- lines behind lines

pub behind_more : (t : FigureTable) (starts : List (List ℤ)) (front xs ys : List Record) → rows_behind t starts front (xs ++ ys) ≡ rows_behind t starts front xs ++ rows_behind t starts (front ++ xs) ys
behind_more t starts front [] ys = ap (λ l. rows_behind t starts l ys) (sym (append-nil front))
behind_more t starts front (x ∷ xs) ys =
    ap (λ l. rows_at t starts front x ++ l) (behind_more t starts (front ++ x ∷ []) xs ys)
    ∙ sym (append_assoc (rows_at t starts front x) (rows_behind t starts (front ++ x ∷ []) xs) (rows_behind t starts ((front ++ x ∷ []) ++ xs) ys))
    ∙ ap (λ l. (rows_at t starts front x ++ rows_behind t starts (front ++ x ∷ []) xs) ++ rows_behind t starts l ys) (append_assoc front (x ∷ []) xs)

-- ---- the first record at the first tick or later

pub or_none : (b : Bool) → b ≡ (b || false)
or_none true = refl
or_none false = refl

pub opened_more : (t : FigureTable) (front : List Record) (r : Record) → is_opened t (front ++ r ∷ []) ≡ (is_opened t front || (is_from t r || false))
opened_more t front r = list_any-append (is_from t) front (r ∷ [])

none_from : (t : FigureTable) (rs : List Record) → is_opened t rs ≡ false → before t.from rs ≡ rs
none_from t [] none = refl
none_from t (r ∷ rs) none =
    let parts = or_parts (is_from t r) (is_opened t rs) none in
    let early : tick_of r.stamp < t.from = leb-false t.from (tick_of r.stamp) parts.0 in
    cond-true (nat_lt (tick_of r.stamp) t.from) _ _ (lt-ltb (tick_of r.stamp) t.from early) ∙ ap (λ l. r ∷ l) (none_from t rs parts.1)

none_before : (from : ℕ) (rs : List Record) → Each (λ r. from ≤ tick_of r.stamp) rs → before from rs ≡ []
none_before from [] h = refl
none_before from (r ∷ rs) h = cond-false (nat_lt (tick_of r.stamp) from) _ _ (le-ltb (tick_of r.stamp) from h.0) ∙ none_before from rs h.1

-- behind a record at the first tick or later there is none before it
later : (front : List Record) (r : Record) (k : ℕ) (mid back : List Record) → IsSteady (front ++ r ∷ (mid ++ back)) → k ≤ tick_of r.stamp → Each (λ x. k ≤ tick_of x.stamp) back
later front r k mid [] steady l = tt
later front r k mid (x ∷ back) steady l =
    let apart : front ++ r ∷ (mid ++ x ∷ back) ≡ (front ++ r ∷ mid) ++ x ∷ back = sym (append_assoc front (r ∷ mid) (x ∷ back)) in
    let next = (steady.each (front ++ r ∷ mid) back x apart).0 in
    let rise = each_at front mid r (λ y. tick_of y.stamp ≤ tick_of x.stamp) next in
    let moved : front ++ r ∷ (mid ++ x ∷ back) ≡ front ++ r ∷ ((mid ++ x ∷ []) ++ back) = ap (λ m. front ++ r ∷ m) (sym (append_assoc mid (x ∷ []) back)) in
    (omega (arith, rise, l), later front r k (mid ++ x ∷ []) back (subst IsSteady moved steady) l)
  where
    each_at : (xs ys : List Record) (r : Record) (P : Record → Type 0) → Each P (xs ++ r ∷ ys) → P r
    each_at [] ys r P h = h.0
    each_at (z ∷ xs) ys r P h = each_at xs ys r P h.1

split_here : (t : FigureTable) (front : List Record) (r : Record) (rs : List Record) → IsSteady (front ++ r ∷ rs) → is_opened t front ≡ false → is_from t r ≡ true → before t.from (front ++ r ∷ rs) ≡ front
split_here t front r rs steady none from =
    let k : t.from ≤ tick_of r.stamp = leb-true t.from (tick_of r.stamp) from in
    filter-append (λ x. nat_lt (tick_of x.stamp) t.from) front (r ∷ rs)
    ∙ (λ i. none_from t front none i ++ none_before t.from (r ∷ rs) (k, later front r t.from [] rs steady k) i)
    ∙ append-nil front

-- ---- the whole table

-- what is still to come where records came before
abbrev to_come : FigureTable → List (List ℤ) → List Record → List Record → List ℕ
to_come t starts front records = cond (is_opened t front) [] (all_rows t 0 starts (before t.from (front ++ records)))

told : (t : FigureTable) (starts : List (List ℤ)) (front rs : List Record) → IsSteady (front ++ rs) → rows_behind t starts front rs ++ rows_due t starts (front ++ rs) ≡ to_come t starts front rs ++ changes t starts front rs
told t starts front [] steady = ⊎_elim
    (λ opened.
    ap (λ l. rows_due t starts l) (append-nil front) ∙ cond-true (is_opened t front) [] (all_rows t 0 starts front) opened
    ∙ sym (append-nil (to_come t starts front []) ∙ cond-true (is_opened t front) [] _ opened))
    (λ none.
    ap (λ l. rows_due t starts l) (append-nil front)
    ∙ cond-false (is_opened t front) [] (all_rows t 0 starts front) none
    ∙ sym (append-nil (to_come t starts front [])
    ∙ cond-false (is_opened t front) [] _ none
    ∙ ap (λ l. all_rows t 0 starts (before t.from l)) (append-nil front)
    ∙ ap (all_rows t 0 starts) (none_from t front none)))
    (cases_Bool (is_opened t front))
told t starts front (r ∷ rs) steady =
    let further = front ++ r ∷ [] in
    let moved : front ++ r ∷ rs ≡ further ++ rs = sym (append_assoc front (r ∷ []) rs) in
    let rest = told t starts further rs (subst IsSteady moved steady) in
    let due = cond (is_from t r) (rows_due t starts front) [] in
    let own = changes_at t starts front r in
    let behind = rows_behind t starts further rs in
    let more = changes t starts further rs in
    -- the lines of this record, and then those of the others
    let parted : rows_behind t starts front (r ∷ rs) ++ rows_due t starts (front ++ r ∷ rs) ≡ due ++ (own ++ (to_come t starts further rs ++ more)) =
    append_assoc (due ++ own) behind (rows_due t starts (front ++ r ∷ rs))
    ∙ ap (λ l. (due ++ own) ++ (behind ++ rows_due t starts l)) moved
    ∙ ap (λ l. (due ++ own) ++ l) rest
    ∙ append_assoc due own (to_come t starts further rs ++ more) in
    let goal = to_come t starts front (r ∷ rs) ++ (own ++ more) in
    parted
    ∙ ⊎_elim
    (λ opened.
    let on : is_opened t further ≡ true = opened_more t front r ∙ or_left (is_opened t front) (is_from t r || false) opened in
    let nothing : due ≡ [] = due_opened t starts front r opened in
    (λ i. nothing i ++ (own ++ (cond-true (is_opened t further) [] (all_rows t 0 starts (before t.from (further ++ rs))) on i ++ more)))
    ∙ ap (λ l. l ++ (own ++ more)) (sym (cond-true (is_opened t front) [] (all_rows t 0 starts (before t.from (front ++ r ∷ rs))) opened)))
    (λ none. ⊎_elim
    (λ from.
    let on : is_opened t further ≡ true = opened_more t front r ∙ or_right (is_opened t front) (is_from t r || false) (or_left (is_from t r) false from) in
    let all : due ≡ all_rows t 0 starts front = cond-true (is_from t r) (rows_due t starts front) [] from ∙ cond-false (is_opened t front) [] (all_rows t 0 starts front) none in
    let here = ap (all_rows t 0 starts) (sym (split_here t front r rs steady none from)) in
    (λ i. (all ∙ here) i ++ (own ++ (cond-true (is_opened t further) [] (all_rows t 0 starts (before t.from (further ++ rs))) on i ++ more)))
    ∙ ap (λ l. l ++ (own ++ more)) (sym (cond-false (is_opened t front) [] (all_rows t 0 starts (before t.from (front ++ r ∷ rs))) none)))
    (λ early.
    let on : is_opened t further ≡ false = opened_more t front r ∙ (λ i. none i || (early i || false)) in
    let nothing : due ≡ [] = cond-false (is_from t r) (rows_due t starts front) [] early in
    let silent = untold_changes t starts front r early in
    let same : to_come t starts further rs ≡ to_come t starts front (r ∷ rs) =
    cond-false (is_opened t further) [] (all_rows t 0 starts (before t.from (further ++ rs))) on
    ∙ ap (λ l. all_rows t 0 starts (before t.from l)) (sym moved)
    ∙ sym (cond-false (is_opened t front) [] (all_rows t 0 starts (before t.from (front ++ r ∷ rs))) none) in
    (λ i. nothing i ++ (silent i ++ (same i ++ more)))
    ∙ ap (λ l. to_come t starts front (r ∷ rs) ++ (l ++ more)) (sym silent))
    (cases_Bool (is_from t r)))
    (cases_Bool (is_opened t front))
  where
    due_opened : (t : FigureTable) (starts : List (List ℤ)) (front : List Record) (r : Record) → is_opened t front ≡ true → cond (is_from t r) (rows_due t starts front) [] ≡ []
    due_opened t starts front r opened = ⊎_elim
        (λ from. cond-true (is_from t r) (rows_due t starts front) [] from ∙ cond-true (is_opened t front) [] (all_rows t 0 starts front) opened)
        (λ early. cond-false (is_from t r) (rows_due t starts front) [] early)
        (cases_Bool (is_from t r))

-- the lines of all records of a run, and those that are due at its end
pub whole_table : (t : FigureTable) (starts : List (List ℤ)) (rs : List Record) → IsSteady rs → (figures_head ++ rows_behind t starts [] rs) ++ rows_due t starts rs ≡ figures_text t starts rs
whole_table t starts rs steady = append_assoc figures_head (rows_behind t starts [] rs) (rows_due t starts rs) ∙ ap (λ l. figures_head ++ l) (told t starts [] rs steady)

-- where a part of them came before
pub completed : (t : FigureTable) (starts : List (List ℤ)) (done more rs : List Record) → done ++ more ≡ rs → IsSteady rs
    → (figures_head ++ rows_behind t starts [] done) ++ (rows_behind t starts done more ++ rows_due t starts rs) ≡ figures_text t starts rs
completed t starts done more rs is steady =
    sym (append_assoc (figures_head ++ rows_behind t starts [] done) (rows_behind t starts done more) (rows_due t starts rs))
    ∙ ap (λ l. l ++ rows_due t starts rs)
    (append_assoc figures_head (rows_behind t starts [] done) (rows_behind t starts done more)
    ∙ ap (λ l. figures_head ++ l) (sym (behind_more t starts [] done more) ∙ ap (rows_behind t starts []) is))
    ∙ whole_table t starts rs steady
