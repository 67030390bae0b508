-- What one record more changes in a table of figures.
use Rattle.std.proofs.Common.{◌≡◌, ◌≢◌, ◌∙◌, ◌++◌, ◌+◌, ◌<◌, ◌≤◌, ◌∷◌, [], ℕ, zero, suc, ℤ, List, true, false, length, map, refl, sym, ap, arith, ⊎_elim, slice_set, slice_index_or}
use Rattle.std.specs.Prelude.{Some, None, slice_get, ◌&&◌, nat_lt}
use Rattle.std.proofs.lemmas.Bool.{and_from, and_left, and_right, cases_Bool, cases_eq, cases_lt, cond-true, cond-false, lt-ltb, le-ltb}
use Rattle.tw_msgs.specs.declared.record.Record.{Record}
use Rattle.tw_figures.specs.Figures.{is_transition, transitions, words_after}
use Rattle.tw_figures.proofs.Courses.{words_end}
use Rattle.tw_figures.proofs.Gathering.{own_more, other_more}
use Rattle.tw_figures.proofs.Members.{output_more, transition_more}
use Rattle.tw_theory.specs.Traces.{of_component}
use Rattle.tw_record_lines.specs.FigureRows.{changed_rows, valued_rows, values_in}
use Rattle.tw_record_lines.specs.FigureTables.{FigureTable, all_rows, cells_of, changes_at, changes_by, figures_of, first_cells, moves_of, values_at}
use Rattle.tw_record_lines.specs.Gathering.{all_values, changed_values, is_from, rows_of_change, rows_of_turn, rows_with, told_rows, turned_values}

-- ---- the transitions of a component

moves_out : (c : ℕ) (front : List Record) (r : Record) → is_transition r ≡ false → moves_of c (front ++ r ∷ []) ≡ moves_of c front
moves_out c front r out =
    ⊎_elim
    (λ same. ap transitions (own_more c front r same) ∙ output_more (of_component c front) r out)
    (λ ne. ap transitions (other_more c front r ne)) (cases_eq r.component c)

moves_other : (c : ℕ) (front : List Record) (r : Record) → r.component ≢ c → moves_of c (front ++ r ∷ []) ≡ moves_of c front
moves_other c front r ne = ap transitions (other_more c front r ne)

moves_own : (c : ℕ) (front : List Record) (r : Record) → r.component ≡ c → is_transition r ≡ true → moves_of c (front ++ r ∷ []) ≡ moves_of c front ++ r ∷ []
moves_own c front r same turn = ap transitions (own_more c front r same) ∙ transition_more (of_component c front) r turn

-- ---- values

values_own : (t : FigureTable) (c : ℕ) (start : List ℤ) (front : List Record) (r : Record) → r.component ≡ c → is_transition r ≡ true → values_at t c start (front ++ r ∷ []) ≡ values_in (figures_of t r.component) r.words
values_own t c start front r same turn =
    ap (λ ms. values_in (figures_of t c) (words_after start ms)) (moves_own c front r same turn)
    ∙ ap (values_in (figures_of t c)) (words_end start (moves_of c front) r)
    ∙ ap (λ d. values_in (figures_of t d) r.words) (sym same)

-- those of components whose transitions are the same
values_same : (t : FigureTable) (c : ℕ) (starts : List (List ℤ)) (xs ys : List Record) → ((d : ℕ) → c ≤ d → d < c + length starts → moves_of d xs ≡ moves_of d ys) → all_values t c starts xs ≡ all_values t c starts ys
values_same t c [] xs ys same = refl
values_same t c (start ∷ starts) xs ys same = λ i. values_in (figures_of t c) (words_after start (same c (omega arith) (omega arith) i)) ∷ values_same t (suc c) starts xs ys (λ d l m. same d (omega (arith, l)) (omega (arith, m))) i

values_set : (t : FigureTable) (c k : ℕ) (starts : List (List ℤ)) (front : List Record) (r : Record) → r.component ≡ c + k → is_transition r ≡ true → k < length starts
    → all_values t c starts (front ++ r ∷ []) ≡ slice_set (all_values t c starts front) k (values_in (figures_of t r.component) r.words)
values_set t c k [] front r is turn l = absurd (omega (arith, l))
values_set t c zero (start ∷ starts) front r is turn l = λ i.
    values_own t c start front r (omega (arith, is)) turn i
    ∷ values_same t (suc c) starts (front ++ r ∷ []) front (λ d m n. moves_other d front r (λ e. absurd (omega (arith, is, e, m)))) i
values_set t c (suc k) (start ∷ starts) front r is turn l = λ i.
    values_in (figures_of t c) (words_after start (moves_other c front r (λ e. absurd (omega (arith, is, e))) i))
    ∷ values_set t (suc c) k starts front r (omega (arith, is)) turn (omega (arith, l)) i

pub values_many : (t : FigureTable) (c : ℕ) (starts : List (List ℤ)) (records : List Record) → length (all_values t c starts records) ≡ length starts
values_many t c [] records = refl
values_many t c (start ∷ starts) records = ap suc (values_many t (suc c) starts records)

values_place : (t : FigureTable) (c k : ℕ) (starts : List (List ℤ)) (records : List Record) → k < length starts
    → slice_index_or (all_values t c starts records) k [] ≡ values_at t (c + k) (slice_index_or starts k []) records
values_place t c k [] records l = absurd (omega (arith, l))
values_place t c zero (start ∷ starts) records l = ap (λ d. values_at t d start records) (omega arith)
values_place t c (suc k) (start ∷ starts) records l =
    values_place t (suc c) k starts records (omega (arith, l)) ∙ ap (λ d. values_at t d (slice_index_or starts k []) records) (omega arith)

-- an output changes none
output_values : (t : FigureTable) (starts : List (List ℤ)) (front : List Record) (r : Record) → is_transition r ≡ false → all_values t 0 starts front ≡ all_values t 0 starts (front ++ r ∷ [])
output_values t starts front r out = values_same t 0 starts front (front ++ r ∷ []) (λ d l m. sym (moves_out d front r out))

-- a transition those of its component
transition_values : (t : FigureTable) (starts : List (List ℤ)) (front : List Record) (r : Record) → is_transition r ≡ true
    → changed_values t r (all_values t 0 starts front) ≡ all_values t 0 starts (front ++ r ∷ [])
transition_values t starts front r turn =
    let all = all_values t 0 starts front in
    let many = values_many t 0 starts front in
    let new = slice_set all r.component (values_in (figures_of t r.component) r.words) in
    ⊎_elim
    (λ l. cond-true (nat_lt r.component (length all)) new all (lt-ltb r.component (length all) l)
    ∙ sym (values_set t 0 r.component starts front r (omega arith) turn (omega (arith, l, many))))
    (λ l. cond-false (nat_lt r.component (length all)) new all (le-ltb r.component (length all) l)
    ∙ values_same t 0 starts front (front ++ r ∷ []) (λ d m n. sym (moves_other d front r (λ e. absurd (omega (arith, l, many, n, e))))))
    (cases_lt r.component (length all))

-- a record's
pub turned_all : (t : FigureTable) (starts : List (List ℤ)) (front : List Record) (r : Record) → turned_values t r (all_values t 0 starts front) ≡ all_values t 0 starts (front ++ r ∷ [])
turned_all t starts front r =
    let all = all_values t 0 starts front in
    ⊎_elim
    (λ turn. cond-true (is_transition r) (changed_values t r all) all turn ∙ transition_values t starts front r turn)
    (λ out. cond-false (is_transition r) (changed_values t r all) all out ∙ output_values t starts front r out)
    (cases_Bool (is_transition r))

-- ---- lines

pub rows_are : (t : FigureTable) (c : ℕ) (starts : List (List ℤ)) (records : List Record) → rows_with t c (all_values t c starts records) ≡ all_rows t c starts records
rows_are t c [] records = refl
rows_are t c (start ∷ starts) records = ap (λ l. valued_rows (first_cells t c) (figures_of t c) (values_at t c start records) ++ l) (rows_are t (suc c) starts records)

-- where a component starts, if it is there
start_there : (starts : List (List ℤ)) (k : ℕ) → k < length starts → slice_get starts k ≡ Some (slice_index_or starts k [])
start_there [] k l = absurd (omega (arith, l))
start_there (start ∷ starts) zero l = refl
start_there (start ∷ starts) (suc k) l = start_there starts k (omega (arith, l))

start_nowhere : (starts : List (List ℤ)) (k : ℕ) → length starts ≤ k → slice_get starts k ≡ None
start_nowhere [] k l = refl
start_nowhere (start ∷ starts) zero l = absurd (omega (arith, l))
start_nowhere (start ∷ starts) (suc k) l = start_nowhere starts k (omega (arith, l))

-- a transition from the first tick on
told_changes : (t : FigureTable) (starts : List (List ℤ)) (front : List Record) (r : Record) → is_transition r ≡ true → is_from t r ≡ true
    → rows_of_change t r true (all_values t 0 starts front) ≡ changes_at t starts front r
told_changes t starts front r turn from =
    let all = all_values t 0 starts front in
    let many = values_many t 0 starts front in
    let start = slice_index_or starts r.component [] in
    let rows = λ (l : List ℤ). changed_rows (cells_of t r) (figures_of t r.component) l r.words in
    let whole : changes_by t front r (slice_get starts r.component) ≡ changes_at t starts front r = sym (cond-true (is_transition r && is_from t r) (changes_by t front r (slice_get starts r.component)) [] (and_from (is_transition r) (is_from t r) turn from)) in
    let here : (r.component < length starts) → slice_index_or all r.component [] ≡ values_at t r.component start front = (λ l. values_place t 0 r.component starts front l ∙ ap (λ d. values_at t d start front) (omega arith)) in
    ⊎_elim
    (λ l. cond-true (nat_lt r.component (length all)) (told_rows t r all) [] (lt-ltb r.component (length all) l) ∙ ap rows (here (omega (arith, l, many)))
    ∙ ap (changes_by t front r) (sym (start_there starts r.component (omega (arith, l, many)))) ∙ whole)
    (λ l. cond-false (nat_lt r.component (length all)) (told_rows t r all) [] (le-ltb r.component (length all) l)
    ∙ ap (changes_by t front r) (sym (start_nowhere starts r.component (omega (arith, l, many)))) ∙ whole)
    (cases_lt r.component (length all))

-- one before it
pub untold_changes : (t : FigureTable) (starts : List (List ℤ)) (front : List Record) (r : Record) → is_from t r ≡ false → changes_at t starts front r ≡ []
untold_changes t starts front r before = cond-false (is_transition r && is_from t r) _ [] (and_right (is_transition r) (is_from t r) before)

untold_rows : (t : FigureTable) (r : Record) (all : List (List ℤ)) → rows_of_change t r false all ≡ []
untold_rows t r all = ⊎_elim (λ e. cond-true (nat_lt r.component (length all)) [] [] e) (λ e. cond-false (nat_lt r.component (length all)) [] [] e) (cases_Bool (nat_lt r.component (length all)))

-- an output
output_changes : (t : FigureTable) (starts : List (List ℤ)) (front : List Record) (r : Record) → is_transition r ≡ false → changes_at t starts front r ≡ []
output_changes t starts front r out = cond-false (is_transition r && is_from t r) _ [] (and_left (is_transition r) (is_from t r) out)

-- a record's
pub turned_rows : (t : FigureTable) (starts : List (List ℤ)) (front : List Record) (r : Record) → rows_of_turn t r (is_from t r) (all_values t 0 starts front) ≡ changes_at t starts front r
turned_rows t starts front r =
    let all = all_values t 0 starts front in
    ⊎_elim
    (λ turn. cond-true (is_transition r) (rows_of_change t r (is_from t r) all) [] turn
    ∙ ⊎_elim
    (λ from. ap (λ b. rows_of_change t r b all) from ∙ told_changes t starts front r turn from)
    (λ early. ap (λ b. rows_of_change t r b all) early ∙ untold_rows t r all ∙ sym (untold_changes t starts front r early))
    (cases_Bool (is_from t r)))
    (λ out. cond-false (is_transition r) (rows_of_change t r (is_from t r) all) [] out ∙ sym (output_changes t starts front r out))
    (cases_Bool (is_transition r))

-- ---- values that are kept as they stand in memory

pub all_one_more : (t : FigureTable) (c : ℕ) (starts : List (List ℤ)) (start : List ℤ) (records : List Record) → all_values t c (starts ++ start ∷ []) records ≡ all_values t c starts records ++ values_at t (c + length starts) start records ∷ []
all_one_more t c [] start records = ap (λ d. values_at t d start records ∷ []) (omega arith)
all_one_more t c (x ∷ starts) start records =
    ap (λ l. values_at t c x records ∷ l)
    (all_one_more t (suc c) starts start records ∙ ap (λ d. all_values t (suc c) starts records ++ values_at t d start records ∷ []) (omega arith))

-- one is put at a place
pub set_seen : {X Y : Type 0} (f : X → Y) (xs : List X) (k : ℕ) (x : X) → map f (slice_set xs k x) ≡ slice_set (map f xs) k (f x)
set_seen f [] k x = refl
set_seen f (y ∷ xs) zero x = refl
set_seen f (y ∷ xs) (suc k) x = ap (λ l. f y ∷ l) (set_seen f xs k x)
