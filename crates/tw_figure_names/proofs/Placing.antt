-- Figures and observations by their places.
use Rattle.std.proofs.Common.{◌≡◌, ◌∙◌, ◌+◌, ◌<◌, ◌++◌, ◌∷◌, [], ℕ, List, Option, Some, None, String, ap, append-nil, append_assoc, arith, drop, flat_map, get_or, length, length-append, map, sym, take}
use Rattle.std.proofs.lemmas.List.{length-map, map-append, map_more, take-append-drop, take-map, take_at}
use Rattle.std.proofs.lemmas.List.Concat.{flat_map-append}
use Rattle.std.specs.Global.{Global}
use Rattle.tw_figures.specs.Labelled.{figure, observation}
use Rattle.tw_figures.specs.declared.figure.Figure.{Figure}
use Rattle.tw_figures.specs.declared.figure.Measure.TheVariants.{Word}
use Rattle.tw_figures.specs.declared.labels.Observation.{Observation}
use Rattle.tw_figure_names.specs.Entries.{Entry as Said, before_queue, figures_of, numbers_of, observations_of, observed_at, observed_from, placed, queue_texts, values_behind}
use Rattle.tw_figure_names.specs.EntryViews.{entry, number}
use Rattle.tw_figure_names.specs.declared.entries.Entry.{Entry}

pub placed-append : (k : ℕ) (xs ys : List (Option (List ℕ))) → placed k (xs ++ ys) ≡ placed k xs ++ placed (k + length xs) ys
placed-append k [] ys = ap (λ n. placed n ys) (omega arith)
placed-append k (Some x ∷ xs) ys =
    ap (λ fs. (x, Word k) ∷ fs) (placed-append (k + 1) xs ys ∙ ap (λ n. placed (k + 1) xs ++ placed n ys) (omega arith))
placed-append k (None ∷ xs) ys = placed-append (k + 1) xs ys ∙ ap (λ n. placed (k + 1) xs ++ placed n ys) (omega arith)

observed-append : (k : ℕ) (xs ys : List Said) → observed_from k (xs ++ ys) ≡ observed_from k xs ++ observed_from (k + length (flat_map numbers_of xs)) ys
observed-append k [] ys = ap (λ n. observed_from n ys) (omega arith)
observed-append k (x ∷ xs) ys =
    let rest = flat_map numbers_of xs in
    ap (λ os. observed_at k x ++ os) (observed-append (k + length (numbers_of x)) xs ys)
    ∙ sym (append_assoc (observed_at k x) (observed_from (k + length (numbers_of x)) xs) (observed_from (k + length (numbers_of x) + length rest) ys))
    ∙ ap (λ n. observed_from k (x ∷ xs) ++ observed_from n ys) (omega (arith, length-append (numbers_of x) rest))

-- the numbers that entries show, by their names
abbrev pub numbers_in : List Entry → List (Option (List ℕ))
numbers_in es = flat_map numbers_of (map entry es)

-- one entry more
pub one_entry_more : (es : List Entry) (i : ℕ) (e : Entry) → i < length es → e ≡ get_or es i e → numbers_in (take (i + 1) es) ≡ numbers_in (take i es) ++ numbers_of (entry e)
one_entry_more es i e below is =
    ap (flat_map numbers_of) (map_more entry es i e below ∙ ap (λ x. map entry (take i es) ++ entry x ∷ []) (sym is))
    ∙ flat_map-append numbers_of (map entry (take i es)) (entry e ∷ [])
    ∙ ap (λ names. numbers_in (take i es) ++ names) (append-nil (numbers_of (entry e)))

pub one_observed_more : (k : ℕ) (es : List Entry) (i : ℕ) (e : Entry) → i < length es → e ≡ get_or es i e
    → observed_from k (map entry (take (i + 1) es)) ≡ observed_from k (map entry (take i es)) ++ observed_at (k + length (numbers_in (take i es))) (entry e)
one_observed_more k es i e below is =
    ap (observed_from k) (map_more entry es i e below ∙ ap (λ x. map entry (take i es) ++ entry x ∷ []) (sym is))
    ∙ observed-append k (map entry (take i es)) (entry e ∷ [])
    ∙ ap (λ os. observed_from k (map entry (take i es)) ++ os) (append-nil (observed_at (k + length (numbers_in (take i es))) (entry e)))

-- behind what is held
pub then_more : {A : Type 0} (old between new xs ys : List A) → between ≡ old ++ xs → new ≡ between ++ ys → new ≡ old ++ (xs ++ ys)
then_more old between new xs ys first second = second ∙ ap (λ z. z ++ ys) first ∙ append_assoc old xs ys

-- how many numbers there are behind those of these names
pub more_numbers : (old new : List (Option (String Global))) (names : List (Option (List ℕ))) → map number new ≡ map number old ++ names → length new ≡ length old + length names
more_numbers old new names is =
    sym (length-map new number) ∙ ap length is ∙ length-append (map number old) names
    ∙ ap (λ n. n + length names) (length-map old number)

-- the numbers of all entries, of which those before the first queue are figures, and then the queues
pub all_placed : (es : List Entry) (n : ℕ) (shown all : List (Option (String Global))) (figures said : List Figure) → map number shown ≡ numbers_in (take n es)
    → map number all ≡ map number shown ++ numbers_in (drop n es) → map figure figures ≡ placed 0 (map number shown)
    → map figure said ≡ map figure figures ++ values_behind (length all) (queue_texts (map entry es))
    → map entry (take n es) ≡ before_queue (map entry es) → map figure said ≡ figures_of (map entry es)
all_placed es n shown all figures said first second are third before =
    let whole : numbers_in es ≡ numbers_in (take n es) ++ numbers_in (drop n es) =
    ap (flat_map numbers_of) (ap (map entry) (sym (take-append-drop n es)) ∙ map-append entry (take n es) (drop n es))
    ∙ flat_map-append numbers_of (map entry (take n es)) (map entry (drop n es)) in
    let many : length all ≡ length (numbers_in es) =
    sym (length-map all number) ∙ ap length (second ∙ ap (λ xs. xs ++ numbers_in (drop n es)) first ∙ sym whole) in
    let kept = are ∙ ap (placed 0) first ∙ ap (λ xs. placed 0 (flat_map numbers_of xs)) before in
    third ∙ (λ i. kept i ++ values_behind (many i) (queue_texts (map entry es)))

-- the observations of all entries, of which those before the first queue are kept
pub all_observed : (es : List Entry) (n : ℕ) (shown all cut : List Observation) (rest : List (List ℕ × ℕ)) → map observation shown ≡ observed_from 0 (map entry (take n es))
    → map observation all ≡ map observation shown ++ rest → cut ≡ take (length shown) all
    → map entry (take n es) ≡ before_queue (map entry es) → map observation cut ≡ observations_of (map entry es)
all_observed es n shown all cut rest first second is_cut before =
    ap (map observation) is_cut ∙ sym (take-map observation (length shown) all) ∙ ap (take (length shown)) second
    ∙ take_at (map observation shown) rest (length shown) (length-map shown observation)
    ∙ first ∙ ap (observed_from 0) before
