-- The figures and the observations of a machine tell what its entries show.
use Rattle.std.proofs.Common.{◌≡◌, ◌∙◌, ◌+◌, ◌-◌, ◌++◌, ◌∷◌, [], ℕ, ℤ, pos, Bool, true, false, cond, List, Option, Some, None, ap, append_assoc, arith, codes, drop, filter, flat_map, length, length-append, map, refl, sum_by, sym, take}
use Rattle.std.specs.List.{AllByRecursion as Each}
use Rattle.std.proofs.lemmas.Bool.{false≢true}
use Rattle.std.proofs.lemmas.List.{get_or_at, length_push, map-append, take_at}
use Rattle.std.proofs.Math.Seq.{drop-append_seam}
use Rattle.std.proofs.lemmas.List.Sums.{sum_by-cons}
use Rattle.tw_figures.specs.Figures.{value_of}
use Rattle.tw_figures.specs.declared.figure.Measure.{Measure}
use Rattle.tw_figures.specs.declared.figure.Measure.TheVariants.{Word}
use Rattle.tw_figure_names.specs.Entries.{before_queue, is_queue, numbers_by, numbers_of, observed_by, observed_from, placed, queue_texts, values_behind}
use Rattle.tw_figure_names.specs.EntriesLaw.{EntriesLaw, Fits, ObservedLaw, Showing, entries_in, held, named, numbers_told, observed_as, observed_told, three, values_told, words_in}
use Rattle.tw_figure_names.specs.Texts.{joined}
use Rattle.tw_figure_names.specs.declared.entries.Shown.{Shown}
use Rattle.tw_figure_names.specs.declared.entries.Shown.TheVariants.{Number, Cells, Observed, Values}
use Rattle.tw_figure_names.proofs.Placing.{placed-append}

-- figures with their values in a state of these words
abbrev pub told : List ℤ → List (List ℕ × Measure) → List (List ℕ × ℤ)
told words figures = map (λ f. (f.0, value_of f.1 words)) figures

-- names of these words, which stand behind some and before others
zipped : (names : List (Option (List ℕ))) (ws before behind words : List ℤ) → length ws ≡ length names → words ≡ before ++ (ws ++ behind) → told words (placed (length before) names) ≡ named names ws
zipped [] ws before behind words many is = refl
zipped (name ∷ names) [] before behind words many is = absurd (omega arith)
zipped (Some name ∷ names) (w ∷ ws) before behind words many is =
    (λ i. (name, (ap (λ ws. value_of (Word (length before)) ws) is ∙ get_or_at before w (ws ++ behind) (pos 0) (length before) refl) i)
    ∷ (ap (λ k. told words (placed k names)) (sym (length_push before w))
    ∙ zipped names ws (before ++ w ∷ []) behind words (omega arith) (is ∙ sym (append_assoc before (w ∷ []) (ws ++ behind)))) i)
zipped (None ∷ names) (w ∷ ws) before behind words many is =
    ap (λ k. told words (placed k names)) (sym (length_push before w))
    ∙ zipped names ws (before ++ w ∷ []) behind words (omega arith) (is ∙ sym (append_assoc before (w ∷ []) (ws ++ behind)))

-- the names of the numbers before the first queue
abbrev pub front : List Showing → List (Option (List ℕ))
front xs = flat_map numbers_of (before_queue (entries_in xs))

front_step : (x : Showing) (xs : List Showing) (before words : List ℤ) (b : Bool) → is_queue x.0.1 ≡ b → Fits x → words ≡ before ++ (x.1 ++ words_in xs)
    → told words (placed (length (before ++ x.1)) (front xs)) ≡ numbers_told xs
    → told words (placed (length before) (flat_map numbers_of (cond b [] (x.0 ∷ before_queue (entries_in xs))))) ≡ cond b [] (named (numbers_of x.0) x.1 ++ numbers_told xs)
front_step x xs before words true queue fits is behind = refl
front_step x xs before words false queue fits is behind =
    ap (told words) (placed-append (length before) (numbers_of x.0) (front xs))
    ∙ map-append (λ f. (f.0, value_of f.1 words)) (placed (length before) (numbers_of x.0)) (placed (length before + length (numbers_of x.0)) (front xs))
    ∙ (λ i. zipped (numbers_of x.0) x.1 before (words_in xs) words (fits queue) is i
    ++ (ap (λ k. told words (placed k (front xs))) (ap (λ n. length before + n) (sym (fits queue)) ∙ sym (length-append before x.1)) ∙ behind) i)

-- the numbers before the first queue, behind some words
front_told : (xs : List Showing) (before words : List ℤ) → Each Fits xs → words ≡ before ++ words_in xs → told words (placed (length before) (front xs)) ≡ numbers_told xs
front_told [] before words fits is = refl
front_told (x ∷ xs) before words fits is =
    front_step x xs before words (is_queue x.0.1) refl fits.0 is
    (front_told xs (before ++ x.1) words fits.1 (is ∙ sym (append_assoc before x.1 (words_in xs))))

-- a queue's values have no names
no_names : (text : List ℕ) (shows : Shown) → is_queue shows ≡ true → numbers_by text shows ≡ []
no_names text Number is = absurd (false≢true is)
no_names text (Cells n) is = absurd (false≢true is)
no_names text Observed is = absurd (false≢true is)
no_names text Values is = refl

count_step : (x : Showing) (xs : List Showing) (b : Bool) → is_queue x.0.1 ≡ b → Fits x → length (words_in xs) ≡ length (flat_map numbers_of (entries_in xs)) + held xs
    → length (x.1 ++ words_in xs)
    ≡ length (numbers_of x.0 ++ flat_map numbers_of (entries_in xs))
    + sum_by (λ x. length x.1) (cond b (x ∷ filter (λ x. is_queue x.0.1) xs) (filter (λ x. is_queue x.0.1) xs))
count_step x xs true queue fits behind =
    let none = ap length (no_names x.0.0 x.0.1 queue) in
    let more = sum_by-cons (λ (x : Showing). length x.1) x (filter (λ x. is_queue x.0.1) xs) in
    omega (arith, length-append x.1 (words_in xs), length-append (numbers_of x.0) (flat_map numbers_of (entries_in xs)), none, more, behind)
count_step x xs false queue fits behind =
    omega (arith, length-append x.1 (words_in xs), length-append (numbers_of x.0) (flat_map numbers_of (entries_in xs)), fits queue, behind)

-- every word is a number by its name, or a value of a queue
all_counted : (xs : List Showing) → Each Fits xs → length (words_in xs) ≡ length (flat_map numbers_of (entries_in xs)) + held xs
all_counted [] fits = refl
all_counted (x ∷ xs) fits = count_step x xs (is_queue x.0.1) refl fits.0 (all_counted xs fits.1)

values_behind_told : (words : List ℤ) (n held : ℕ) (texts : List (List ℕ)) → length words ≡ n + held → told words (values_behind n texts) ≡ values_told held texts
values_behind_told words n held [] many = refl
values_behind_told words n held (text ∷ texts) many =
    let beyond : length words - n ≡ held = omega arith in
    ap (λ k. (joined (codes " + ") (text ∷ texts), pos k) ∷ []) beyond

pub entries_law : EntriesLaw
entries_law xs fits =
    map-append (λ f. (f.0, value_of f.1 (words_in xs))) (placed 0 (front xs)) (values_behind (length (flat_map numbers_of (entries_in xs))) (queue_texts (entries_in xs)))
    ∙ (λ i. front_told xs [] (words_in xs) fits refl i
    ++ values_behind_told (words_in xs) (length (flat_map numbers_of (entries_in xs))) (held xs) (queue_texts (entries_in xs)) (all_counted xs fits) i)

-- ---- observations

-- observations with their words in a state of these words
abbrev pub seen : List ℤ → List (List ℕ × ℕ) → List (List ℕ × List ℤ)
seen words observations = map (λ o. (o.0, three o.1 words)) observations

-- three words that stand behind some and before others
three_at : (before ws behind words : List ℤ) → length ws ≡ 3 → words ≡ before ++ (ws ++ behind) → three (length before) words ≡ ws
three_at before ws behind words many is =
    ap (λ all. take 3 (drop (length before) all)) is ∙ ap (take 3) (drop-append_seam before (ws ++ behind)) ∙ take_at ws behind 3 many

one_seen : (text : List ℕ) (shows : Shown) (before ws behind words : List ℤ) → length ws ≡ length (numbers_by text shows) → words ≡ before ++ (ws ++ behind)
    → seen words (observed_by (length before) text shows) ≡ observed_as text shows ws
one_seen text Number before ws behind words many is = refl
one_seen text (Cells n) before ws behind words many is = refl
one_seen text Observed before ws behind words many is = ap (λ three. (text, three) ∷ []) (three_at before ws behind words many is)
one_seen text Values before ws behind words many is = refl

-- those before the first queue, of which the first number is word k
abbrev pub observed_front : ℕ → List Showing → List (List ℕ × ℕ)
observed_front k xs = observed_from k (before_queue (entries_in xs))

observed_step : (x : Showing) (xs : List Showing) (before words : List ℤ) (b : Bool) → is_queue x.0.1 ≡ b → Fits x → words ≡ before ++ (x.1 ++ words_in xs)
    → seen words (observed_front (length (before ++ x.1)) xs) ≡ observed_told xs
    → seen words (observed_from (length before) (cond b [] (x.0 ∷ before_queue (entries_in xs)))) ≡ cond b [] (observed_as x.0.0 x.0.1 x.1 ++ observed_told xs)
observed_step x xs before words true queue fits is behind = refl
observed_step x xs before words false queue fits is behind =
    map-append (λ o. (o.0, three o.1 words)) (observed_by (length before) x.0.0 x.0.1) (observed_front (length before + length (numbers_of x.0)) xs)
    ∙ (λ i. one_seen x.0.0 x.0.1 before x.1 (words_in xs) words (fits queue) is i
    ++ (ap (λ k. seen words (observed_front k xs)) (ap (λ n. length before + n) (sym (fits queue)) ∙ sym (length-append before x.1)) ∙ behind) i)

all_seen : (xs : List Showing) (before words : List ℤ) → Each Fits xs → words ≡ before ++ words_in xs → seen words (observed_front (length before) xs) ≡ observed_told xs
all_seen [] before words fits is = refl
all_seen (x ∷ xs) before words fits is =
    observed_step x xs before words (is_queue x.0.1) refl fits.0 is
    (all_seen xs (before ++ x.1) words fits.1 (is ∙ sym (append_assoc before x.1 (words_in xs))))

pub observed_law : ObservedLaw
observed_law xs fits = all_seen xs [] (words_in xs) fits refl
