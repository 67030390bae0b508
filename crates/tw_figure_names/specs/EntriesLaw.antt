-- What the figures and the observations of a machine are of the words of a state: what each of its entries shows.
--     Showing      an entry, and the words that it shows
--     EntriesLaw      where the words of a state are what the entries show, one after another, its figures are these words
--     ObservedLaw      and the three words from an observation's place on are those that its entry shows
use Rattle.std.specs.Prelude.{◌≡◌, ◌++◌, ◌∷◌, [], ℕ, ℤ, pos, List, Option, Some, None, false, codes, drop, filter, length, map, sum_by, take, if◌then◌else◌}
use Rattle.std.specs.List.{AllByRecursion as Each, flat_map}
use Rattle.tw_figures.specs.Figures.{value_of}
use Rattle.tw_figure_names.specs.Entries.{Entry, figures_of, is_queue, numbers_of, observations_of, queue_texts}
use Rattle.tw_figure_names.specs.Texts.{joined}
use Rattle.tw_figure_names.specs.declared.entries.Shown.{Shown}
use Rattle.tw_figure_names.specs.declared.entries.Shown.TheVariants.{Observed}

abbrev pub Showing : Type 0
Showing = Entry × List ℤ

-- a queue shows its values, however many; anything else as many words as it has numbers
abbrev pub Fits : Showing → Type 0
Fits x = is_queue x.0.1 ≡ false → length x.1 ≡ length (numbers_of x.0)

abbrev pub entries_in : List Showing → List Entry
entries_in xs = map (λ x. x.0) xs

abbrev pub words_in : List Showing → List ℤ
words_in xs = flat_map (λ x. x.1) xs

-- ---- figures

-- words by their names, of those that have one
abbrev pub named : List (Option (List ℕ)) → List ℤ → List (List ℕ × ℤ)
named [] ws = []
named (name ∷ names) [] = []
named (Some name ∷ names) (w ∷ ws) = (name, w) ∷ named names ws
named (None ∷ names) (w ∷ ws) = named names ws

-- each word before the first queue by its name
abbrev pub numbers_told : List Showing → List (List ℕ × ℤ)
numbers_told [] = []
numbers_told (x ∷ xs) = if is_queue x.0.1 then [] else named (numbers_of x.0) x.1 ++ numbers_told xs

-- how many values all queues have together
abbrev pub held : List Showing → ℕ
held xs = sum_by (λ x. length x.1) (filter (λ x. is_queue x.0.1) xs)

abbrev pub values_told : ℕ → List (List ℕ) → List (List ℕ × ℤ)
values_told n [] = []
values_told n (text ∷ texts) = (joined (codes " + ") (text ∷ texts), pos n) ∷ []

abbrev pub EntriesLaw : Type 0
EntriesLaw = (xs : List Showing) → Each Fits xs
    → map (λ f. (f.0, value_of f.1 (words_in xs))) (figures_of (entries_in xs)) ≡ numbers_told xs ++ values_told (held xs) (queue_texts (entries_in xs))

-- ---- observations

-- the three words of an observation
abbrev pub three : ℕ → List ℤ → List ℤ
three k words = take 3 (drop k words)

abbrev pub observed_as : List ℕ → Shown → List ℤ → List (List ℕ × List ℤ)
observed_as text Observed ws = (text, ws) ∷ []
observed_as text _ ws = []

-- each observation before the first queue by its words
abbrev pub observed_told : List Showing → List (List ℕ × List ℤ)
observed_told [] = []
observed_told (x ∷ xs) = if is_queue x.0.1 then [] else observed_as x.0.0 x.0.1 x.1 ++ observed_told xs

abbrev pub ObservedLaw : Type 0
ObservedLaw = (xs : List Showing) → Each Fits xs → map (λ o. (o.0, three o.1 (words_in xs))) (observations_of (entries_in xs)) ≡ observed_told xs
