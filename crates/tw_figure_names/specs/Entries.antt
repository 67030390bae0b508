-- What the entries of a machine's `words` show, and the figures of the machine.
--     Entry      what an entry is called, and what it shows
--     numbers_of e      the numbers that an entry shows, each by its name if it is a figure; a queue's values are not among them
--     figures_of es      the figures of a machine with these entries
--     observations_of es      its observations, each by its name and the place of its first word
use Rattle.std.specs.Prelude.{◌+◌, ◌++◌, ◌∷◌, [], ℕ, List, Bool, true, false, Option, Some, None, codes, decimal, filter, length, map, if◌then◌else◌}
use Rattle.std.specs.List.{flat_map, range_with_len}
use Rattle.serde_json.specs.Data.{Items, no_items, item}
use Rattle.tw_figures.specs.declared.figure.Measure.{Measure}
use Rattle.tw_figures.specs.declared.figure.Measure.TheVariants.{Word, Beyond}
use Rattle.tw_machine_text.specs.Tree as t
use Rattle.tw_machine_declaration.specs.Names.{standing_at}
use Rattle.tw_machine_declaration.specs.Seen.{Value, whole, tree}
use Rattle.tw_machine_declaration.specs.declared.names.Standing.{Standing}
use Rattle.tw_machine_declaration.specs.declared.names.Standing.TheVariants as s
use Rattle.tw_figure_names.specs.Texts.{joined, text_of}
use Rattle.tw_figure_names.specs.declared.entries.Shown.{Shown}
use Rattle.tw_figure_names.specs.declared.entries.Shown.TheVariants.{Number, Cells, Observed, Values}

-- ---- what an entry shows

-- a name: all cells of an array register, the three of an observation, the values of a queue; of anything else a number
abbrev pub shown_plain : Standing → Shown
shown_plain (s.Cells span) = Cells span.count
shown_plain (s.Observation k) = Observed
shown_plain (s.Queue place room) = Values
shown_plain _ = Number

-- a name with a number in brackets: the values of one queue of an array
abbrev pub shown_indexed : Standing → Shown
shown_indexed (s.Queues span room) = Values
shown_indexed _ = Number

abbrev pub shown_tree : List Standing → t.Tree → Shown
shown_tree ss (t.Name n) = shown_plain (standing_at ss n)
shown_tree ss (t.Indexed n (t.Number i)) = shown_indexed (standing_at ss n)
shown_tree ss _ = Number

-- by what the names of the machine stand for
abbrev pub shown_by : List Standing → Value → Shown
shown_by ss (whole n) = Number
shown_by ss (tree e) = shown_tree ss e

-- ---- entries

abbrev pub Entry : Type 0
Entry = List ℕ × Shown

-- of these expressions, which these values say
abbrev pub entries_of : List Standing → List Value → Items → List Entry
entries_of ss [] ds = []
entries_of ss (v ∷ vs) no_items = []
entries_of ss (v ∷ vs) (item d ds) = (text_of d, shown_by ss v) ∷ entries_of ss vs ds

-- ---- figures

-- of the cell at this place: `text[0]` is the first
abbrev pub cell_name : List ℕ → ℕ → List ℕ
cell_name text i = text ++ codes "[" ++ decimal i ++ codes "]"

-- the three of an observation are no figures
abbrev pub numbers_by : List ℕ → Shown → List (Option (List ℕ))
numbers_by text Number = Some text ∷ []
numbers_by text (Cells n) = map (λ i. Some (cell_name text i)) (range_with_len 0 n)
numbers_by text Observed = None ∷ None ∷ None ∷ []
numbers_by text Values = []

abbrev pub numbers_of : Entry → List (Option (List ℕ))
numbers_of e = numbers_by e.0 e.1

abbrev pub is_queue : Shown → Bool
is_queue Number = false
is_queue (Cells n) = false
is_queue Observed = false
is_queue Values = true

abbrev pub before_queue : List Entry → List Entry
before_queue [] = []
before_queue (e ∷ es) = if is_queue e.1 then [] else e ∷ before_queue es

abbrev pub queue_texts : List Entry → List (List ℕ)
queue_texts es = map (λ e. e.0) (filter (λ e. is_queue e.1) es)

-- the words of a state by these names, from place k on
abbrev pub placed : ℕ → List (Option (List ℕ)) → List (List ℕ × Measure)
placed k [] = []
placed k (Some name ∷ names) = (name, Word k) ∷ placed (k + 1) names
placed k (None ∷ names) = placed (k + 1) names

-- how many values the queues of these texts have, which stand behind n numbers
abbrev pub values_behind : ℕ → List (List ℕ) → List (List ℕ × Measure)
values_behind n [] = []
values_behind n (text ∷ texts) = (joined (codes " + ") (text ∷ texts), Beyond n) ∷ []

-- each number before the first queue by its place, and then how many values all queues have: all words but the numbers
abbrev pub figures_of : List Entry → List (List ℕ × Measure)
figures_of es = placed 0 (flat_map numbers_of (before_queue es)) ++ values_behind (length (flat_map numbers_of es)) (queue_texts es)

-- ---- observations

-- of an entry whose first number is word k
abbrev pub observed_by : ℕ → List ℕ → Shown → List (List ℕ × ℕ)
observed_by k text Observed = (text, k) ∷ []
observed_by k text _ = []

abbrev pub observed_at : ℕ → Entry → List (List ℕ × ℕ)
observed_at k e = observed_by k e.0 e.1

-- of entries, of which the first number is word k
abbrev pub observed_from : ℕ → List Entry → List (List ℕ × ℕ)
observed_from k [] = []
observed_from k (e ∷ es) = observed_at k e ++ observed_from (k + length (numbers_of e)) es

-- those before the first queue: behind one their place hangs on how many values it has
abbrev pub observations_of : List Entry → List (List ℕ × ℕ)
observations_of es = observed_from 0 (before_queue es)
