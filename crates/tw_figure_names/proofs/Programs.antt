-- The figures and the observations of a machine are what its program shows.
use Rattle.std.proofs.Common.{◌≡◌, ◌∙◌, ◌++◌, ◌∷◌, [], ℕ, List, Some, false, true≢false, ap, arith, drop, flat_map, length, length-drop, length-take, map, refl, sym}
use Rattle.std.specs.List.{AllByRecursion as Each, zip}
use Rattle.std.proofs.lemmas.List.FromFn.{length-map-range_with_len}
use Rattle.serde_json.specs.Data.{Items, no_items, item}
use Rattle.serde_json.specs.Events.{items_len}
use Rattle.tw_figures.specs.Figures.{value_of}
use Rattle.tw_machine.specs.Program.{ProgramText}
use Rattle.tw_machine.specs.declared.language.Word.{Word}
use Rattle.tw_machine.specs.declared.language.Word.TheVariants as w
use Rattle.tw_machine.specs.declared.memory.State.{State}
use Rattle.tw_machine_compiler.specs.Program.{program_of, shown_word}
use Rattle.tw_machine_declaration.specs.Names.{standings_of}
use Rattle.tw_machine_declaration.specs.Seen.{Given, Name, Value}
use Rattle.tw_machine_file.specs.Machines.{nothing_given}
use Rattle.tw_figure_names.specs.Entries.{Entry, cell_name, entries_of, figures_of, is_queue, numbers_by, observations_of, queue_texts, shown_by}
use Rattle.tw_figure_names.specs.EntriesLaw.{Fits, entries_in, held, numbers_told, three, values_told, words_in}
use Rattle.tw_figure_names.specs.MachineLaw.{HasCells, MachineLaw, ObservationsLaw, shown, showings}
use Rattle.tw_figure_names.specs.Texts.{text_of}
use Rattle.tw_figure_names.specs.declared.entries.Shown.{Shown}
use Rattle.tw_figure_names.specs.declared.entries.Shown.TheVariants.{Number, Cells, Observed, Values}
use Rattle.tw_figure_names.proofs.Standings.{extent, same_extent, word_extent}
use Rattle.tw_figure_names.proofs.Telling.{entries_law, observed_law}

-- a word of a program shows as many words of a state as its kind says
shows_extent : (p : ProgramText) (s : State) (word : Word) → HasCells s word → (word_extent word).0 ≡ false → length (shown p s word) ≡ (word_extent word).1
shows_extent p s (w.Number e) has plain = refl
shows_extent p s (w.Values q) has plain = absurd (true≢false plain)
shows_extent p s (w.Cells span) has plain =
    let cells = s.memory.cells in
    omega (arith, length-take span.count (drop span.first cells), length-drop span.first cells, has)

-- and an entry has as many numbers
numbers_extent : (text : List ℕ) (shows : Shown) → (extent shows).0 ≡ is_queue shows × (length (numbers_by text shows) ≡ (extent shows).1)
numbers_extent text Number = (refl, refl)
numbers_extent text (Cells n) = (refl, length-map-range_with_len (λ i. Some (cell_name text i)) 0 n)
numbers_extent text Observed = (refl, refl)
numbers_extent text Values = (refl, refl)

fits_as : (p : ProgramText) (s : State) (text : List ℕ) (word : Word) (shows : Shown) → HasCells s word → word_extent word ≡ extent shows → Fits ((text, shows), shown p s word)
fits_as p s text word shows has same = λ plain.
    let n = numbers_extent text shows in
    shows_extent p s word has (ap (λ e. e.0) same ∙ n.0 ∙ plain) ∙ ap (λ e. e.1) same ∙ sym n.1

-- all entries of these words, and all words of a state
all_fit : (given : Given) (names : List Name) (p : ProgramText) (s : State) (vs : List Value) (texts : Items) → Each (HasCells s) (map (shown_word (standings_of given names)) vs)
    → Each Fits (zip (entries_of (standings_of nothing_given names) vs texts) (map (shown p s) (map (shown_word (standings_of given names)) vs)))
all_fit given names p s [] texts has = tt
all_fit given names p s (v ∷ vs) no_items has = tt
all_fit given names p s (v ∷ vs) (item d texts) has = (
  fits_as p s (text_of d) (shown_word (standings_of given names) v) (shown_by (standings_of nothing_given names) v) has.0 (same_extent given names v),
  all_fit given names p s vs texts has.1,
)

all_words : (given : Given) (names : List Name) (p : ProgramText) (s : State) (vs : List Value) (texts : Items) → items_len texts ≡ length vs
    → words_in (zip (entries_of (standings_of nothing_given names) vs texts) (map (shown p s) (map (shown_word (standings_of given names)) vs)))
    ≡ flat_map (shown p s) (map (shown_word (standings_of given names)) vs)
all_words given names p s [] texts many = refl
all_words given names p s (v ∷ vs) no_items many = absurd (omega arith)
all_words given names p s (v ∷ vs) (item d texts) many = ap (λ rest. shown p s (shown_word (standings_of given names) v) ++ rest) (all_words given names p s vs texts (omega arith))

all_entries : (given : Given) (names : List Name) (p : ProgramText) (s : State) (vs : List Value) (texts : Items) → items_len texts ≡ length vs
    → entries_in (zip (entries_of (standings_of nothing_given names) vs texts) (map (shown p s) (map (shown_word (standings_of given names)) vs)))
    ≡ entries_of (standings_of nothing_given names) vs texts
all_entries given names p s [] texts many = refl
all_entries given names p s (v ∷ vs) no_items many = absurd (omega arith)
all_entries given names p s (v ∷ vs) (item d texts) many = ap (λ (es : List Entry). (text_of d, shown_by (standings_of nothing_given names) v) ∷ es) (all_entries given names p s vs texts (omega arith))

pub machine_law : MachineLaw
machine_law given d texts s many has =
    let p = program_of given d in
    let es = entries_of (standings_of nothing_given d.names) d.words texts in
    let xs = showings p s es in
    let of = all_entries given d.names p s d.words texts many in
    (λ i. map (λ f. (f.0, value_of f.1 (sym (all_words given d.names p s d.words texts many) i))) (figures_of (sym of i)))
    ∙ entries_law xs (all_fit given d.names p s d.words texts has)
    ∙ ap (λ (es : List Entry). numbers_told xs ++ values_told (held xs) (queue_texts es)) of

pub observations_law : ObservationsLaw
observations_law given d texts s many has =
    let p = program_of given d in
    let es = entries_of (standings_of nothing_given d.names) d.words texts in
    let xs = showings p s es in
    let of = all_entries given d.names p s d.words texts many in
    (λ i. map (λ o. (o.0, three o.1 (sym (all_words given d.names p s d.words texts many) i))) (observations_of (sym of i)))
    ∙ observed_law xs (all_fit given d.names p s d.words texts has)
