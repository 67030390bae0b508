-- What the figures and the observations of a machine are of a state: what the entries of its `words` show of it.
--     HasCells s w      an array register or an observation that is shown has all its cells in a state
--     ShownLaw      an entry shows as much whatever a component gives
--     MachineLaw      the figures of a machine are the values of the entries by whose texts they are called
--     ObservationsLaw      the three words at an observation's place are those that its entry shows
use Rattle.std.specs.Prelude.{◌≡◌, ◌≤◌, ◌+◌, ◌++◌, ℤ, List, length, map}
use Rattle.std.specs.List.{AllByRecursion as Each, zip}
use Rattle.serde_json.specs.Data.{Items}
use Rattle.serde_json.specs.Events.{items_len}
use Rattle.tw_figures.specs.Figures.{value_of}
use Rattle.tw_machine.specs.Machine.{machine_words, own_input, word}
use Rattle.tw_machine.specs.Program.{ProgramText}
use Rattle.tw_machine.specs.declared.language.Word.{Word}
use Rattle.tw_machine.specs.declared.language.Word.TheVariants as w
use Rattle.tw_machine.specs.declared.memory.State.{State}
use Rattle.tw_machine_compiler.specs.Program.{program_of}
use Rattle.tw_machine_declaration.specs.Names.{standings_of}
use Rattle.tw_machine_declaration.specs.Seen.{Declaration, Given, Name, Value}
use Rattle.tw_machine_file.specs.Machines.{nothing_given}
use Rattle.tw_figure_names.specs.Entries.{Entry, entries_of, figures_of, observations_of, queue_texts, shown_by}
use Rattle.tw_figure_names.specs.EntriesLaw.{Showing, held, numbers_told, observed_told, three, values_told}

abbrev pub HasCells : State → Word → Type 0
HasCells s (w.Number e) = Unit {0}
HasCells s (w.Values q) = Unit {0}
HasCells s (w.Cells span) = span.first + span.count ≤ length s.memory.cells

-- the words of a state that an entry of a program shows
abbrev pub shown : ProgramText → State → Word → List ℤ
shown p s w = word w p.numbers (own_input 0 s.time) s.memory

-- entries with what they show
abbrev pub showings : ProgramText → State → List Entry → List Showing
showings p s es = zip es (map (shown p s) p.words)

-- as much as where nothing is given
abbrev pub ShownLaw : Type 0
ShownLaw = (given : Given) (names : List Name) (v : Value)
    → shown_by (standings_of given names) v ≡ shown_by (standings_of nothing_given names) v

-- whatever a component gives, in any state that has the cells of the array registers
abbrev pub MachineLaw : Type 0
MachineLaw = (given : Given) (d : Declaration) (texts : Items) (s : State) → items_len texts ≡ length d.words
    → Each (HasCells s) (program_of given d).words
    → let p = program_of given d in
    let es = entries_of (standings_of nothing_given d.names) d.words texts in
    map (λ f. (f.0, value_of f.1 (machine_words p s))) (figures_of es)
    ≡ numbers_told (showings p s es) ++ values_told (held (showings p s es)) (queue_texts es)

abbrev pub ObservationsLaw : Type 0
ObservationsLaw = (given : Given) (d : Declaration) (texts : Items) (s : State) → items_len texts ≡ length d.words
    → Each (HasCells s) (program_of given d).words
    → let p = program_of given d in
    let es = entries_of (standings_of nothing_given d.names) d.words texts in
    map (λ o. (o.0, three o.1 (machine_words p s))) (observations_of es) ≡ observed_told (showings p s es)
