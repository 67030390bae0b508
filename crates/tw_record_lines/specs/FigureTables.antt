-- The bytes of a table of figures: all figures as the run comes to the table's first tick, and then each that a transition changed.
--     FigureTable      the names of the components, their models' figures, which components are shown, and the first tick
--     table_of name_of labels shown from      that of these, without where they lie in memory
--     moves_of c rs      the transitions of a component
--     values_at t c start rs      the values of a component's figures after these records, where it starts in a state of these words
--     all_rows t c starts rs      the lines of all figures of the components from c on, with their values after these records
--     changes_at t starts front r      the lines of the figures that a record changes, behind the records before it
--     changes t starts front rs      those of each of these records, behind those before them
--     figures_text t starts rs      the whole table of a run with these records
use Rattle.std.specs.Prelude.{◌++◌, ◌&&◌, ◌∷◌, [], ℕ, suc, ℤ, List, Bool, Option, Some, None, codes, map, nat_le, slice_get, if◌then◌else◌}
use Rattle.std.specs.Fmt.{decimal}
use Rattle.tw_figures.specs.Figures.{before, is_transition, transitions, words_after}
use Rattle.tw_figures.specs.Labelled.{Label, label}
use Rattle.tw_figures.specs.declared.labels.Labels.{Labels}
use Rattle.tw_figures.specs.declared.figure.Measure.{Measure}
use Rattle.tw_msgs.specs.declared.record.Record.{Record}
use Rattle.tw_record_lines.specs.FigureRows.{begin_text, changed_rows, figures_in, valued_rows, values_in}
use Rattle.tw_record_lines.specs.Tables.{time_cells}
use Rattle.tw_theory.specs.Traces.{of_component}
use Rattle.tw_vtime.specs.Stamps.{tick_of}

pub record FigureTable : Type 0 where
  pub name_of : ℕ → List ℕ
  pub labels : List Label
  pub shown : List Bool
  pub from : ℕ

abbrev pub table_of : (ℕ → List ℕ) → List Labels → List Bool → ℕ → FigureTable
table_of name_of labels shown from = record { name_of = name_of; labels = map label labels; shown = shown; from = from }

abbrev pub figures_of : FigureTable → ℕ → List (List ℕ × Measure)
figures_of t c = figures_in t.labels t.shown c

abbrev pub moves_of : ℕ → List Record → List Record
moves_of c records = transitions (of_component c records)

abbrev pub values_at : FigureTable → ℕ → List ℤ → List Record → List ℤ
values_at t c start records = values_in (figures_of t c) (words_after start (moves_of c records))

-- at the first tick, microstep 0
abbrev pub first_cells : FigureTable → ℕ → List ℕ
first_cells t c = begin_text (decimal t.from ++ codes ",0") (t.name_of c)

abbrev pub all_rows : FigureTable → ℕ → List (List ℤ) → List Record → List ℕ
all_rows t c [] records = []
all_rows t c (start ∷ starts) records = valued_rows (first_cells t c) (figures_of t c) (values_at t c start records) ++ all_rows t (suc c) starts records

abbrev pub cells_of : FigureTable → Record → List ℕ
cells_of t r = begin_text (time_cells r.stamp) (t.name_of r.component)

-- of a component that there is, by the words with which it starts
abbrev pub changes_by : FigureTable → List Record → Record → Option (List ℤ) → List ℕ
changes_by t front r None = []
changes_by t front r (Some start) = changed_rows (cells_of t r) (figures_of t r.component) (values_at t r.component start front) r.words

-- a transition before the first tick has no line
abbrev pub changes_at : FigureTable → List (List ℤ) → List Record → Record → List ℕ
changes_at t starts front r =
    if is_transition r && nat_le t.from (tick_of r.stamp) then changes_by t front r (slice_get starts r.component) else []

abbrev pub changes : FigureTable → List (List ℤ) → List Record → List Record → List ℕ
changes t starts front [] = []
changes t starts front (r ∷ records) = changes_at t starts front r ++ changes t starts (front ++ r ∷ []) records

abbrev pub figures_head : List ℕ
figures_head = codes "tick,microstep,component,figure,value\n"

abbrev pub figures_text : FigureTable → List (List ℤ) → List Record → List ℕ
figures_text t starts records = figures_head ++ all_rows t 0 starts (before t.from records) ++ changes t starts [] records
