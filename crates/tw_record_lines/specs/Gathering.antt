-- What the lines of a table of figures are while records come.
--     is_opened t rs      one of these records is at the table's first tick or later
--     rows_due t starts rs      all figures after these records, unless one of them is at the first tick or later
--     rows_at t starts front r      the lines that a record brings, behind the records before it
--     rows_behind t starts front rs      those that each of these brings
--     rows_with, changed_values, told_rows, rows_of_change      all lines, and the values and the lines of a transition, by the values that are kept
--     turned_values, rows_of_turn      the same of a record that may be an output
--     FiguresStand t starts rs lines      the values that the figures have after these records, and whether all stand in the table
use Rattle.std.specs.Prelude.{◌≡◌, ◌++◌, ◌∷◌, [], ℕ, suc, ℤ, List, Bool, length, map, nat_le, nat_lt, slice_index_or, slice_set, if◌then◌else◌}
use Rattle.std.specs.List.{list_any}
use Rattle.tw_figures.specs.Figures.{is_transition}
use Rattle.tw_msgs.specs.declared.record.Record.{Record}
use Rattle.tw_record_lines.specs.FigureRows.{changed_rows, valued_rows, values_in}
use Rattle.tw_record_lines.specs.FigureTables.{FigureTable, all_rows, cells_of, changes_at, figures_of, first_cells, values_at}
use Rattle.tw_record_lines.specs.declared.figure_lines.FigureLines.{FigureLines}
use Rattle.tw_vtime.specs.Stamps.{tick_of}

abbrev pub is_from : FigureTable → Record → Bool
is_from t r = nat_le t.from (tick_of r.stamp)

abbrev pub is_opened : FigureTable → List Record → Bool
is_opened t records = list_any (is_from t) records

-- what stands in the table before the first line of a change, or at the end of a run that has none
abbrev pub rows_due : FigureTable → List (List ℤ) → List Record → List ℕ
rows_due t starts records = if is_opened t records then [] else all_rows t 0 starts records

abbrev pub rows_at : FigureTable → List (List ℤ) → List Record → Record → List ℕ
rows_at t starts front r = (if is_from t r then rows_due t starts front else []) ++ changes_at t starts front r

abbrev pub rows_behind : FigureTable → List (List ℤ) → List Record → List Record → List ℕ
rows_behind t starts front [] = []
rows_behind t starts front (r ∷ records) = rows_at t starts front r ++ rows_behind t starts (front ++ r ∷ []) records

-- the values of the components from c on
abbrev pub all_values : FigureTable → ℕ → List (List ℤ) → List Record → List (List ℤ)
all_values t c [] records = []
all_values t c (start ∷ starts) records = values_at t c start records ∷ all_values t (suc c) starts records

pub record FiguresStand (t : FigureTable) (starts : List (List ℤ)) (records : List Record) (lines : FigureLines) : Type 0 where
  pub values : map (λ v. v.items) lines.values.items ≡ all_values t 0 starts records
  pub opened : lines.opened ≡ is_opened t records

-- ---- of the values that are kept

-- the lines of all figures of the components from c on, with these values
abbrev pub rows_with : FigureTable → ℕ → List (List ℤ) → List ℕ
rows_with t c [] = []
rows_with t c (values ∷ all) = valued_rows (first_cells t c) (figures_of t c) values ++ rows_with t (suc c) all

-- a transition's values in place of those of its component, if there is one
abbrev pub changed_values : FigureTable → Record → List (List ℤ) → List (List ℤ)
changed_values t r all = if nat_lt r.component (length all) then slice_set all r.component (values_in (figures_of t r.component) r.words) else all

-- the lines of a transition of a component that is there
abbrev pub told_rows : FigureTable → Record → List (List ℤ) → List ℕ
told_rows t r all = changed_rows (cells_of t r) (figures_of t r.component) (slice_index_or all r.component []) r.words

-- the same where it is told, if its component is there
abbrev pub rows_of_change : FigureTable → Record → Bool → List (List ℤ) → List ℕ
rows_of_change t r told all = if nat_lt r.component (length all) then (if told then told_rows t r all else []) else []

-- a record's: an output changes nothing
abbrev pub turned_values : FigureTable → Record → List (List ℤ) → List (List ℤ)
turned_values t r all = if is_transition r then changed_values t r all else all

abbrev pub rows_of_turn : FigureTable → Record → Bool → List (List ℤ) → List ℕ
rows_of_turn t r told all = if is_transition r then rows_of_change t r told all else []
