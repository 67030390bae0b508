-- The lines of a table of figures: comma-separated values.
--     figures_in labels shown c      the figures of a component, of which there are none where it is not shown
--     values_in figures words      the values of figures in a state of these words
--     cell text      a text as a cell: in quotes where it has a comma or a quote
--     begin_text time name      the cells of a time and of a component
--     figure_row begin figure value      the line of a figure behind these
--     valued_rows begin figures values      the lines of figures that have these values
--     changed_rows begin figures values words      of those that have others in a state of these words
use Rattle.std.specs.Prelude.{◌==◌, ◌||◌, ◌++◌, ◌∷◌, [], ℕ, ℤ, List, Bool, chars, codes, encode_utf8, flat_map, map, slice_index_or, if◌then◌else◌}
use Rattle.std.specs.Fmt.{signed_decimal}
use Rattle.std.specs.List.{list_any, zip}
use Rattle.std.specs.Ordering.{int_eq}
use Rattle.tw_figures.specs.Figures.{value_of}
use Rattle.tw_figures.specs.Labelled.{Label}
use Rattle.tw_figures.specs.Shown.{is_shown}
use Rattle.tw_figures.specs.declared.figure.Measure.{Measure}

abbrev pub figures_in : List Label → List Bool → ℕ → List (List ℕ × Measure)
figures_in labels shown c = if is_shown shown c then slice_index_or (map (λ l. l.figures) labels) c [] else []

abbrev pub values_in : List (List ℕ × Measure) → List ℤ → List ℤ
values_in figures words = map (λ f. value_of f.1 words) figures

-- 44 is a comma, 34 a quote
abbrev pub needs_quotes : ℕ → Bool
needs_quotes b = (b == 44) || (b == 34)

abbrev pub doubled : ℕ → List ℕ
doubled c = if c == 34 then 34 ∷ 34 ∷ [] else encode_utf8 c

abbrev pub cell : List ℕ → List ℕ
cell text = if list_any needs_quotes text then 34 ∷ flat_map doubled (chars text) ++ 34 ∷ [] else text

abbrev pub begin_text : List ℕ → List ℕ → List ℕ
begin_text time name = time ++ codes "," ++ name ++ codes ","

-- behind the cells of the time and of the component
abbrev pub figure_row : List ℕ → List ℕ → ℤ → List ℕ
figure_row begin figure value = begin ++ cell figure ++ codes "," ++ signed_decimal value ++ codes "\n"

abbrev pub valued_rows : List ℕ → List (List ℕ × Measure) → List ℤ → List ℕ
valued_rows begin figures values = flat_map (λ p. figure_row begin p.0.0 p.1) (zip figures values)

abbrev pub changed_row : List ℕ → (List ℕ × Measure) × ℤ → List ℤ → List ℕ
changed_row begin p words = if int_eq p.1 (value_of p.0.1 words) then [] else figure_row begin p.0.0 (value_of p.0.1 words)

abbrev pub changed_rows : List ℕ → List (List ℕ × Measure) → List ℤ → List ℤ → List ℕ
changed_rows begin figures values words = flat_map (λ p. changed_row begin p words) (zip figures values)
