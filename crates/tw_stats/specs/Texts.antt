-- A report as text: a line of what it is of, the counts of the components, their figures, and their observations where there are any.
--     first_line report      the tick from which on it tells, where one was asked for, the end tick, and how many components, records and microsteps there are
--     counts_line row, figure_lines row, observation_lines row      the cells of a component in each of the tables
--     observations_text lines      the third table behind an empty line, where it has lines
--     report_text rows report      the whole text, of components with these rows
use Rattle.std.specs.Prelude.{◌++◌, ◌∷◌, [], ℕ, pos, List, Option, Some, None, codes, flat_map, length, map, option_map}
use Rattle.std.specs.Fmt.{decimal, signed_decimal}
use Rattle.std.specs.Option.{option_map_or}
use Rattle.tw_figures.specs.declared.observed.Observed.{Observed}
use Rattle.tw_figures.specs.declared.told.Told.{Told}
use Rattle.tw_stats.specs.Decimals.{thousandths_text}
use Rattle.tw_stats.specs.Grids.{grid_text}
use Rattle.tw_stats.specs.Rows.{Row}
use Rattle.tw_stats.specs.declared.report.Report.{Report}

abbrev pub from_text : Option ℕ → List ℕ
from_text None = []
from_text (Some from) = codes "from " ++ decimal from ++ codes "  "

abbrev pub extent_text : Report → List ℕ
extent_text report =
    codes "until " ++ decimal report.until
    ++ codes "  components " ++ decimal (length report.parts.items)
    ++ codes "  records " ++ decimal report.records
    ++ codes "  microsteps " ++ decimal report.microsteps
    ++ codes "\n"

abbrev pub first_line : Report → List ℕ
first_line report = from_text report.from ++ extent_text report

-- ---- counts

abbrev pub counts_head : List (List ℕ)
counts_head =
    codes "component" ∷ codes "model" ∷ codes "outputs" ∷ codes "sent" ∷ codes "received" ∷ codes "int" ∷ codes "ext" ∷ codes "con" ∷ []

abbrev pub counts_line : Row → List (List ℕ)
counts_line row =
    row.name ∷ row.model ∷ decimal row.counts.outputs ∷ decimal row.counts.sent ∷ decimal row.counts.received
    ∷ decimal row.counts.int ∷ decimal row.counts.ext ∷ decimal row.counts.con ∷ []

-- ---- figures

abbrev pub figures_head : List (List ℕ)
figures_head = codes "component" ∷ codes "figure" ∷ codes "least" ∷ codes "greatest" ∷ codes "last" ∷ codes "mean" ∷ codes "busy" ∷ []

-- of the component of this name
abbrev pub figure_line : List ℕ → List ℕ × Told → List (List ℕ)
figure_line component figure =
    let told = figure.1 in
    component ∷ figure.0 ∷ signed_decimal told.least ∷ signed_decimal told.greatest ∷ signed_decimal told.last
    ∷ thousandths_text told.mean ∷ thousandths_text told.busy ∷ []

abbrev pub figure_lines : Row → List (List (List ℕ))
figure_lines row = map (figure_line row.name) row.figures

-- ---- observations

abbrev pub observations_head : List (List ℕ)
observations_head = codes "component" ∷ codes "observation" ∷ codes "count" ∷ codes "sum" ∷ codes "mean" ∷ codes "sd" ∷ []

-- a dash where there is no such number
abbrev pub observation_line : List ℕ → List ℕ × Observed → List (List ℕ)
observation_line component observation =
    let told = observation.1 in
    component ∷ observation.0 ∷ signed_decimal told.count ∷ signed_decimal told.sum
    ∷ option_map_or thousandths_text told.mean (codes "-") ∷ option_map_or thousandths_text (option_map pos told.deviation) (codes "-") ∷ []

abbrev pub observation_lines : Row → List (List (List ℕ))
observation_lines row = map (observation_line row.name) row.observations

abbrev pub observations_text : List (List (List ℕ)) → List ℕ
observations_text [] = []
observations_text (line ∷ lines) = codes "\n" ++ grid_text 2 (observations_head ∷ line ∷ lines)

-- ---- the report

-- names stand left, and numbers right
abbrev pub report_text : List Row → Report → List ℕ
report_text rows report =
    first_line report ++ codes "\n"
    ++ grid_text 2 (counts_head ∷ map counts_line rows) ++ codes "\n"
    ++ grid_text 2 (figures_head ∷ flat_map figure_lines rows)
    ++ observations_text (flat_map observation_lines rows)
