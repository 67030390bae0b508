-- A report as one line of JSON, without a blank.
--     figure_json, observation_json, row_json, fault_json      a figure, an observation, a component, the fault that ended the run
--     report_json name_of rows report      the whole line, of components with these rows
use Rattle.std.specs.Prelude.{◌++◌, ◌∷◌, [], ℕ, pos, List, Option, Some, None, codes, map, option_map}
use Rattle.std.specs.Fmt.{decimal, signed_decimal}
use Rattle.std.specs.Option.{option_map_or}
use Rattle.tw_figures.specs.declared.observed.Observed.{Observed}
use Rattle.tw_figures.specs.declared.counts.Counts.{Counts}
use Rattle.tw_figures.specs.declared.told.Told.{Told}
use Rattle.tw_theory.specs.Simulator.{Fault}
use Rattle.tw_stats.specs.Decimals.{thousandths_text}
use Rattle.tw_stats.specs.Rows.{Row}
use Rattle.tw_stats.specs.Strings.{array_text, member, object_text, quoted}
use Rattle.tw_stats.specs.declared.report.Report.{Report}
use Rattle.tw_texts.specs.Texts.{limit_text}
use Rattle.tw_vtime.specs.Stamps.{tick_of, micro_of}
use Rattle.tw_vtime.specs.declared.limits.Limit.{Limit}

-- ---- the parts of a report

-- the mean and the share are of so many ticks, and the sums behind them stand beside these
abbrev pub figure_json : ℕ → List ℕ × Told → List ℕ
figure_json ticks figure =
    let told = figure.1 in
    object_text (
    member (codes "name") (quoted figure.0)
    ∷ member (codes "least") (signed_decimal told.least)
    ∷ member (codes "greatest") (signed_decimal told.greatest)
    ∷ member (codes "last") (signed_decimal told.last)
    ∷ member (codes "mean") (thousandths_text told.mean)
    ∷ member (codes "busy") (thousandths_text told.busy)
    ∷ member (codes "mean_of") (array_text (signed_decimal told.sums.sum ∷ decimal ticks ∷ []))
    ∷ member (codes "busy_of") (array_text (decimal told.sums.busy ∷ decimal ticks ∷ []))
    ∷ [])

-- null where there is no such number
abbrev pub observation_json : List ℕ × Observed → List ℕ
observation_json observation =
    let told = observation.1 in
    object_text (
    member (codes "name") (quoted observation.0)
    ∷ member (codes "count") (signed_decimal told.count)
    ∷ member (codes "sum") (signed_decimal told.sum)
    ∷ member (codes "mean") (option_map_or thousandths_text told.mean (codes "null"))
    ∷ member (codes "sd") (option_map_or thousandths_text (option_map pos told.deviation) (codes "null"))
    ∷ [])

abbrev pub counts_members : Counts → List (List ℕ)
counts_members counts =
    member (codes "outputs") (decimal counts.outputs)
    ∷ member (codes "sent") (decimal counts.sent)
    ∷ member (codes "received") (decimal counts.received)
    ∷ member (codes "int") (decimal counts.int)
    ∷ member (codes "ext") (decimal counts.ext)
    ∷ member (codes "con") (decimal counts.con)
    ∷ []

abbrev pub row_json : ℕ → Row → List ℕ
row_json ticks row = object_text (
    member (codes "name") (quoted row.name)
    ∷ member (codes "model") (quoted row.model)
    ∷ counts_members row.counts
    ++ member (codes "figures") (array_text (map (figure_json ticks) row.figures))
    ∷ member (codes "observations") (array_text (map observation_json row.observations))
    ∷ [])

-- at a time, by a limit, of the component of this name
abbrev pub fault_json : List ℕ → ℕ → Limit → List ℕ
fault_json name at limit = object_text (
    member (codes "component") (quoted name)
    ∷ member (codes "tick") (decimal (tick_of at))
    ∷ member (codes "microstep") (decimal (micro_of at))
    ∷ member (codes "limit") (quoted (limit_text limit))
    ∷ [])

-- a member where there is a fault
abbrev pub fault_members : (ℕ → List ℕ) → Option Fault → List (List ℕ)
fault_members name_of None = []
fault_members name_of (Some fault) = member (codes "fault") (fault_json (name_of fault.component) fault.stamp fault.limit) ∷ []

-- ---- the report

-- the tick from which on it tells, where one was asked for, and the end tick
abbrev pub time_members : Option ℕ → ℕ → List (List ℕ)
time_members None until = member (codes "until") (decimal until) ∷ []
time_members (Some from) until = member (codes "from") (decimal from) ∷ member (codes "until") (decimal until) ∷ []

abbrev pub report_members : (ℕ → List ℕ) → List Row → Report → List (List ℕ)
report_members name_of rows report =
    time_members report.from report.until
    ++ member (codes "records") (decimal report.records)
    ∷ member (codes "microsteps") (decimal report.microsteps)
    ∷ member (codes "components") (array_text (map (row_json report.ticks) rows))
    ∷ fault_members name_of report.fault

-- with a newline at the end
abbrev pub report_json : (ℕ → List ℕ) → List Row → Report → List ℕ
report_json name_of rows report = object_text (report_members name_of rows report) ++ codes "\n"
