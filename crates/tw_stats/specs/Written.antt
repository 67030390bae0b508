-- The bytes of a report.
--     rows_bytes json name_of rows report      one line of JSON, or else text, of components with these rows
--     report_bytes json name_of labels shown report      the same, of those of the components with these names and labels that are shown
use Rattle.std.specs.Prelude.{ℕ, List, Bool, if◌then◌else◌}
use Rattle.tw_figures.specs.Labelled.{Label}
use Rattle.tw_stats.specs.Json.{report_json}
use Rattle.tw_stats.specs.Rows.{Row, rows_of, shown_rows}
use Rattle.tw_stats.specs.Texts.{report_text}
use Rattle.tw_stats.specs.declared.report.Report.{Report}

abbrev pub rows_bytes : Bool → (ℕ → List ℕ) → List Row → Report → List ℕ
rows_bytes json name_of rows report = if json then report_json name_of rows report else report_text rows report

abbrev pub report_bytes : Bool → (ℕ → List ℕ) → List Label → List Bool → Report → List ℕ
report_bytes json name_of labels shown report = rows_bytes json name_of (shown_rows (rows_of name_of labels report.parts.items) shown) report
