-- What the engine writes where figures or a table of a run are asked for, and how that ends.
--     IsLineOf n fault line      a line says the fault that a run ends in, and there is none where there is no fault
--     file_labels bytes n      what the models of the network of a file are called, and their figures
--     IsSummed bytes summed end old new      counts, figures and observations of the run of the network that a file's bytes mean, of the components that are shown
--     file_fields bytes      the fields of an item's value that a file names
--     table_with n fields labels t shown      the table of a run, of its records or of its figures
--     IsTabulated bytes tabulated end old new      that table is written
--     IsSummedBy, IsTabulatedBy by bytes      the same in order, or by workers, who may also give up for nodes
use Rattle.std.specs.Global.{Global}
use Rattle.std.specs.Option.{option_map_or}
use Rattle.std.specs.Prelude.{◌≡◌, ◌⊎◌, ℕ, [], Bool, List, Option, None, Some, IfSome, Ok, Err, String, map, option_map, string_bytes}
use Rattle.std.specs.Result.{result_ok}
use Rattle.std.specs.Io.KnownBytes.{Appends, Keeps}
use Rattle.serde_json.specs.Data.{Data}
use Rattle.tw_actions.specs.declared.cancel.Cancel.{Cancel}
use Rattle.tw_any_model.specs.AnyModel.{any_meaning}
use Rattle.tw_any_model.specs.declared.any_model.AnyModel.{AnyModel}
use Rattle.tw_cli.specs.declared.setting.ByWorkers.{ByWorkers}
use Rattle.tw_engine.specs.Ends.{Fails, Fault, ViewEnd}
use Rattle.tw_engine.specs.Runs.{HasNoNetwork, IsGivenUp, IsLate, Means, fault_text, name_in, run_fault}
use Rattle.tw_engine.specs.declared.failed.Failed.{Failed}
use Rattle.tw_engine.specs.declared.failed.Failed.TheVariants.{Bad, Want, NoWrite}
use Rattle.tw_engine.specs.declared.job_stats.Summary.{Summary}
use Rattle.tw_engine.specs.declared.job_table.Listing.{Listing}
use Rattle.tw_engine.specs.declared.job_table.Tabulation.{Tabulation}
use Rattle.tw_exec.specs.Running.{start}
use Rattle.tw_figure_names.specs.Said.{labels_said}
use Rattle.tw_figures.specs.Gathered.{start_words}
use Rattle.tw_figures.specs.Labelled.{Label}
use Rattle.tw_figures.specs.Shown.{shown_of}
use Rattle.tw_figures.specs.declared.seeing.Rows.{Rows}
use Rattle.tw_figures.specs.declared.seeing.Tabled.{Tabled}
use Rattle.tw_figures.specs.declared.seeing.Tabled.TheVariants.{OfRun, OfFigures}
use Rattle.tw_file_network.specs.Meaning.{json_of}
use Rattle.tw_machine_file.specs.Shared.{FieldSaid, fields_said}
use Rattle.tw_network.specs.Contents.{Contents, network_of}
use Rattle.tw_record_lines.specs.declared.held.Held.{Held}
use Rattle.tw_record_lines.specs.Fields.{Field, field}
use Rattle.tw_record_lines.specs.FigureTables.{figures_text}
use Rattle.tw_record_lines.specs.Tables.{listed, table_text}
use Rattle.tw_stats.specs.Reports.{IsReport}
use Rattle.tw_stats.specs.Written.{report_bytes}
use Rattle.tw_stats.specs.declared.report.Report.{Report}
use Rattle.tw_texts.specs.Traces.{AppendsBeginning}
use Rattle.tw_theory.specs.Simulator.{sequential}
use Rattle.tw_vtime.specs.declared.refusal.Refusal.TheVariants as refusal

-- ---- the end of a view

-- the line of the fault that a run ends in, or none
abbrev pub IsLineOf : Contents AnyModel → Option Fault → Option (String Global) → Type 0
IsLineOf n fault None = fault ≡ None
IsLineOf n fault (Some line) = ((met : Fault) × (fault ≡ Some met)) × (string_bytes line ≡ fault_text n.names fault)

-- ---- counts and figures

-- what the models of a network are called, and their figures, as the file of these bytes says it
unfoldable pub file_labels : List ℕ → Contents AnyModel → List Label
file_labels bytes n = option_map_or (λ file. labels_said file n.models) (result_ok (json_of bytes)) []

-- which components are shown, from which tick on, up to which end tick, and whether as JSON
pub record Summed : Type 0 where
  pub only : Option (List ℕ)
  pub from : Option ℕ
  pub until : ℕ
  pub json : Bool

abbrev pub summary_of : Summary → Summed
summary_of s = record { only = option_map (λ o. o.now) s.only; from = s.from; until = s.until; json = s.json }

-- why there is nothing to show: memory was wanting, or no component has one of the names
abbrev pub HasNoneShown : Contents AnyModel → Option (List ℕ) → Failed → Type 0
HasNoneShown n only why = (why ≡ Want refusal.OutOfMemory) ⊎ ((why ≡ Bad refusal.NoSuch None) × (shown_of n.names only ≡ None))

-- the end tick is too late, or no component has one of the names
abbrev pub IsUnseen : Contents AnyModel → Option (List ℕ) → ℕ → Failed → Type 0
IsUnseen n only until why = IsLate until why ⊎ ((why ≡ Bad refusal.NoSuch None) × (shown_of n.names only ≡ None))

-- the report of a network's sequential run is written, with these names and figures of its components' models, of those that are shown
pub record IsReported (n : Contents AnyModel) (labels : List Label) (s : Summed) (old new : Option (List ℕ)) : Type 0 where
  pub shown : List Bool
  pub are : shown_of n.names s.only ≡ Some shown
  pub report : Report
  pub is : IsReport (network_of any_meaning n) s.from s.until labels report
  pub written : Appends old new (report_bytes s.json (name_in n.names) labels shown report)

-- a report is written, of the components that are shown; where memory is wanting nothing is
abbrev pub IsReportWritten : Contents AnyModel → List Label → List Bool → Bool → Report → ViewEnd → Option (List ℕ) → Option (List ℕ) → Type 0
IsReportWritten n labels shown json report (Ok line) old new =
    IsLineOf n report.fault line × Appends old new (report_bytes json (name_in n.names) labels shown report)
IsReportWritten n labels shown json report (Err (Bad why line)) old new = ⊥
IsReportWritten n labels shown json report (Err (Want why)) old new = (why ≡ refusal.OutOfMemory) × Keeps old new
IsReportWritten n labels shown json report (Err NoWrite) old new = Unit {0}

-- where memory is wanting nothing is written
abbrev pub IsSummedOf : Contents AnyModel → List Label → Summed → ViewEnd → Option (List ℕ) → Option (List ℕ) → Type 0
IsSummedOf n labels s (Ok line) old new = IsLineOf n (run_fault n s.until) line × IsReported n labels s old new
IsSummedOf n labels s (Err (Bad why line)) old new = IsUnseen n s.only s.until (Bad why line) × Keeps old new
IsSummedOf n labels s (Err (Want why)) old new = (why ≡ refusal.OutOfMemory) × Keeps old new
IsSummedOf n labels s (Err NoWrite) old new = Unit {0}

abbrev pub IsSummed : List ℕ → Summed → ViewEnd → Option (List ℕ) → Option (List ℕ) → Type 0
IsSummed bytes s end old new = (Fails end (HasNoNetwork bytes) × Keeps old new) ⊎ Means bytes (λ n. IsSummedOf n (file_labels bytes n) s end old new)

-- by workers
abbrev pub IsSummedByWorkers : List ℕ → Cancel → Summed → ViewEnd → Option (List ℕ) → Option (List ℕ) → Type 0
IsSummedByWorkers bytes way s end old new =
    IsSummed bytes s end old new ⊎ Means bytes (λ n. IsGivenUp (start any_meaning n way s.until) end old new)

abbrev pub IsSummedBy : Option ByWorkers → List ℕ → Summed → ViewEnd → Option (List ℕ) → Option (List ℕ) → Type 0
IsSummedBy None bytes s end old new = IsSummed bytes s end old new
IsSummedBy (Some by) bytes s end old new = IsSummedByWorkers bytes by.cancel s end old new

-- ---- the table

-- which components are shown, from which tick on, up to which end tick, and what it is of
pub record Tabulated : Type 0 where
  pub only : Option (List ℕ)
  pub from : ℕ
  pub until : ℕ
  pub of : Tabled

abbrev pub tabulation_of : Tabulation → Tabulated
tabulation_of t = record { only = option_map (λ o. o.now) t.only; from = t.from; until = t.until; of = t.of }

-- the fields that a file says, as columns of a table of items
abbrev pub column : FieldSaid → Field
column f = record { name = f.name; low = f.low; bits = f.bits }

abbrev pub columns_said : Data → List Field
columns_said file = map column (fields_said file)

-- those of the file of these bytes
unfoldable pub file_fields : List ℕ → List Field
file_fields bytes = option_map_or columns_said (result_ok (json_of bytes)) []

-- the table of the records of a network's sequential run, of the components that are shown and from a tick on, with these fields of items
abbrev pub run_table : Contents AnyModel → Rows → List Field → List Bool → ℕ → ℕ → List ℕ
run_table n rows fields shown from until = table_text rows fields (name_in n.names) (listed shown from (sequential (network_of any_meaning n) until).records)

abbrev pub listing_text : Listing → List ℕ
listing_text l = run_table l.run.network.now l.rows (map field l.fields.now) l.shown.now l.from l.run.until

-- the table of the figures of that run, by these labels
abbrev pub figures_table : Contents AnyModel → List Label → List Bool → ℕ → ℕ → List ℕ
figures_table n labels shown from until =
    figures_text (record { name_of = name_in n.names; labels = labels; shown = shown; from = from }) (start_words (network_of any_meaning n)) (sequential (network_of any_meaning n) until).records

-- by what it is of
abbrev pub table_with : Contents AnyModel → List Field → List Label → Tabulated → List Bool → List ℕ
table_with n fields labels t shown = elim t.of [ OfRun rows ↦ run_table n rows fields shown t.from t.until | OfFigures ↦ figures_table n labels shown t.from t.until ]

-- the table of the components that are shown is written
pub record IsTableOf (n : Contents AnyModel) (table : List Bool → List ℕ) (t : Tabulated) (old new : Option (List ℕ)) : Type 0 where
  pub shown : List Bool
  pub are : shown_of n.names t.only ≡ Some shown
  pub written : Appends old new (table shown)

-- or a beginning of it
pub record IsTableBegun (n : Contents AnyModel) (table : List Bool → List ℕ) (t : Tabulated) (old new : Option (List ℕ)) : Type 0 where
  pub shown : List Bool
  pub are : shown_of n.names t.only ≡ Some shown
  pub written : AppendsBeginning old new (table shown)

abbrev pub IsTabulatedOf : Contents AnyModel → (List Bool → List ℕ) → Tabulated → ViewEnd → Option (List ℕ) → Option (List ℕ) → Type 0
IsTabulatedOf n table t (Ok line) old new = IsLineOf n (run_fault n t.until) line × IsTableOf n table t old new
IsTabulatedOf n table t (Err (Bad why line)) old new = IsUnseen n t.only t.until (Bad why line) × Keeps old new
IsTabulatedOf n table t (Err (Want why)) old new = (why ≡ refusal.OutOfMemory) × (Keeps old new ⊎ IsTableBegun n table t old new)
IsTabulatedOf n table t (Err NoWrite) old new = Unit {0}

abbrev pub IsTabulated : List ℕ → Tabulated → ViewEnd → Option (List ℕ) → Option (List ℕ) → Type 0
IsTabulated bytes t end old new =
    (Fails end (HasNoNetwork bytes) × Keeps old new) ⊎ Means bytes (λ n. IsTabulatedOf n (table_with n (file_fields bytes) (file_labels bytes n) t) t end old new)

-- by workers
abbrev pub IsTabulatedByWorkers : List ℕ → Cancel → Tabulated → ViewEnd → Option (List ℕ) → Option (List ℕ) → Type 0
IsTabulatedByWorkers bytes way t end old new =
    IsTabulated bytes t end old new ⊎ Means bytes (λ n. IsGivenUp (start any_meaning n way t.until) end old new)

abbrev pub IsTabulatedBy : Option ByWorkers → List ℕ → Tabulated → ViewEnd → Option (List ℕ) → Option (List ℕ) → Type 0
IsTabulatedBy None bytes t end old new = IsTabulated bytes t end old new
IsTabulatedBy (Some by) bytes t end old new = IsTabulatedByWorkers bytes by.cancel t end old new

-- ---- its parts

-- the text of a table is written, or a beginning of it, and the line of a fault answered
abbrev pub IsTableWritten : Contents AnyModel → Option Fault → List ℕ → ViewEnd → Option (List ℕ) → Option (List ℕ) → Type 0
IsTableWritten n fault text (Ok line) old new = IsLineOf n fault line × Appends old new text
IsTableWritten n fault text (Err (Bad why line)) old new = ⊥
IsTableWritten n fault text (Err (Want why)) old new = (why ≡ refusal.OutOfMemory) × (Keeps old new ⊎ AppendsBeginning old new text)
IsTableWritten n fault text (Err NoWrite) old new = Unit {0}

-- how a table of a run in order ends: it is written, or the end tick is too late
abbrev pub IsListed : Listing → ViewEnd → Option (List ℕ) → Option (List ℕ) → Type 0
IsListed l end old new =
    IsTableWritten l.run.network.now (run_fault l.run.network.now l.run.until) (listing_text l) end old new
    ⊎ (Fails end (IsLate l.run.until) × Keeps old new)

-- how a run ends is known, and its table where it is held
abbrev pub IsTableHeld : Listing → Held → Type 0
IsTableHeld l held =
    (held.fault ≡ run_fault l.run.network.now l.run.until) × IfSome held.lines (λ lines. lines.text ≡ listing_text l)
