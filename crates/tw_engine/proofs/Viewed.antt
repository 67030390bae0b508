-- From what is told of a network's run to what is said of its view, and how that ends.
use Rattle.std.proofs.Common.{◌≡◌, ◌<◌, ◌+◌, ℕ, suc, List, [], ◌∷◌, ap, inl, inr, length, refl, subst, sym}
use Rattle.std.specs.Global.{Global}
use Rattle.serde_json.specs.Data.{Data, Items}
use Rattle.std.specs.Option.{option_map_or}
use Rattle.std.specs.Prelude.{◌≢◌, ◌⊎◌, Bool, Option, Some, Result, Ok, Err, String, codes}
use Rattle.std.specs.Result.{result_ok}
use Rattle.std.specs.Io.KnownBytes.{Appends, Keeps}
use Rattle.tw_any_model.specs.AnyModel.{any_meaning}
use Rattle.tw_any_model.specs.declared.any_model.AnyModel.{AnyModel}
use Rattle.tw_engine.proofs.Driven.{keeps_all}
use Rattle.tw_engine.specs.Ends.{Fails, Fault, ViewEnd, failed_of}
use Rattle.tw_engine.specs.Runs.{HasNoRun, IsLate, IsUnmade, name_in, run_fault}
use Rattle.tw_engine.specs.Views.{HasNoneShown, IsLineOf, IsReportWritten, IsSummedByWorkers, IsSummedOf, IsTableWritten, IsTabulatedByWorkers, IsTabulatedOf, Summed, Tabulated, columns_said, figures_table, file_fields, file_labels, run_table, table_with}
use Rattle.tw_figures.specs.declared.seeing.Rows.{Rows}
use Rattle.tw_figures.specs.declared.seeing.Tabled.TheVariants.{OfRun, OfFigures}
use Rattle.tw_engine.specs.declared.failed.Failed.{Failed}
use Rattle.tw_engine.specs.declared.failed.Failed.TheVariants.{Bad, Want, NoWrite}
use Rattle.tw_figures.specs.Shown.{shown_of}
use Rattle.tw_figure_names.specs.Said.{atoms_of, labels_from, labels_said, machines_said}
use Rattle.tw_file_members.specs.Members.{items_in}
use Rattle.tw_machine_file.specs.Seen.{Machine}
use Rattle.tw_figures.specs.Labelled.{Label}
use Rattle.tw_file_network.specs.Meaning.{json_of}
use Rattle.tw_file_network.specs.TreeMeaning.{IsMeaning}
use Rattle.tw_file_network.specs.declared.refused.FileRefused.{FileRefused}
use Rattle.tw_network.specs.Contents.{Contents, network_of}
use Rattle.tw_stats.specs.Reports.{IsReport}
use Rattle.tw_stats.specs.Written.{report_bytes}
use Rattle.tw_stats.specs.declared.report.Report.{Report}
use Rattle.tw_record_lines.specs.Fields.{Field}
use Rattle.tw_rounds.specs.Refusals.{seq_refusal}
use Rattle.tw_rounds.specs.declared.refused.SeqRefused.{SeqRefused}
use Rattle.tw_rounds.specs.declared.refused.SeqRefused.TheVariants as run
use Rattle.tw_texts.specs.Refusals.{not_written_refusal}
use Rattle.tw_theory.specs.Contents.{Cancel}
use Rattle.tw_texts.specs.Traces.{AppendsBeginning}
use Rattle.tw_texts.specs.declared.traces.NotWritten.{NotWritten}
use Rattle.tw_texts.specs.declared.traces.NotWritten.TheVariants as writing
use Rattle.tw_vtime.specs.Stamps.{max_tick}

-- there is a label for each model
as_many_from : (machines : List Machine) (values : Items) (said : List Data) (k : ℕ) (models : List AnyModel) → length (labels_from machines values said k models) ≡ length models
as_many_from machines values said k [] = refl
as_many_from machines values said k (m ∷ ms) = ap suc (as_many_from machines values said (k + 1) ms)

pub as_many : (file : Data) (models : List AnyModel) → length (labels_said file models) ≡ length models
as_many file models = as_many_from (machines_said file) (items_in (codes "models") file) (atoms_of file) 0 models

-- the labels of the file that was read are those of its bytes
pub labels_of_bytes : (bytes : List ℕ) (file : Data) (n : Contents AnyModel) → json_of bytes ≡ Ok file → labels_said file n.models ≡ file_labels bytes n
unfolding file_labels
labels_of_bytes bytes file n is = sym (ap (λ (r : Result Data FileRefused). option_map_or (λ file. labels_said file n.models) (result_ok r) []) is)

-- and so are the fields
pub fields_of_bytes : (bytes : List ℕ) (file : Data) → json_of bytes ≡ Ok file → columns_said file ≡ file_fields bytes
unfolding file_fields
fields_of_bytes bytes file is = sym (ap (λ (r : Result Data FileRefused). option_map_or columns_said (result_ok r) []) is)

-- ---- counts and figures

module _ (n : Contents AnyModel) (labels : List Label) (s : Summed) where
  -- they are of the run
  pub summed_up : (shown : List Bool) (report : Report) (line : Option (String Global)) (old new : Option (List ℕ)) → shown_of n.names s.only ≡ Some shown
      → IsReport (network_of any_meaning n) s.from s.until labels report → IsLineOf n report.fault line
      → Appends old new (report_bytes s.json (name_in n.names) labels shown report) → IsSummedOf n labels s (Ok line) old new
  summed_up shown report line old new are is of written = (
    subst (λ (f : Option Fault). IsLineOf n f line) is.fault of,
    record { shown = shown; are = are; report = report; is = is; written = written },
  )

  -- by a report that is written
  pub summed_by : (shown : List Bool) (report : Report) (end : ViewEnd) (old new : Option (List ℕ)) → shown_of n.names s.only ≡ Some shown
      → IsReport (network_of any_meaning n) s.from s.until labels report → IsReportWritten n labels shown s.json report end old new → IsSummedOf n labels s end old new
  summed_by shown report (Ok line) old new are is w = summed_up shown report line old new are is w.0 w.1
  summed_by shown report (Err (Bad why line)) old new are is w = absurd w
  summed_by shown report (Err (Want why)) old new are is w = w
  summed_by shown report (Err NoWrite) old new are is w = tt

  -- there is no run
  pub unsummed_for : (why : Failed) (old : Option (List ℕ)) → HasNoRun s.until why → IsSummedOf n labels s (Err why) old old
  unsummed_for why old (inl want) = subst (λ w. IsSummedOf n labels s (Err w) old old) (sym want) (refl, keeps_all old)
  unsummed_for why old (inr late) = subst (λ w. IsSummedOf n labels s (Err w) old old) (sym late.0) (inl (refl, late.1), keeps_all old)

  -- there is nothing to show
  pub none_summed : (why : Failed) (old : Option (List ℕ)) → HasNoneShown n s.only why → IsSummedOf n labels s (Err why) old old
  none_summed why old (inl want) = subst (λ w. IsSummedOf n labels s (Err w) old old) (sym want) (refl, keeps_all old)
  none_summed why old (inr none) = subst (λ w. IsSummedOf n labels s (Err w) old old) (sym none.0) (inr (refl, none.1), keeps_all old)

  -- a run that is refused
  pub not_reported : (why : SeqRefused) (old : Option (List ℕ))
      → (why ≡ run.BadTick → max_tick < s.until) → IsSummedOf n labels s (Err (failed_of (seq_refusal why))) old old
  not_reported run.OutOfMemory old late = (refl, keeps_all old)
  not_reported run.BadTick old late = (inl (refl, late refl), keeps_all old)

  -- writing that is refused
  pub not_summed : (why : NotWritten) (old new : Option (List ℕ))
      → (why ≢ writing.WriteFailed → Keeps old new) → IsSummedOf n labels s (Err (failed_of (not_written_refusal why))) old new
  not_summed writing.OutOfMemory old new keeps = (refl, keeps (λ e. cc))
  not_summed writing.WriteFailed old new keeps = tt

-- a report that is not written
pub report_short : (n : Contents AnyModel) (labels : List Label) (shown : List Bool) (json : Bool) (report : Report) (why : NotWritten) (old new : Option (List ℕ))
    → (why ≢ writing.WriteFailed → Keeps old new) → IsReportWritten n labels shown json report (Err (failed_of (not_written_refusal why))) old new
report_short n labels shown json report writing.OutOfMemory old new keeps = (refl, keeps (λ e. cc))
report_short n labels shown json report writing.WriteFailed old new keeps = tt

-- workers made no run
pub unsummed : (bytes : List ℕ) (n : Contents AnyModel) → IsMeaning bytes n → (way : Cancel) (s : Summed) (why : Failed) (old : Option (List ℕ))
    → IsUnmade n way s.until why → IsSummedByWorkers bytes way s (Err why) old old
unsummed bytes n means way s why old (inl none) = inl (inr (n, means, unsummed_for n (file_labels bytes n) s why old none))
unsummed bytes n means way s why old (inr full) = inr (n, means, (full, keeps_all old))

-- ---- the table

module _ (n : Contents AnyModel) (table : List Bool → List ℕ) (t : Tabulated) where
  pub tabulated : (shown : List Bool) (fault : Option Fault) (line : Option (String Global)) (old new : Option (List ℕ)) → shown_of n.names t.only ≡ Some shown
      → fault ≡ run_fault n t.until → IsLineOf n fault line → Appends old new (table shown) → IsTabulatedOf n table t (Ok line) old new
  tabulated shown fault line old new are is of written =
      (subst (λ (f : Option Fault). IsLineOf n f line) is of, record { shown = shown; are = are; written = written })

  -- by a table that is written
  pub tabulated_by : (shown : List Bool) (fault : Option Fault) (end : ViewEnd) (old new : Option (List ℕ)) → shown_of n.names t.only ≡ Some shown
      → fault ≡ run_fault n t.until → IsTableWritten n fault (table shown) end old new → IsTabulatedOf n table t end old new
  tabulated_by shown fault (Ok line) old new are is w = tabulated shown fault line old new are is w.0 w.1
  tabulated_by shown fault (Err (Bad why line)) old new are is w = absurd w
  tabulated_by shown fault (Err (Want why)) old new are is (memory, inl keeps) = (memory, inl keeps)
  tabulated_by shown fault (Err (Want why)) old new are is (memory, inr begun) = (memory, inr (record { shown = shown; are = are; written = begun }))
  tabulated_by shown fault (Err NoWrite) old new are is w = tt

  -- of a run in order
  pub tabulated_in_order : (shown : List Bool) (end : ViewEnd) (old new : Option (List ℕ)) → shown_of n.names t.only ≡ Some shown
      → IsTableWritten n (run_fault n t.until) (table shown) end old new ⊎ (Fails end (IsLate t.until) × Keeps old new) → IsTabulatedOf n table t end old new
  tabulated_in_order shown end old new are (inl written) = tabulated_by shown (run_fault n t.until) end old new are refl written
  tabulated_in_order shown (Ok line) old new are (inr late) = absurd late.0
  tabulated_in_order shown (Err why) old new are (inr late) = subst (λ w. IsTabulatedOf n table t (Err w) old new) (sym late.0.0) (inl (refl, late.0.1), late.1)

  -- there is nothing to show
  pub none_tabulated : (why : Failed) (old : Option (List ℕ)) → HasNoneShown n t.only why → IsTabulatedOf n table t (Err why) old old
  none_tabulated why old (inl want) = subst (λ w. IsTabulatedOf n table t (Err w) old old) (sym want) (refl, inl (keeps_all old))
  none_tabulated why old (inr none) = subst (λ w. IsTabulatedOf n table t (Err w) old old) (sym none.0) (inr (refl, none.1), keeps_all old)

  -- a run that is refused, before anything is written
  pub not_tabulated : (why : Failed) (old : Option (List ℕ)) → HasNoRun t.until why → IsTabulatedOf n table t (Err why) old old
  not_tabulated why old (inl want) = subst (λ w. IsTabulatedOf n table t (Err w) old old) (sym want) (refl, inl (keeps_all old))
  not_tabulated why old (inr late) = subst (λ w. IsTabulatedOf n table t (Err w) old old) (sym late.0) (inl (refl, late.1), keeps_all old)

  -- a table that is not written to its end
  pub table_short : (shown : List Bool) (why : NotWritten) (old new : Option (List ℕ)) → shown_of n.names t.only ≡ Some shown
      → (why ≡ writing.OutOfMemory → AppendsBeginning old new (table shown)) → IsTabulatedOf n table t (Err (failed_of (not_written_refusal why))) old new
  table_short shown writing.OutOfMemory old new are begun = (refl, inr (record { shown = shown; are = are; written = begun refl }))
  table_short shown writing.WriteFailed old new are begun = tt

-- a table that is not written to its end, and neither is its text
pub text_begun : (n : Contents AnyModel) (fault : Option Fault) (text : List ℕ) (why : NotWritten) (old new : Option (List ℕ))
    → (why ≡ writing.OutOfMemory → AppendsBeginning old new text) → IsTableWritten n fault text (Err (failed_of (not_written_refusal why))) old new
text_begun n fault text writing.OutOfMemory old new begun = (refl, inr (begun refl))
text_begun n fault text writing.WriteFailed old new begun = tt

-- workers made no run
pub untabulated : (bytes : List ℕ) (n : Contents AnyModel) → IsMeaning bytes n → (way : Cancel) (t : Tabulated) (why : Failed) (old : Option (List ℕ))
    → IsUnmade n way t.until why → IsTabulatedByWorkers bytes way t (Err why) old old
untabulated bytes n means way t why old (inl none) = inl (inr (n, means, not_tabulated n (table_with n (file_fields bytes) (file_labels bytes n) t) t why old none))
untabulated bytes n means way t why old (inr full) = inr (n, means, (full, keeps_all old))

-- a table that is of records
pub of_rows : (n : Contents AnyModel) (fields : List Field) (labels : List Label) (t : Tabulated) (rows : Rows) → t.of ≡ OfRun rows → ◌≡◌ {A = List Bool → List ℕ} (λ shown. run_table n rows fields shown t.from t.until) (λ shown. table_with n fields labels t shown)
of_rows n fields labels t rows is = λ i. λ shown. elim (sym is i) [ OfRun rows ↦ run_table n rows fields shown t.from t.until | OfFigures ↦ figures_table n labels shown t.from t.until ]

-- a table that is of figures
pub of_figures : (n : Contents AnyModel) (fields : List Field) (labels : List Label) (t : Tabulated) → t.of ≡ OfFigures → ◌≡◌ {A = List Bool → List ℕ} (λ shown. figures_table n labels shown t.from t.until) (λ shown. table_with n fields labels t shown)
of_figures n fields labels t is = λ i. λ shown. elim (sym is i) [ OfRun rows ↦ run_table n rows fields shown t.from t.until | OfFigures ↦ figures_table n labels shown t.from t.until ]
