-- What `stats` writes of networks that are seen as one.
use Rattle.std.proofs.Common.{◌≡◌, ◌∙◌, ℕ, List, [], Bool, ap, ap₂, length, map, subst, sym}
use Rattle.std.proofs.lemmas.List.{length-map}
use Rattle.std.specs.Option.{option_map_or}
use Rattle.std.specs.Prelude.{Option, Result, Ok, Err}
use Rattle.std.specs.Result.{result_ok}
use Rattle.serde_json.specs.Data.{Data}
use Rattle.tw_any_model.specs.AnyModel.{any_meaning}
use Rattle.tw_any_model.specs.declared.any_model.AnyModel.{AnyModel}
use Rattle.tw_engine.proofs.Viewed.{as_many}
use Rattle.tw_engine.specs.Runs.{name_in}
use Rattle.tw_engine.specs.Views.{figures_table, file_labels}
use Rattle.tw_record_lines.specs.FigureTables.{figures_text}
use Rattle.tw_engine_laws.proofs.One.{AreOne}
use Rattle.tw_engine_laws.proofs.OneReport.{one_report}
use Rattle.tw_figure_names.specs.Said.{labels_said}
use Rattle.tw_file_network.specs.Meaning.{json_of}
use Rattle.tw_file_network.specs.TreeMeaning.{IsMeaning, IsMeaningOfJson}
use Rattle.tw_file_network.specs.declared.refused.FileRefused.{FileRefused}
use Rattle.tw_network.specs.Contents.{Contents, network_of}
use Rattle.tw_figures.specs.Gathered.{start_words}
use Rattle.tw_stats.specs.Reports.{IsReport}
use Rattle.tw_stats.specs.Written.{report_bytes}
use Rattle.tw_stats.specs.declared.report.Report.{Report}

-- there is a label for each model
many_in : (file : Result Data FileRefused) (n : Contents AnyModel) → IsMeaningOfJson file n
    → length (option_map_or (λ d. labels_said d n.models) (result_ok file) []) ≡ length n.models
many_in (Ok d) n is = as_many d n.models
many_in (Err e) n is = absurd is

many : (bytes : List ℕ) (n : Contents AnyModel) → IsMeaning bytes n → length (file_labels bytes n) ≡ length n.models
unfolding file_labels
many bytes n is = many_in (json_of bytes) n is

starts_many : (n : Contents AnyModel) → length (start_words (network_of any_meaning n)) ≡ length n.models
starts_many n = length-map (map any_meaning n.models) (λ m. m.words m.start) ∙ length-map n.models any_meaning

one_labels : (bytes : List ℕ) (n m : Contents AnyModel) → AreOne n m → file_labels bytes n ≡ file_labels bytes m
unfolding file_labels
one_labels bytes n m one = ap (λ models. option_map_or (λ d. labels_said d models) (result_ok (json_of bytes)) []) (sym one.same.models)

pub one_summary : (bytes : List ℕ) (n m : Contents AnyModel) → IsMeaning bytes n → AreOne n m → (from : Option ℕ) (until : ℕ) (json : Bool) (shown : List Bool) (r s : Report)
    → IsReport (network_of any_meaning n) from until (file_labels bytes n) r → IsReport (network_of any_meaning m) from until (file_labels bytes m) s
    → report_bytes json (name_in n.names) (file_labels bytes n) shown r ≡ report_bytes json (name_in m.names) (file_labels bytes m) shown s
one_summary bytes n m of_n one from until json shown r s is is' =
    let labels = one_labels bytes n m one in
    let starts : start_words (network_of any_meaning n) ≡ start_words (network_of any_meaning m) = ap (λ models. map (λ x. x.words x.start) (map any_meaning models)) (sym one.same.models) in
    one_report (network_of any_meaning n) (network_of any_meaning m) from until starts (one.run until) json (name_in n.names) (file_labels bytes n) shown r s
    (starts_many n ∙ sym (many bytes n of_n)) is (subst (λ ls. IsReport (network_of any_meaning m) from until ls s) (sym labels) is')
    ∙ ap₂ (λ names ls. report_bytes json (name_in names) ls shown s) (sym one.same.names) labels

-- the table of figures
pub one_figures : (bytes : List ℕ) (n m : Contents AnyModel) → AreOne n m → (shown : List Bool) (from until : ℕ)
    → figures_table n (file_labels bytes n) shown from until ≡ figures_table m (file_labels bytes m) shown from until
one_figures bytes n m one shown from until = λ i.
    figures_text (record { name_of = name_in (sym one.same.names i); labels = one_labels bytes n m one i; shown = shown; from = from })
    (map (λ x. x.words x.start) (map any_meaning (sym one.same.models i))) (one.run until i).records
