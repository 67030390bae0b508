-- Networks that a file's bytes mean: what they have in common.
use Rattle.std.proofs.Common.{◌≡◌, ◌∙◌, ◌++◌, ℕ, List, ap, ap₂, length, map, sym}
use Rattle.std.proofs.lemmas.List.Sorted.{length_permutation}
use Rattle.std.specs.Fmt.{decimal}
use Rattle.std.specs.Prelude.{Bool, codes}
use Rattle.tw_any_model.specs.AnyModel.{any_meaning}
use Rattle.tw_any_model.specs.declared.any_model.AnyModel.{AnyModel}
use Rattle.tw_any_model.specs.declared.any_model.AnyState.{AnyState}
use Rattle.tw_engine.specs.Checks.{count_text}
use Rattle.tw_engine.specs.Runs.{fault_text, name_in, run_fault, run_text}
use Rattle.tw_engine.specs.Views.{run_table}
use Rattle.tw_figures.specs.declared.seeing.Rows.{Rows}
use Rattle.tw_file_network.specs.OneMeaning.{MeansOne}
use Rattle.tw_file_network.specs.TreeMeaning.{IsMeaning}
use Rattle.tw_laws.specs.Couplings.{AreAlike, CouplingsLaw}
use Rattle.tw_network.specs.Contents.{Contents, message_of, network_of}
use Rattle.tw_network.specs.FlatTrees.{IsSameNetwork}
use Rattle.tw_record_lines.specs.Fields.{Field}
use Rattle.tw_record_lines.specs.Tables.{listed, table_text}
use Rattle.tw_texts.specs.Texts.{trace_text}
use Rattle.tw_theory.specs.Simulator.{Run, sequential}

alike : (n m : Contents AnyModel) → IsSameNetwork m n → AreAlike (network_of any_meaning n) (network_of any_meaning m)
alike n m same = record {
  models = ap (map any_meaning) (sym same.models);
  couplings = same.couplings;
  inputs = ap (map message_of) (sym same.inputs);
  micro_limit = sym same.micro_limit;
}

-- two networks that are seen as one
pub record AreOne (n m : Contents AnyModel) : Type 0 where
  pub same : IsSameNetwork m n
  pub alike : AreAlike (network_of any_meaning n) (network_of any_meaning m)
  pub run : (until : ℕ) → sequential (network_of any_meaning n) until ≡ sequential (network_of any_meaning m) until

pub are_one : ((bytes : List ℕ) → MeansOne bytes) → CouplingsLaw AnyState → (bytes : List ℕ) (n m : Contents AnyModel) → IsMeaning bytes n → IsMeaning bytes m → AreOne n m
are_one means law bytes n m of_n of_m =
    let same = (means bytes).network m n of_m of_n in
    record {
      same = same;
      alike = alike n m same;
      run = law.run (network_of any_meaning n) (network_of any_meaning m) (alike n m same);
    }

abbrev text_with : List (List ℕ) → Run AnyState → List ℕ
text_with names r = trace_text (name_in names) r.records ++ fault_text names r.fault

pub one_run : (n m : Contents AnyModel) → AreOne n m → (until : ℕ) → run_text n until ≡ run_text m until
one_run n m one until = ap₂ text_with (sym one.same.names) (one.run until)

pub one_fault : (n m : Contents AnyModel) → AreOne n m → (until : ℕ) → run_fault n until ≡ run_fault m until
one_fault n m one until = ap (λ (r : Run AnyState). r.fault) (one.run until)

pub one_line : (n m : Contents AnyModel) → AreOne n m → (until : ℕ) → fault_text n.names (run_fault n until) ≡ fault_text m.names (run_fault m until)
one_line n m one until = ap₂ (λ names (r : Run AnyState). fault_text names r.fault) (sym one.same.names) (one.run until)

pub one_table : (n m : Contents AnyModel) → AreOne n m → (rows : Rows) (fields : List Field) (shown : List Bool) (from until : ℕ) → run_table n rows fields shown from until ≡ run_table m rows fields shown from until
one_table n m one rows fields shown from until = ap₂ (λ names (r : Run AnyState). table_text rows fields (name_in names) (listed shown from r.records)) (sym one.same.names) (one.run until)

-- what a network has, by the counts
abbrev counts_text : ℕ → ℕ → ℕ → List ℕ
counts_text components couplings inputs =
    codes "ok: " ++ (decimal components ++ (codes " components, "
    ++ (decimal couplings ++ (codes " couplings, "
    ++ (decimal inputs ++ codes " inputs\n")))))

pub one_count : (n m : Contents AnyModel) → AreOne n m → count_text n ≡ count_text m
one_count n m one =
    let same = one.same in
    ap (λ k. counts_text k (length n.couplings) (length n.inputs)) (ap length (sym same.models))
    ∙ ap (λ k. counts_text (length m.models) k (length n.inputs)) (sym (length_permutation n.couplings m.couplings same.couplings))
    ∙ ap (λ k. counts_text (length m.models) (length m.couplings) k) (ap length (sym same.inputs))
