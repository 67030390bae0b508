-- What the value of a file of format tw-3 means, by the machines that it declares.
use Rattle.std.proofs.Common.{◌≡◌, ◌≢◌, ◌∙◌, ℕ, List, false, ap, sym, subst, cond}
use Rattle.std.specs.Option.{ok_or}
use Rattle.std.specs.Prelude.{codes, Option, None, Some, option_and_then, Result, Ok, Err}
use Rattle.std.specs.Result.{IfErr, IfOk}
use Rattle.serde_json.specs.Data.{Data}
use Rattle.tw_any_model.specs.declared.any_model.AnyModel.{AnyModel}
use Rattle.tw_machine_file.specs.Seen.{Machine}
use Rattle.tw_file_members.specs.Members.{text_at}
use Rattle.tw_network.specs.Contents.{Contents}
use Rattle.tw_file_network.specs.Components.{after}
use Rattle.tw_file_network.specs.Meaning.{meaning_of_value, network_of}
use Rattle.tw_file_network.specs.TreeMeaning.{IsFaultBy, IsFaultOfValue, IsMeaningBy, IsMeaningOfValue, IsTreeFileFault, IsTreeMeaning}
use Rattle.tw_file_network.specs.TreeShape.{TreeFile, is_tree_format, machines_declared, machines_file_of, machines_file_with, tree_file_of, tree_of}
use Rattle.tw_file_network.specs.declared.refused.FileRefused.{FileRefused}
use Rattle.tw_file_network.specs.declared.refused.FileRefused.TheVariants.{BadShape, OutOfMemory}
use Rattle.tw_file_network.proofs.Formats.{no_flat_file}

module _ (d : Data) (ms ns : List Machine) (flat : is_tree_format (text_at (codes "format") d) ≡ false) (declared : machines_declared d ≡ Some ms) (same : ns ≡ ms) where
  said : tree_of d ≡ machines_file_with d ns
  said =
      ap (λ b. cond b (tree_file_of d) (machines_file_of d)) flat
      ∙ ap (option_and_then (machines_file_with d)) declared
      ∙ ap (machines_file_with d) (sym same)

  no_flat_meaning : meaning_of_value d ≡ Err BadShape
  no_flat_meaning = ap (λ o. after network_of (ok_or o BadShape)) (no_flat_file d ms declared)

  pub no_shape : (e : FileRefused) → (e ≡ BadShape) × (machines_file_with d ns ≡ None) → IsFaultOfValue d e
  no_shape e (is, none) = subst (IsFaultOfValue d) (sym is) (subst (λ (o : Option TreeFile). IsFaultBy o d BadShape) (sym (said ∙ none)) no_flat_meaning)

  module _ (file : TreeFile) (says : machines_file_with d ns ≡ Some file) where
    pub means : (r : Result (Contents AnyModel) FileRefused) → IfOk r (IsTreeMeaning file) → IfOk r (IsMeaningOfValue d)
    means (Ok n) at = subst (λ (o : Option TreeFile). IsMeaningBy o d n) (sym (said ∙ says)) at
    means (Err e) at = tt

    pub fails : (r : Result (Contents AnyModel) FileRefused) → IfErr r (λ e. e ≢ OutOfMemory → IsTreeFileFault file e) → IfErr r (λ e. e ≢ OutOfMemory → IsFaultOfValue d e)
    fails (Ok n) at = tt
    fails (Err e) at = λ other. subst (λ (o : Option TreeFile). IsFaultBy o d e) (sym (said ∙ says)) (at other)
