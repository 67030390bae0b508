-- What the value of a file of any format means, by what its format said and what was read of it.
use Rattle.std.proofs.Common.{◌≡◌, ◌≢◌, ◌∙◌, ℕ, List, Bool, true, false, ap, sym, refl, subst, cond}
use Rattle.std.proofs.lemmas.Slice.Eq.{bytes_eq-Decides}
use Rattle.std.specs.Option.{ok_or, option_map_or}
use Rattle.std.specs.Prelude.{codes, Option, None, Some, option_and_then, Result, Ok, Err}
use Rattle.std.specs.Result.{IfErr, IfOk}
use Rattle.std.specs.Str.{bytes_eq}
use Rattle.serde_json.specs.Data.{Data}
use Rattle.tw_any_model.specs.declared.any_model.AnyModel.{AnyModel}
use Rattle.tw_file_members.specs.Members.{has_members, text_at}
use Rattle.tw_network.specs.Contents.{Contents}
use Rattle.tw_file_network.specs.Components.{after}
use Rattle.tw_file_network.specs.Meaning.{meaning_of_value, network_of, shape_of}
use Rattle.tw_file_network.specs.Shape.{File, file_of, is_format}
use Rattle.tw_file_network.specs.TreeMeaning.{IsFaultBy, IsFaultOfValue, IsMeaningBy, IsMeaningOfValue, IsTreeFileFault, IsTreeMeaning}
use Rattle.tw_file_network.specs.TreeShape.{member_count, TreeFile, is_machines_format, is_tree_format, machines_at, machines_declared, machines_file_of, machines_file_with, tree_file_of, tree_of}
use Rattle.tw_file_network.specs.declared.refused.FileRefused.{FileRefused}
use Rattle.tw_file_network.specs.declared.refused.FileRefused.TheVariants.{BadShape, OutOfMemory}

-- a file of another format is none of format tw-1
not_flat : {A : Type 0} (name : List ℕ) (b : Bool) (format : Option (List ℕ)) (y : Option A) → bytes_eq name (codes "tw-1") ≡ false
    → option_map_or (λ f. bytes_eq f name) format false ≡ true → cond b (cond (is_format format) y None) None ≡ None
not_flat name false format y other is = refl
not_flat name true None y other is = absurd cc
not_flat name true (Some t) y other is = ap (λ u. cond (bytes_eq u (codes "tw-1")) y None) ((bytes_eq-Decides t name).0 is) ∙ ap (λ s. cond s y None) other

either_way : {A : Type 0} (b : Bool) (o : Option A) → cond b o o ≡ o
either_way true o = refl
either_way false o = refl

module _ (d : Data) where
  meant : (r : Result File FileRefused) → shape_of d ≡ r → meaning_of_value d ≡ after network_of r
  meant r is = ap (after network_of) is

  said : (b : Bool) → is_tree_format (text_at (codes "format") d) ≡ b → tree_of d ≡ cond b (tree_file_of d) (machines_file_of d)
  said b is = ap (λ b. cond b (tree_file_of d) (machines_file_of d)) is

  bad : tree_of d ≡ None → file_of d ≡ None → (e : FileRefused) → e ≡ BadShape → IsFaultOfValue d e
  bad none flat e is =
      subst (IsFaultOfValue d) (sym is) (subst (λ (o : Option TreeFile). IsFaultBy o d BadShape) (sym none) (meant (Err BadShape) (ap (λ o. ok_or o BadShape) flat)))

  -- a tree
  module _ (tree : is_tree_format (text_at (codes "format") d) ≡ true) where
    pub no_tree : (e : FileRefused) → (e ≡ BadShape) × (tree_file_of d ≡ None) → IsFaultOfValue d e
    no_tree e (is, none) = bad (said true tree ∙ none) (not_flat (codes "tw-2") (has_members 5 d) (text_at (codes "format") d) _ refl tree) e is

    module _ (file : TreeFile) (is : tree_file_of d ≡ Some file) where
      pub tree_means : (r : Result (Contents AnyModel) FileRefused) → IfOk r (IsTreeMeaning file) → IfOk r (IsMeaningOfValue d)
      tree_means (Ok n) at = subst (λ (o : Option TreeFile). IsMeaningBy o d n) (sym (said true tree ∙ is)) at
      tree_means (Err e) at = tt

      pub tree_fails : (r : Result (Contents AnyModel) FileRefused) → IfErr r (λ e. e ≢ OutOfMemory → IsTreeFileFault file e) → IfErr r (λ e. e ≢ OutOfMemory → IsFaultOfValue d e)
      tree_fails (Ok n) at = tt
      tree_fails (Err e) at = λ other. subst (λ (o : Option TreeFile). IsFaultBy o d e) (sym (said true tree ∙ is)) (at other)

  module _ (other : is_tree_format (text_at (codes "format") d) ≡ false) where
    -- a tree whose machines are none
    pub no_machines : is_machines_format (text_at (codes "format") d) ≡ true → (e : FileRefused) → (e ≡ BadShape) × (machines_declared d ≡ None) → IsFaultOfValue d e
    no_machines machines e (is, none) =
        bad (said false other ∙ ap (option_and_then (machines_file_with d)) none) (not_flat (codes "tw-3") (has_members 5 d) (text_at (codes "format") d) _ refl machines) e is

    -- no tree
    module _ (flat : is_machines_format (text_at (codes "format") d) ≡ false) where
      none_said : tree_of d ≡ None
      none_said =
          said false other
          ∙ ap (λ b. option_and_then (machines_file_with d) (cond (has_members (member_count d) d) (cond b (machines_at d) None) None)) flat
          ∙ ap (option_and_then (machines_file_with d)) (either_way (has_members (member_count d) d) None)

      pub no_draft : (e : FileRefused) → shape_of d ≡ Err e → IsFaultOfValue d e
      no_draft e is = subst (λ (o : Option TreeFile). IsFaultBy o d e) (sym none_said) (meant (Err e) is)

      module _ (file : File) (is : shape_of d ≡ Ok file) where
        pub flat_means : (r : Result (Contents AnyModel) FileRefused) → IfOk r (λ n. network_of file ≡ Ok n) → IfOk r (IsMeaningOfValue d)
        flat_means (Ok n) at = subst (λ (o : Option TreeFile). IsMeaningBy o d n) (sym none_said) (meant (Ok file) is ∙ at)
        flat_means (Err e) at = tt

        pub flat_fails : (r : Result (Contents AnyModel) FileRefused) → IfErr r (λ e. e ≢ OutOfMemory → network_of file ≡ Err e) → IfErr r (λ e. e ≢ OutOfMemory → IsFaultOfValue d e)
        flat_fails (Ok n) at = tt
        flat_fails (Err e) at = λ other. subst (λ (o : Option TreeFile). IsFaultBy o d e) (sym none_said) (meant (Ok file) is ∙ at other)
