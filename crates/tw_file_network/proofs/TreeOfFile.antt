-- The first fault of a file's tree, by what its makers answer.
use Rattle.std.proofs.Common.{◌≡◌, ◌∙◌, ◌<◌, ◌≤◌, ℕ, List, [], Bool, true, false, length, map, sym, refl, ap, subst, arith}
use Rattle.std.proofs.lemmas.Bool.Decides.{nat_tests}
use Rattle.std.proofs.lemmas.List.{length-map}
use Rattle.std.specs.Prelude.{◌&&◌, nat_le, Some, Result, Ok}
use Rattle.tw_any_model.specs.declared.any_model.AnyModel.{AnyModel}
use Rattle.tw_any_model.specs.AnyModel.{any_meaning}
use Rattle.tw_nested.specs.Tree.{Parts, Link, flat_names}
use Rattle.tw_network.specs.Contents.{Contents, Input}
use Rattle.tw_network.specs.Faults.{unless}
use Rattle.tw_network.specs.TreeFaults.{IsTreeFault, in_tree, in_couplings, in_inputs, is_few, tree_count_fault, tree_fault}
use Rattle.tw_network.specs.declared.refused.NetworkRefused.{NetworkRefused}
use Rattle.tw_network.specs.declared.refused.NetworkRefused.TheVariants.{TooMany}
use Rattle.tw_file_network.specs.Numbers.{number_of, numbered_input}
use Rattle.tw_file_network.specs.TreeMeaning.{IsNetworkOfTree, IsRefusedTree, IsTreeFileFault, IsTreeMeaning, in_network, inputs_named}
use Rattle.tw_file_network.specs.TreeShape.{TreeFile, tree_made}
use Rattle.tw_file_network.specs.declared.refused.FileRefused.{FileRefused}
use Rattle.tw_file_network.specs.declared.refused.FileRefused.TheVariants.{Network}

above : (n : ℕ) → 65536 < n → nat_le n 65536 ≡ false
above n more = grind (arith, nat_tests)

within : (n : ℕ) → n ≤ 65536 → nat_le n 65536 ≡ true
within n few = grind (arith, nat_tests)

and_false : (b : Bool) → (b && false) ≡ false
and_false true = refl
and_false false = refl

-- ---- the fault of a tree, with and without its inputs

module _ (parts : Parts AnyModel) (links : List Link) (micro_limit : ℕ) (inputs : List Input) where
  too_many : 65536 < length inputs → tree_count_fault parts links (length inputs) ≡ Some TooMany
  too_many more = ap (λ b. unless (is_few parts links && b) TooMany) (above (length inputs) more) ∙ ap (λ b. unless b TooMany) (and_false (is_few parts links))

  pub too_many_inputs : 65536 < length inputs → IsTreeFault any_meaning parts links inputs micro_limit TooMany
  too_many_inputs more = in_tree TooMany (rw (too_many more) refl)

  same_tree : length inputs ≤ 65536 → tree_fault any_meaning parts links [] micro_limit ≡ tree_fault any_meaning parts links inputs micro_limit
  same_tree few = rw (within (length inputs) few) refl

  pub without_inputs : length inputs ≤ 65536 → (e : NetworkRefused) → IsTreeFault any_meaning parts links [] micro_limit e → IsTreeFault any_meaning parts links inputs micro_limit e
  without_inputs few e (in_tree f is) = in_tree f (sym (same_tree few) ∙ is)
  without_inputs few e (in_couplings none many) = in_couplings (sym (same_tree few) ∙ none) many
  without_inputs few e (in_inputs flat f none are is) = absurd cc

-- ---- the file

ok_once : {A : Type 0} (a b : A) (r : Result A FileRefused) → r ≡ Ok a → r ≡ Ok b → a ≡ b
ok_once a b r x y = cc

module _ (file : TreeFile) (parts : Parts AnyModel) (links : List Link) (made : tree_made file.parts ≡ Ok parts) (same : links ≡ file.links) where
  pub many_inputs : 65536 < length file.inputs → IsTreeFileFault file (Network TooMany)
  many_inputs more =
      in_network parts (Network TooMany) made
      (TooMany, refl, too_many_inputs parts file.links file.micro_limit (inputs_named parts file.inputs) (subst (λ (n : ℕ). 65536 < n) (sym (length-map file.inputs _)) more))

  pub no_names : length file.inputs ≤ 65536 → (none : List Input) → none ≡ [] → (e : FileRefused) → IsRefusedTree parts links none file.micro_limit e → IsTreeFileFault file e
  no_names few none empty e (fault, is, first) =
      in_network parts e made (
        fault,
        is,
        without_inputs parts file.links file.micro_limit (inputs_named parts file.inputs) (subst (λ (n : ℕ). n ≤ 65536) (sym (length-map file.inputs _)) few) fault
            (subst (λ (ins : List Input). IsTreeFault any_meaning parts file.links ins file.micro_limit fault) empty
            (subst (λ (ls : List Link). IsTreeFault any_meaning parts ls none file.micro_limit fault) same first)),
      )

  -- inputs by the names of the network that was made first, of the parts that were made then
  module _ (first : Parts AnyModel) (before : tree_made file.parts ≡ Ok first) (names : List (List ℕ)) (named : names ≡ flat_names [] first) (inputs : List Input) (numbered : inputs ≡ map (numbered_input (number_of names)) file.inputs) where
    as_named : inputs ≡ inputs_named parts file.inputs
    as_named = numbered ∙ ap (λ (ns : List (List ℕ)). map (numbered_input (number_of ns)) file.inputs) (named ∙ ap (flat_names []) (ok_once first parts (tree_made file.parts) before made))

    pub means : (n : Contents AnyModel) → IsNetworkOfTree parts links inputs file.micro_limit n → IsTreeMeaning file n
    means n is = record {
      parts = parts;
      made = made;
      network = subst (λ (ins : List Input). IsNetworkOfTree parts file.links ins file.micro_limit n) as_named (subst (λ (ls : List Link). IsNetworkOfTree parts ls inputs file.micro_limit n) same is);
    }

    pub refused : (e : FileRefused) → IsRefusedTree parts links inputs file.micro_limit e → IsTreeFileFault file e
    refused e is =
        in_network parts e made
        (subst (λ (ins : List Input). IsRefusedTree parts file.links ins file.micro_limit e) as_named (subst (λ (ls : List Link). IsRefusedTree parts ls inputs file.micro_limit e) same is))
