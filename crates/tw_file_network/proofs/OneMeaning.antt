-- A tree has at most one flat network, but for the order of its couplings, and at most one first fault; and so have the bytes of a file.
use Rattle.std.proofs.Common.{◌≡◌, ◌∙◌, ℕ, ◌≤◌, List, length, map, refl, sym, ap, subst, arith, Option, None, Some, Result, Ok, Err, slice_index_or}
use Rattle.std.specs.List.{All, Contains}
use Rattle.std.specs.List.Sorted.{IsPermutation}
use Rattle.std.proofs.lemmas.List.Sorted.{IsPermutation-refl}
use Rattle.serde_json.specs.Data.{Data}
use Rattle.tw_any_model.specs.AnyModel.{any_meaning}
use Rattle.tw_any_model.specs.declared.any_model.AnyModel.{AnyModel}
use Rattle.tw_nested.proofs.Flattened.{are_apart}
use Rattle.tw_nested.specs.Tree.{Parts, Link, models_in}
use Rattle.tw_nested.specs.Whole.{AreCouplings, AreTooMany, IsCoupling}
use Rattle.tw_network.proofs.AtomsOnly.{all_of, no_more}
use Rattle.tw_network.proofs.FirstTreeFault.{counts_few}
use Rattle.tw_network.proofs.NoFaults.{is_whole, neither}
use Rattle.tw_network.proofs.TreeSound.{tree_linked, tree_whole}
use Rattle.tw_network.specs.Contents.{Contents, Input, IsWhole, handed_in}
use Rattle.tw_network.specs.Faults.{first_fault, inputs_fault, limit_fault}
use Rattle.tw_network.specs.FlatTrees.{IsSameNetwork}
use Rattle.tw_network.specs.TreeFaults.{IsTreeFault, in_tree, in_couplings, in_inputs, tree_count_fault, tree_fault}
use Rattle.tw_network.specs.declared.refused.NetworkRefused.{NetworkRefused}
use Rattle.tw_file_network.specs.Components.{after, components_made}
use Rattle.tw_file_network.specs.Meaning.{json_of, judged, meaning_of_value, network_numbered, network_of, shape_of}
use Rattle.tw_file_network.specs.Numbers.{names_of, number_of, numbered_coupling, numbered_input}
use Rattle.tw_file_network.specs.OneMeaning.{MeansOne}
use Rattle.tw_file_network.specs.Shape.{File}
use Rattle.tw_file_network.specs.TreeMeaning.{IsFaultBy, IsFaultOfJson, IsMeaningBy, IsMeaningOfJson, IsNetworkOfTree, IsRefusedTree, IsTreeFileFault, IsTreeMeaning, in_network, in_parameter, inputs_named}
use Rattle.tw_file_network.specs.TreeShape.{TreeFile, tree_made, tree_of}
use Rattle.tw_file_network.specs.declared.refused.FileRefused.{FileRefused}
use Rattle.tw_file_network.specs.declared.refused.FileRefused.TheVariants.{Network}
use Rattle.tw_theory.specs.Network.{Coupling}

-- ---- results

ok_is : {A E : Type 0} (r : Result A E) (x y : A) → r ≡ Ok x → r ≡ Ok y → x ≡ y
ok_is r x y e f = cc

err_is : {A E : Type 0} (r : Result A E) (x y : E) → r ≡ Err x → r ≡ Err y → x ≡ y
err_is r x y e f = cc

not_both : {A E : Type 0} (r : Result A E) (x : A) (y : E) → r ≡ Ok x → r ≡ Err y → ⊥
not_both r x y e f = cc

-- ---- couplings of a tree

module _ {M : Type 0} (parts : Parts M) (links : List Link) where
  among : (some flat : List Coupling) → AreCouplings parts links flat → All (IsCoupling parts links) some → All (λ k. Contains flat k) some
  among some flat are sound i d lt = are.whole (slice_index_or some i d) (sound i d lt)

  one_order : (flat other : List Coupling) → AreCouplings parts links flat → AreCouplings parts links other → IsPermutation flat other
  one_order flat other are those = all_of flat other are.once (among flat other those are.sound) (no_more other flat those.once (among other flat are those.sound))

  not_many : (flat : List Coupling) → AreCouplings parts links flat → AreTooMany parts links → ⊥
  not_many flat are t =
      let n = no_more t.some flat t.once (among t.some flat are t.sound) in
      let few = are.few in let many = t.many in
      omega (arith, n, few, many)

-- ---- one first fault of a tree

module _ (parts : Parts AnyModel) (links : List Link) (inputs : List Input) (limit : ℕ) where
  one_fault : (e f : NetworkRefused) → IsTreeFault any_meaning parts links inputs limit e → IsTreeFault any_meaning parts links inputs limit f → e ≡ f
  one_fault _ _ (in_tree e h) (in_tree f g) = cc
  one_fault _ _ (in_tree e h) (in_couplings g many) = absurd cc
  one_fault _ _ (in_tree e h) (in_inputs flat f g are at) = absurd cc
  one_fault _ _ (in_couplings h many) (in_tree f g) = absurd cc
  one_fault _ _ (in_couplings h many) (in_couplings g others) = refl
  one_fault _ _ (in_couplings h many) (in_inputs flat f g are at) = absurd (not_many parts links flat are many)
  one_fault _ _ (in_inputs flat e h are at) (in_tree f g) = absurd cc
  one_fault _ _ (in_inputs flat e h are at) (in_couplings g many) = absurd (not_many parts links flat are many)
  one_fault _ _ (in_inputs flat e h are at) (in_inputs other f g those there) = cc

  no_fault : (e : NetworkRefused) (flat : List Coupling) → tree_fault any_meaning parts links inputs limit ≡ None → AreCouplings parts links flat → inputs_fault (length (models_in parts)) inputs ≡ None
      → IsTreeFault any_meaning parts links inputs limit e → ⊥
  no_fault _ flat sound are none (in_tree e h) = cc
  no_fault _ flat sound are none (in_couplings h many) = not_many parts links flat are many
  no_fault _ flat sound are none (in_inputs other e h those at) = cc

-- ---- one network of a tree

module _ (parts : Parts AnyModel) (links : List Link) (inputs : List Input) (limit : ℕ) where
  one_network : (n m : Contents AnyModel) → IsNetworkOfTree parts links inputs limit n → IsNetworkOfTree parts links inputs limit m → IsSameNetwork n m
  one_network n m is was = record {
    names = is.names ∙ sym was.names;
    models = is.models ∙ sym was.models;
    couplings = one_order parts links m.couplings n.couplings was.couplings is.couplings;
    inputs = is.inputs_as_handed_in ∙ sym was.inputs_as_handed_in;
    micro_limit = is.limit ∙ sym was.limit;
  }

  whole_network : (n : Contents AnyModel) → IsNetworkOfTree parts links inputs limit n → IsWhole any_meaning n
  whole_network n is =
      let p = neither (tree_count_fault parts links (length inputs)) _ is.tree_sound in
      let q = neither (limit_fault limit) _ p.1 in
      let few = counts_few parts links (length inputs) (sym p.0) in
      tree_whole any_meaning parts links n.names n.models n.couplings n.inputs n.micro_limit is.names is.models is.couplings (are_apart parts links (tree_linked any_meaning parts links q.1) n.couplings is.couplings) few.0
      (subst (λ (ins : List Input). length ins ≤ 65536) (sym is.inputs_as_handed_in) few.1)
      (ap limit_fault is.limit ∙ q.0) q.1
      ((λ i. inputs_fault (length (is.models i)) (is.inputs_as_handed_in i)) ∙ is.inputs_sound)

  one_refusal : (e f : FileRefused) → IsRefusedTree parts links inputs limit e → IsRefusedTree parts links inputs limit f → e ≡ f
  one_refusal e f x y = x.1 ∙ ap Network (one_fault parts links inputs limit x.0 y.0 x.2 y.2) ∙ sym y.1

  not_refused : (n : Contents AnyModel) (e : FileRefused) → IsNetworkOfTree parts links inputs limit n → IsRefusedTree parts links inputs limit e → ⊥
  not_refused n e is x = no_fault parts links inputs limit x.0 n.couplings is.tree_sound is.couplings is.inputs_sound x.2

-- ---- of a tree that a file says

module _ (file : TreeFile) where
  tree_network : (n m : Contents AnyModel) → IsTreeMeaning file n → IsTreeMeaning file m → IsSameNetwork n m
  tree_network n m x y =
      let is = ok_is (tree_made file.parts) y.parts x.parts y.made x.made in
      one_network x.parts file.links (inputs_named x.parts file.inputs) file.micro_limit n m x.network
      (subst (λ parts. IsNetworkOfTree parts file.links (inputs_named parts file.inputs) file.micro_limit m) is y.network)

  tree_is_whole : (n : Contents AnyModel) → IsTreeMeaning file n → IsWhole any_meaning n
  tree_is_whole n x = whole_network x.parts file.links (inputs_named x.parts file.inputs) file.micro_limit n x.network

  tree_refusal : (e f : FileRefused) → IsTreeFileFault file e → IsTreeFileFault file f → e ≡ f
  tree_refusal _ _ (in_parameter e h) (in_parameter f g) = err_is (tree_made file.parts) e f h g
  tree_refusal _ _ (in_parameter e h) (in_network parts f g y) = absurd (not_both (tree_made file.parts) parts e g h)
  tree_refusal _ _ (in_network parts e h x) (in_parameter f g) = absurd (not_both (tree_made file.parts) parts f h g)
  tree_refusal _ _ (in_network parts e h x) (in_network others f g y) =
      one_refusal parts file.links (inputs_named parts file.inputs) file.micro_limit e f x
      (subst (λ ps. IsRefusedTree ps file.links (inputs_named ps file.inputs) file.micro_limit f) (ok_is (tree_made file.parts) others parts g h) y)

  tree_apart : (n : Contents AnyModel) (e : FileRefused) → IsTreeMeaning file n → IsTreeFileFault file e → ⊥
  tree_apart n _ x (in_parameter e h) = not_both (tree_made file.parts) x.parts e x.made h
  tree_apart n _ x (in_network parts e h y) =
      not_refused x.parts file.links (inputs_named x.parts file.inputs) file.micro_limit n e x.network
      (subst (λ ps. IsRefusedTree ps file.links (inputs_named ps file.inputs) file.micro_limit e) (ok_is (tree_made file.parts) parts x.parts h x.made) y)

-- ---- of a file of format tw-1

same_network : (n m : Contents AnyModel) → n ≡ m → IsSameNetwork n m
same_network n m e = subst (IsSameNetwork n) e (record { names = refl; models = refl; couplings = IsPermutation-refl n.couplings; inputs = refl; micro_limit = refl })

-- what comes of a result that is no fault
after_ok : {A B : Type 0} (next : A → Result B FileRefused) (r : Result A FileRefused) (P : B → Type 0) (b : B) → after next r ≡ Ok b → ((a : A) → next a ≡ Ok b → P b) → P b
after_ok next (Ok a) P b e f = f a e
after_ok next (Err x) P b e f = absurd cc

judged_whole : (components : List (List ℕ × AnyModel)) (couplings : List Coupling) (inputs : List Input) (limit : ℕ) (n : Contents AnyModel) (o : Option NetworkRefused)
    → first_fault any_meaning components couplings inputs limit ≡ o → judged o (handed_in components couplings inputs limit) ≡ Ok n → IsWhole any_meaning n
judged_whole components couplings inputs limit n None h e =
    subst (IsWhole any_meaning) (ok_is (Ok (handed_in components couplings inputs limit)) (handed_in components couplings inputs limit) n refl e) (is_whole any_meaning components couplings inputs limit h)
judged_whole components couplings inputs limit n (Some f) h e = absurd cc

file_whole : (file : File) (n : Contents AnyModel) → network_of file ≡ Ok n → IsWhole any_meaning n
file_whole file n e =
    let number = number_of (names_of file.components) in
    after_ok (network_numbered number file) (components_made file.components) (IsWhole any_meaning) n e
    (λ components at. judged_whole components (map (numbered_coupling number) file.couplings) (map (numbered_input number) file.inputs) file.micro_limit n _ refl at)

flat_whole : (d : Data) (n : Contents AnyModel) → meaning_of_value d ≡ Ok n → IsWhole any_meaning n
flat_whole d n e = after_ok network_of (shape_of d) (IsWhole any_meaning) n e (λ file there. file_whole file n there)

-- ---- of the JSON value of a file

module _ (d : Data) where
  network_by : (tree : Option TreeFile) (n m : Contents AnyModel) → IsMeaningBy tree d n → IsMeaningBy tree d m → IsSameNetwork n m
  network_by None n m x y = same_network n m (ok_is (meaning_of_value d) n m x y)
  network_by (Some file) n m x y = tree_network file n m x y

  whole_by : (tree : Option TreeFile) (n : Contents AnyModel) → IsMeaningBy tree d n → IsWhole any_meaning n
  whole_by None n x = flat_whole d n x
  whole_by (Some file) n x = tree_is_whole file n x

  fault_by : (tree : Option TreeFile) (e f : FileRefused) → IsFaultBy tree d e → IsFaultBy tree d f → e ≡ f
  fault_by None e f x y = err_is (meaning_of_value d) e f x y
  fault_by (Some file) e f x y = tree_refusal file e f x y

  apart_by : (tree : Option TreeFile) (n : Contents AnyModel) (e : FileRefused) → IsMeaningBy tree d n → IsFaultBy tree d e → ⊥
  apart_by None n e x y = not_both (meaning_of_value d) n e x y
  apart_by (Some file) n e x y = tree_apart file n e x y

-- ---- of the bytes of a file

json_network : (r : Result Data FileRefused) (n m : Contents AnyModel) → IsMeaningOfJson r n → IsMeaningOfJson r m → IsSameNetwork n m
json_network (Ok d) n m is was = network_by d (tree_of d) n m is was
json_network (Err e) n m is was = absurd is

json_whole : (r : Result Data FileRefused) (n : Contents AnyModel) → IsMeaningOfJson r n → IsWhole any_meaning n
json_whole (Ok d) n is = whole_by d (tree_of d) n is
json_whole (Err e) n is = absurd is

json_fault : (r : Result Data FileRefused) (e f : FileRefused) → IsFaultOfJson r e → IsFaultOfJson r f → e ≡ f
json_fault (Ok d) e f is was = fault_by d (tree_of d) e f is was
json_fault (Err g) e f is was = sym is ∙ was

json_apart : (r : Result Data FileRefused) (n : Contents AnyModel) (e : FileRefused) → IsMeaningOfJson r n → IsFaultOfJson r e → ⊥
json_apart (Ok d) n e is was = apart_by d (tree_of d) n e is was
json_apart (Err f) n e is was = is

pub means_one : (bytes : List ℕ) → MeansOne bytes
means_one bytes = record {
  network = json_network (json_of bytes);
  whole = json_whole (json_of bytes);
  fault = json_fault (json_of bytes);
  apart = json_apart (json_of bytes);
}
