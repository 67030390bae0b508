-- A tree of too many atoms: its first fault, told by its drafts, none of which is made.
use Rattle.std.proofs.Common.{◌≡◌, ◌∙◌, ◌+◌, ◌<◌, ℕ, suc, List, Bool, true, false, String, string_bytes, ◌≤◌, refl, sym, subst, ap, arith, length, drop, get_or, min}
use Rattle.std.proofs.lemmas.Bool.Decides.{nat_tests}
use Rattle.std.proofs.lemmas.List.{length-append}
use Rattle.std.specs.Option.{option_or}
use Rattle.std.specs.Prelude.{◌&&◌, nat_le, Option, Some, None, Result, Ok, Err}
use Rattle.std.specs.Result.{result_err}
use Rattle.std.specs.declared.alloc.Global.{Global}
use Rattle.tw_any_model.specs.declared.any_model.AnyModel.{AnyModel}
use Rattle.tw_any_model.specs.AnyModel.{any_meaning}
use Rattle.tw_nested.specs.declared.tree.Part.{Part}
use Rattle.tw_nested.specs.Tree.{Parts, Link, no_parts, atom, coupled, coupled_count, levels, link_count, models_in, part_view, parts_of}
use Rattle.tw_network.specs.Contents.{Input}
use Rattle.tw_network.specs.Faults.{unless}
use Rattle.tw_network.specs.TreeFaults.{IsTreeFault, in_tree, tree_count_fault}
use Rattle.tw_network.specs.declared.refused.NetworkRefused.TheVariants.{TooMany}
use Rattle.tw_file_network.specs.Components.{after, any_model_of}
use Rattle.tw_file_network.specs.TreeMeaning.{IsTreeFileFault, in_network, in_parameter, inputs_named}
use Rattle.tw_file_network.specs.TreeShape.{TreeFile, tree_made}
use Rattle.tw_file_network.specs.declared.draft.AnyDraft.{AnyDraft}
use Rattle.tw_file_network.specs.declared.refused.FileRefused.{FileRefused}
use Rattle.tw_file_network.specs.declared.refused.FileRefused.TheVariants.{Network}
use Rattle.tw_file_network.proofs.PartsInOrder.{at_place, none_left}

-- ---- a result by its fault

no_error : {A : Type 0} (r : Result A FileRefused) → result_err r ≡ None → (a : A) × (r ≡ Ok a)
no_error (Ok a) is = (a, refl)
no_error (Err e) is = absurd cc

an_error : {A : Type 0} (r : Result A FileRefused) (e : FileRefused) → result_err r ≡ Some e → r ≡ Err e
an_error (Ok a) e is = absurd cc
an_error (Err f) e is = cc

pub after_fault : {A B C : Type 0} (f : A → B → C) (r : Result A FileRefused) (s : Result B FileRefused)
    → result_err (after (λ a. after (λ b. Ok (f a b)) s) r) ≡ option_or (result_err r) (result_err s)
after_fault f (Ok a) (Ok b) = refl
after_fault f (Ok a) (Err e) = refl
after_fault f (Err e) s = refl

-- ---- parts one by one

module _ (ps qs : List (String Global × Part AnyDraft)) (i : ℕ) (q : String Global × Part AnyDraft) (same : qs ≡ ps) (lt : i < length qs) (is : q ≡ get_or qs i q) where
  pub fault_here : (o : Option FileRefused)
      → ((name : List ℕ) (rest : Parts AnyDraft) → result_err (tree_made (part_view {M = AnyDraft} q.1 name rest)) ≡ option_or o (result_err (tree_made rest)))
      → result_err (tree_made (parts_of {M = AnyDraft} (drop i ps))) ≡ option_or o (result_err (tree_made (parts_of {M = AnyDraft} (drop (i + 1) ps))))
  fault_here o at =
      ap (λ (xs : List (String Global × Part AnyDraft)). result_err (tree_made (parts_of {M = AnyDraft} xs))) (at_place ps qs i q same lt is)
      ∙ at (string_bytes q.0) (parts_of {M = AnyDraft} (drop (i + 1) ps))

  pub counted_here : (n : ℕ)
      → ((name : List ℕ) (rest : Parts AnyDraft) → min (length (models_in (part_view {M = AnyDraft} q.1 name rest))) 1025 ≡ min (n + length (models_in rest)) 1025)
      → min (length (models_in (parts_of {M = AnyDraft} (drop i ps)))) 1025 ≡ min (n + length (models_in (parts_of {M = AnyDraft} (drop (i + 1) ps)))) 1025
  counted_here n at =
      ap (λ (xs : List (String Global × Part AnyDraft)). min (length (models_in (parts_of {M = AnyDraft} xs))) 1025) (at_place ps qs i q same lt is)
      ∙ at (string_bytes q.0) (parts_of {M = AnyDraft} (drop (i + 1) ps))

pub no_fault_left : (ps qs : List (String Global × Part AnyDraft)) (i : ℕ) → qs ≡ ps → length qs ≤ i → result_err (tree_made (parts_of {M = AnyDraft} (drop i ps))) ≡ None
no_fault_left ps qs i same past = ap (λ (xs : List (String Global × Part AnyDraft)). result_err (tree_made (parts_of {M = AnyDraft} xs))) (none_left ps qs i same past)

pub no_atom_left : (ps qs : List (String Global × Part AnyDraft)) (i : ℕ) → qs ≡ ps → length qs ≤ i → length (models_in (parts_of {M = AnyDraft} (drop i ps))) ≡ 0
no_atom_left ps qs i same past = ap (λ (xs : List (String Global × Part AnyDraft)). length (models_in (parts_of {M = AnyDraft} xs))) (none_left ps qs i same past)

-- ---- as many models are made as there are drafts

abbrev count_in : Result (Parts AnyModel) FileRefused → ℕ
count_in (Ok parts) = length (models_in parts)
count_in (Err e) = 0

module _ (name : List ℕ) (q : Parts AnyModel) where
  of_atom : (n : ℕ) (r : Result AnyModel FileRefused) (s : Result (Parts AnyModel) FileRefused) → ((more : Parts AnyModel) → s ≡ Ok more → length (models_in more) ≡ n)
      → after (λ m. after (λ more. Ok (atom name m more)) s) r ≡ Ok q → length (models_in q) ≡ suc n
  of_atom n (Err e) s made is = absurd cc
  of_atom n (Ok m) (Err e) made is = absurd cc
  of_atom n (Ok m) (Ok more) made is = sym (ap count_in is) ∙ ap suc (made more refl)

  of_coupled : (a b : ℕ) (links : List Link) (r s : Result (Parts AnyModel) FileRefused) → ((inner : Parts AnyModel) → r ≡ Ok inner → length (models_in inner) ≡ a)
      → ((more : Parts AnyModel) → s ≡ Ok more → length (models_in more) ≡ b)
      → after (λ within. after (λ more. Ok (coupled name within links more)) s) r ≡ Ok q → length (models_in q) ≡ a + b
  of_coupled a b links (Err e) s inner more is = absurd cc
  of_coupled a b links (Ok p) (Err e) inner more is = absurd cc
  of_coupled a b links (Ok p) (Ok rest) inner more is = sym (ap count_in is) ∙ length-append (models_in p) (models_in rest) ∙ (λ j. inner p refl j + more rest refl j)

made_count : (p : Parts AnyDraft) (q : Parts AnyModel) → tree_made p ≡ Ok q → length (models_in q) ≡ length (models_in p)
made_count no_parts q is = sym (ap count_in is)
made_count (atom name draft rest) q is = of_atom name q (length (models_in rest)) (any_model_of draft) (tree_made rest) (made_count rest) is
made_count (coupled name inner links rest) q is =
    of_coupled name q (length (models_in inner)) (length (models_in rest)) links (tree_made inner) (tree_made rest) (made_count inner) (made_count rest) is
    ∙ sym (length-append (models_in inner) (models_in rest))

-- ---- too many

above : (n : ℕ) → 1024 < n → nat_le n 1024 ≡ false
above n more = grind (arith, nat_tests)

few_false : (a b : Bool) (c d e : Bool) → b ≡ false → ((((a && b) && c) && d) && e) ≡ false
few_false true b c d e is = rw is refl
few_false false b c d e is = refl

too_many : (parts : Parts AnyModel) (links : List Link) (inputs : List Input) → 1024 < length (models_in parts) → tree_count_fault parts links (length inputs) ≡ Some TooMany
too_many parts links inputs many =
    ap (λ b. unless b TooMany)
    (few_false (nat_le (levels parts) 16) (nat_le (length (models_in parts)) 1024) (nat_le (coupled_count parts) 1024) (nat_le (length links + link_count parts) 8192) (nat_le (length inputs) 65536) (above (length (models_in parts)) many))

too_many_fault : (parts : Parts AnyModel) (links : List Link) (inputs : List Input) (micro_limit : ℕ) → 1024 < length (models_in parts) → IsTreeFault any_meaning parts links inputs micro_limit TooMany
too_many_fault parts links inputs micro_limit many = in_tree TooMany (rw (too_many parts links inputs many) refl)

module _ (file : TreeFile) where
  pub a_parameter : (e : FileRefused) → result_err (tree_made file.parts) ≡ Some e → IsTreeFileFault file e
  a_parameter e is = in_parameter e (an_error (tree_made file.parts) e is)

  pub only_too_many : 1024 < length (models_in file.parts) → result_err (tree_made file.parts) ≡ None → IsTreeFileFault file (Network TooMany)
  only_too_many many none =
      let made = no_error (tree_made file.parts) none in
      in_network made.0 (Network TooMany) made.1 (
        TooMany,
        refl,
        too_many_fault made.0 file.links (inputs_named made.0 file.inputs) file.micro_limit (subst (λ (n : ℕ). 1024 < n) (sym (made_count file.parts made.0 made.1)) many),
      )
