-- What is found of parts one by one: of the first, and of the rest.
use Rattle.std.proofs.Common.{◌≡◌, ℕ, ◌+◌, ◌<◌, List, ◌∷◌, [], length, sym, ap, ◌∙◌, arith, subst, suc, drop, drop-cons, slice_index_or, String, string_bytes}
use Rattle.std.specs.declared.alloc.Global.{Global}
use Rattle.tw_nested.specs.declared.tree.Nested.{Nested}
use Rattle.tw_nested.specs.declared.tree.Part.{Part, roll-Part, out-Part, fold-roll-Part, roll-out-Part}
use Rattle.tw_nested.specs.declared.tree.Part.TheOpen.{Part-F}
use Rattle.tw_nested.specs.Tree.{Parts, Link, no_parts, atom, coupled, parts_of, part_view, part_step, nested_step}

module _ {M : Type 0} {B : Type 0} (g : Parts M → B) (op : B → B → B)
    (at_atom : (name : List ℕ) (m : M) (rest : Parts M) → g (atom name m rest) ≡ op (g (atom [] m no_parts)) (g rest))
    (at_coupled : (name : List ℕ) (inner : Parts M) (links : List Link) (rest : Parts M) → g (coupled name inner links rest) ≡ op (g (coupled [] inner links no_parts)) (g rest)) where
  first_open : (d : Part-F M (Part M) (Nested M)) (name : List ℕ) (rest : Parts M) → g (part_view {M = M} (roll-Part M d) name rest) ≡ op (g (part_view {M = M} (roll-Part M d) [] no_parts)) (g rest)
  first_open (Part-F.Atom m) name rest =
      let e = fold-roll-Part M (List ℕ → Parts M → Parts M) (Parts M × List Link) part_step nested_step (Part-F.Atom m) in
      ap (λ (f : List ℕ → Parts M → Parts M). g (f name rest)) e ∙ at_atom name m rest ∙ sym (ap (λ (f : List ℕ → Parts M → Parts M). op (g (f [] no_parts)) (g rest)) e)
  first_open (Part-F.Coupled n) name rest =
      let e = fold-roll-Part M (List ℕ → Parts M → Parts M) (Parts M × List Link) part_step nested_step (Part-F.Coupled n) in
      ap (λ (f : List ℕ → Parts M → Parts M). g (f name rest)) e ∙ at_coupled name _ _ rest ∙ sym (ap (λ (f : List ℕ → Parts M → Parts M). op (g (f [] no_parts)) (g rest)) e)

  first_of_parts : (p : String Global × Part M) (ps : List (String Global × Part M)) → g (parts_of {M = M} (p ∷ ps)) ≡ op (g (part_view {M = M} p.1 [] no_parts)) (g (parts_of {M = M} ps))
  first_of_parts p ps = subst (λ (q : Part M). g (part_view {M = M} q (string_bytes p.0) (parts_of {M = M} ps)) ≡ op (g (part_view {M = M} q [] no_parts)) (g (parts_of {M = M} ps))) (roll-out-Part M p.1) (first_open (out-Part M p.1) (string_bytes p.0) (parts_of {M = M} ps))

  pub part_at : (ps qs : List (String Global × Part M)) (i : ℕ) (p : String Global × Part M) → qs ≡ ps → i < length qs → p ≡ slice_index_or qs i p → g (parts_of {M = M} (drop i ps)) ≡ op (g (part_view {M = M} p.1 [] no_parts)) (g (parts_of {M = M} (drop (i + 1) ps)))
  part_at ps qs i p same lt is =
      let inside : i < length ps = subst (λ (xs : List (String Global × Part M)). i < length xs) same lt in
      let here : slice_index_or ps i p ≡ p = sym (is ∙ ap (λ (xs : List (String Global × Part M)). slice_index_or xs i p) same) in
      let next : suc i ≡ i + 1 = omega arith in
      ap (λ (xs : List (String Global × Part M)). g (parts_of {M = M} xs)) (drop-cons ps i p inside ∙ (λ j. here j ∷ drop (next j) ps)) ∙ first_of_parts p (drop (i + 1) ps)
