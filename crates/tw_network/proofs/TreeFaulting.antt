-- The first fault of a tree, part by part.
use Rattle.std.proofs.Common.{◌≡◌, ◌≢◌, ℕ, ◌+◌, ◌<◌, ◌≤◌, List, ◌∷◌, [], ◌++◌, length, false, refl, sym, ap, ◌∙◌, arith, subst, suc, drop, drop-cons, slice_index_or, String, string_bytes, Option, None, Some, Result, Ok, Err}
use Rattle.std.specs.Option.{option_or}
use Rattle.std.proofs.lemmas.List.{at_drop_all}
use Rattle.std.specs.Result.{IfErr, OnOk}
use Rattle.std.specs.declared.alloc.Global.{Global}
use Rattle.tw_atomic.specs.Atomic.{Meaning}
use Rattle.tw_nested.specs.declared.tree.Nested.{Nested}
use Rattle.tw_nested.specs.declared.tree.Part.{Part, Atom, Coupled, roll-Part, out-Part, fold-roll-Part, roll-out-Part}
use Rattle.tw_nested.specs.declared.tree.Part.TheOpen.{Part-F}
use Rattle.tw_nested.specs.Tree.{Parts, Link, no_parts, part_count, parts_of, part_view, part_step, nested_step}
use Rattle.tw_nested.proofs.TreeViews.{part_view-atom, part_view-coupled}
use Rattle.tw_network.specs.TreeFaults.{inner_fault, own_fault, part_name_fault, parts_fault, start_fault}
use Rattle.tw_network.specs.declared.refused.NetworkRefused.{NetworkRefused}
use Rattle.tw_network.specs.declared.refused.NetworkRefused.TheVariants.{OutOfMemory}
use Rattle.tw_network.proofs.FirstPart.{part_at}

or_none : (o : Option NetworkRefused) → option_or o None ≡ o
or_none None = refl
or_none (Some f) = refl

drop_at : {A : Type 0} (xs : List A) (i : ℕ) (x : A) → i < length xs → x ≡ slice_index_or xs i x → drop i xs ≡ x ∷ drop (i + 1) xs
drop_at xs i x lt is =
    let next : suc i ≡ i + 1 = omega arith in
    drop-cons xs i x lt ∙ (λ j. sym is j ∷ drop (next j) xs)

-- ---- the parts of one model

module _ {M S : Type 0} (meaning : M → Meaning S) (names : List (List ℕ)) where
  -- a part is at fault by its name, or else by what it is
  by_name_open : (d : Part-F M (Part M) (Nested M)) (name : List ℕ) (f : NetworkRefused) → part_name_fault names name ≡ Some f → parts_fault meaning names (part_view {M = M} (roll-Part M d) name no_parts) ≡ Some f
  by_name_open (Part-F.Atom m) name f at =
      let e = fold-roll-Part M (List ℕ → Parts M → Parts M) (Parts M × List Link) part_step nested_step (Part-F.Atom m) in
      ap (λ (v : List ℕ → Parts M → Parts M). parts_fault meaning names (v name no_parts)) e ∙ ap (λ o. option_or (option_or o (start_fault (meaning m))) None) at
  by_name_open (Part-F.Coupled n) name f at =
      let e = fold-roll-Part M (List ℕ → Parts M → Parts M) (Parts M × List Link) part_step nested_step (Part-F.Coupled n) in
      ap (λ (v : List ℕ → Parts M → Parts M). parts_fault meaning names (v name no_parts)) e ∙ ap (λ o. option_or o None) at

  pub named_alone : (part : Part M) (name : List ℕ) (f : NetworkRefused) → part_name_fault names name ≡ Some f → parts_fault meaning names (part_view {M = M} part name no_parts) ≡ Some f
  named_alone part name f at = subst (λ (q : Part M). parts_fault meaning names (part_view {M = M} q name no_parts) ≡ Some f) (roll-out-Part M part) (by_name_open (out-Part M part) name f at)

  pub atom_alone : (part : Part M) (name : List ℕ) (m : M) → part ≡ Atom m → part_name_fault names name ≡ None → parts_fault meaning names (part_view {M = M} part name no_parts) ≡ start_fault (meaning m)
  atom_alone part name m is none =
      ap (λ (q : Part M). parts_fault meaning names (part_view {M = M} q name no_parts)) is
      ∙ ap (λ (v : List ℕ → Parts M → Parts M). parts_fault meaning names (v name no_parts)) (part_view-atom {M = M} m)
      ∙ or_none (option_or (part_name_fault names name) (start_fault (meaning m))) ∙ ap (λ o. option_or o (start_fault (meaning m))) none

  pub coupled_alone : (part : Part M) (name : List ℕ) (n : Nested M) → part ≡ Coupled n → part_name_fault names name ≡ None → parts_fault meaning names (part_view {M = M} part name no_parts) ≡ None
  coupled_alone part name n is none =
      ap (λ (q : Part M). parts_fault meaning names (part_view {M = M} q name no_parts)) is
      ∙ ap (λ (v : List ℕ → Parts M → Parts M). parts_fault meaning names (v name no_parts)) (part_view-coupled {M = M} n)
      ∙ ap (λ o. option_or o None) none

  -- the first part, and the rest after it
  first_open : (d : Part-F M (Part M) (Nested M)) (name : List ℕ) (rest : Parts M) → parts_fault meaning names (part_view {M = M} (roll-Part M d) name rest) ≡ option_or (parts_fault meaning names (part_view {M = M} (roll-Part M d) name no_parts)) (parts_fault meaning (names ++ name ∷ []) rest)
  first_open (Part-F.Atom m) name rest =
      let e = fold-roll-Part M (List ℕ → Parts M → Parts M) (Parts M × List Link) part_step nested_step (Part-F.Atom m) in
      ap (λ (v : List ℕ → Parts M → Parts M). parts_fault meaning names (v name rest)) e
      ∙ ap (λ o. option_or o (parts_fault meaning (names ++ name ∷ []) rest)) (sym (or_none (option_or (part_name_fault names name) (start_fault (meaning m)))))
      ∙ sym (ap (λ (v : List ℕ → Parts M → Parts M). option_or (parts_fault meaning names (v name no_parts)) (parts_fault meaning (names ++ name ∷ []) rest)) e)
  first_open (Part-F.Coupled n) name rest =
      let e = fold-roll-Part M (List ℕ → Parts M → Parts M) (Parts M × List Link) part_step nested_step (Part-F.Coupled n) in
      ap (λ (v : List ℕ → Parts M → Parts M). parts_fault meaning names (v name rest)) e
      ∙ ap (λ o. option_or o (parts_fault meaning (names ++ name ∷ []) rest)) (sym (or_none (part_name_fault names name)))
      ∙ sym (ap (λ (v : List ℕ → Parts M → Parts M). option_or (parts_fault meaning names (v name no_parts)) (parts_fault meaning (names ++ name ∷ []) rest)) e)

  pub first_part : (ps : List (String Global × Part M)) (i : ℕ) (p : String Global × Part M) → i < length ps → p ≡ slice_index_or ps i p → (text : List ℕ) → text ≡ string_bytes p.0
      → (o : Option NetworkRefused) → parts_fault meaning names (part_view {M = M} p.1 text no_parts) ≡ o → parts_fault meaning names (parts_of {M = M} (drop i ps)) ≡ option_or o (parts_fault meaning (names ++ text ∷ []) (parts_of {M = M} (drop (i + 1) ps)))
  first_part ps i p lt is text same o at =
      ap (λ (xs : List (String Global × Part M)). parts_fault meaning names (parts_of {M = M} xs)) (drop_at ps i p lt is)
      ∙ ap (λ (t : List ℕ). parts_fault meaning names (part_view {M = M} p.1 t (parts_of {M = M} (drop (i + 1) ps)))) (sym same)
      ∙ subst (λ (q : Part M). parts_fault meaning names (part_view {M = M} q text (parts_of {M = M} (drop (i + 1) ps))) ≡ option_or (parts_fault meaning names (part_view {M = M} q text no_parts)) (parts_fault meaning (names ++ text ∷ []) (parts_of {M = M} (drop (i + 1) ps))))
      (roll-out-Part M p.1) (first_open (out-Part M p.1) text (parts_of {M = M} (drop (i + 1) ps)))
      ∙ ap (λ p. option_or p (parts_fault meaning (names ++ text ∷ []) (parts_of {M = M} (drop (i + 1) ps)))) at

  pub no_part : (ps : List (String Global × Part M)) (i : ℕ) → length ps ≤ i → parts_fault meaning names (parts_of {M = M} (drop i ps)) ≡ None
  no_part ps i le = at_drop_all (λ (xs : List (String Global × Part M)). parts_fault meaning names (parts_of {M = M} xs)) ps i le

-- ---- the models in them

pub inner_at : {M S : Type 0} (meaning : M → Meaning S) (ps qs : List (String Global × Part M)) (i : ℕ) (p : String Global × Part M) → qs ≡ ps → i < length qs → p ≡ slice_index_or qs i p → inner_fault meaning (parts_of {M = M} (drop i ps)) ≡ option_or (inner_fault meaning (part_view {M = M} p.1 [] no_parts)) (inner_fault meaning (parts_of {M = M} (drop (i + 1) ps)))
inner_at {M} meaning ps qs i p same lt is =
    part_at (λ (x : Parts M). inner_fault meaning x) option_or (λ name m rest. refl) (λ name inner links rest. ap (λ o. option_or o (inner_fault meaning rest)) (sym (or_none _))) ps qs i p same lt is

-- an atom has no model in it
pub inner_atom : {M S : Type 0} (meaning : M → Meaning S) (part : Part M) (m : M) → part ≡ Atom m → inner_fault meaning (part_view {M = M} part [] no_parts) ≡ None
inner_atom {M} meaning part m is =
    ap (λ (q : Part M). inner_fault meaning (part_view {M = M} q [] no_parts)) is
    ∙ ap (λ (v : List ℕ → Parts M → Parts M). inner_fault meaning (v [] no_parts)) (part_view-atom {M = M} m)

-- the fault of a coupled model is its own, or else one of a model in it
pub inner_coupled : {M S : Type 0} (meaning : M → Meaning S) (part : Part M) (n : Nested M) → part ≡ Coupled n → inner_fault meaning (part_view {M = M} part [] no_parts) ≡ option_or (own_fault meaning false (parts_of n.parts.items) n.couplings.items) (inner_fault meaning (parts_of n.parts.items))
inner_coupled {M} meaning part n is =
    ap (λ (q : Part M). inner_fault meaning (part_view {M = M} q [] no_parts)) is
    ∙ ap (λ (v : List ℕ → Parts M → Parts M). inner_fault meaning (v [] no_parts)) (part_view-coupled {M = M} n)
    ∙ or_none _

-- ---- how many parts

pub part_count-length : {M : Type 0} (ps : List (String Global × Part M)) → part_count (parts_of {M = M} ps) ≡ length ps
part_count-length [] = refl
part_count-length {M} (p ∷ ps) =
    let h = part_count-length {M = M} ps in
    let one : part_count (part_view {M = M} p.1 (string_bytes p.0) (parts_of {M = M} ps)) ≡ part_count (parts_of {M = M} ps) + 1 = subst (λ (q : Part M). part_count (part_view {M = M} q (string_bytes p.0) (parts_of {M = M} ps)) ≡ part_count (parts_of {M = M} ps) + 1) (roll-out-Part M p.1) (go (out-Part M p.1)) in
    omega (arith, one, h)
  where
    go : (d : Part-F M (Part M) (Nested M)) → part_count (part_view {M = M} (roll-Part M d) (string_bytes p.0) (parts_of {M = M} ps)) ≡ part_count (parts_of {M = M} ps) + 1
    go (Part-F.Atom m) = ap (λ (f : List ℕ → Parts M → Parts M). part_count (f (string_bytes p.0) (parts_of {M = M} ps))) (fold-roll-Part M (List ℕ → Parts M → Parts M) (Parts M × List Link) part_step nested_step (Part-F.Atom m))
    go (Part-F.Coupled n) = ap (λ (f : List ℕ → Parts M → Parts M). part_count (f (string_bytes p.0) (parts_of {M = M} ps))) (fold-roll-Part M (List ℕ → Parts M → Parts M) (Parts M × List Link) part_step nested_step (Part-F.Coupled n))

-- ---- one check after another

pub on_ok : {A : Type 0} (r : Result A NetworkRefused) {P Q : Type 0} → (P → Q) → OnOk r P → OnOk r Q
on_ok (Ok x) f at = f at
on_ok (Err e) f at = tt

pub if_err : {A : Type 0} (r : Result A NetworkRefused) {o p : Option NetworkRefused} → o ≡ p → IfErr r (λ e. e ≢ OutOfMemory → o ≡ Some e) → IfErr r (λ e. e ≢ OutOfMemory → p ≡ Some e)
if_err (Ok x) same at = tt
if_err (Err e) same at = λ ne. sym same ∙ at ne

-- what is left where the first of two is none
pub after_first : (a b : Option NetworkRefused) → a ≡ None → b ≡ option_or a b
after_first a b e = sym (ap (λ o. option_or o b) e)
