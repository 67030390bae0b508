-- The views of parts.
use Rattle.std.proofs.Common.{◌≡◌, ℕ, List, ◌∷◌, map, refl, sym, ap, ◌∙◌, String, string_bytes}
use Rattle.std.specs.declared.alloc.Global.{Global}
use Rattle.tw_nested.specs.declared.tree.Nested.{Nested}
use Rattle.tw_nested.specs.declared.tree.Part.{Part, Atom, Coupled, fold-roll-Part}
use Rattle.tw_nested.specs.declared.tree.Part.TheFolds.{fold-Nested, fold_out-Nested}
use Rattle.tw_nested.specs.declared.tree.Part.TheVariants.{rolls-Atom, rolls-Coupled}
use Rattle.tw_nested.specs.declared.tree.Part.TheOpen.{Part-F}
use Rattle.tw_nested.specs.Tree.{Parts, atom, coupled, part_view, parts_of, parts_in, part_step, nested_step, Link}

pub part_view-atom : {M : Type 0} (m : M) → part_view {M = M} (Atom m) ≡ (λ name rest. atom name m rest)
part_view-atom {M} m = ap (part_view {M = M}) (sym (rolls-Atom m)) ∙ fold-roll-Part M (List ℕ → Parts M → Parts M) (Parts M × List Link) part_step nested_step (Part-F.Atom m)

out_step : {M : Type 0} (n : Nested M) → fold-Nested M (List ℕ → Parts M → Parts M) (Parts M × List Link) part_step nested_step n ≡ (parts_in (map (λ p. (p.0, part_view {M = M} p.1)) n.parts.items), n.couplings.items)
out_step {M} n = fold_out-Nested M (List ℕ → Parts M → Parts M) (Parts M × List Link) part_step nested_step n ∙ refl

pub part_view-coupled : {M : Type 0} (n : Nested M) → part_view {M = M} (Coupled n) ≡ (λ name rest. coupled name (parts_in (map (λ p. (p.0, part_view {M = M} p.1)) n.parts.items)) n.couplings.items rest)
part_view-coupled {M} n =
    let step = fold-roll-Part M (List ℕ → Parts M → Parts M) (Parts M × List Link) part_step nested_step (Part-F.Coupled n) in
    ap (part_view {M = M}) (sym (rolls-Coupled n)) ∙ step ∙ (λ i. λ name rest. coupled name (out_step n i).0 (out_step n i).1 rest)

pub parts_of-atom : {M : Type 0} (name : String Global) (m : M) (ps : List (String Global × Part M)) → parts_of {M = M} ((name, Atom m) ∷ ps) ≡ atom (string_bytes name) m (parts_of {M = M} ps)
parts_of-atom {M} name m ps = ap (λ (f : List ℕ → Parts M → Parts M). f (string_bytes name) (parts_of {M = M} ps)) (part_view-atom {M = M} m)

pub parts_of-coupled : {M : Type 0} (name : String Global) (n : Nested M) (ps : List (String Global × Part M)) → parts_of {M = M} ((name, Coupled n) ∷ ps) ≡ coupled (string_bytes name) (parts_of {M = M} n.parts.items) n.couplings.items (parts_of {M = M} ps)
parts_of-coupled {M} name n ps = ap (λ (f : List ℕ → Parts M → Parts M). f (string_bytes name) (parts_of {M = M} ps)) (part_view-coupled {M = M} n)
