-- Counting the parts of a model one by one.
use Rattle.std.proofs.Common.{◌≡◌, ◌≢◌, ℕ, ◌+◌, ◌-◌, ◌<◌, ◌≤◌, List, [], length, sym, ap, ◌∙◌, arith, length-append, drop, slice_index_or, subst, String, max, Option, Some, None, IfNone}
use Rattle.std.specs.declared.alloc.Global.{Global}
use Rattle.std.proofs.lemmas.List.{append-nil, at_drop_all}
use Rattle.tw_nested.specs.declared.tree.Nested.{Nested}
use Rattle.tw_nested.specs.declared.tree.Part.{Part, Atom, Coupled, roll-Part, out-Part, fold-roll-Part, roll-out-Part}
use Rattle.tw_nested.specs.declared.tree.Part.TheOpen.{Part-F}
use Rattle.tw_nested.specs.Tree.{Parts, Link, no_parts, atom, coupled, levels, coupled_count, link_count, models_in, parts_of, part_view, part_step, nested_step}
use Rattle.tw_nested.proofs.TreeViews.{part_view-atom, part_view-coupled}
use Rattle.tw_network.specs.declared.counts.Counts.{Counts}
use Rattle.tw_network.specs.Counts.{AreFewCounts, FitsAfter, IsCounted}
use Rattle.tw_network.proofs.FirstPart.{part_at}

-- what was counted, and the parts still to come, are together all
pub record StillCounts {M : Type 0} (room : ℕ) (before now : Counts) (whole : Parts M) (links : ℕ) (rest : Parts M) : Type 0 where
  pub few : AreFewCounts now
  pub atoms : now.atoms + length (models_in rest) ≡ before.atoms + length (models_in whole)
  pub coupled : now.coupled + coupled_count rest ≡ before.coupled + coupled_count whole
  pub couplings : now.couplings + link_count rest ≡ before.couplings + (links + link_count whole)
  pub no_deeper : levels rest ≤ levels whole
  pub levels : levels rest ≤ room → levels whole ≤ room

pub if_none : {A : Type 0} (r : Option A) (P : Type 0) → P → IfNone r P
if_none (Some x) P at = tt
if_none None P at = at

pub if_none_more : {A P Q : Type 0} (r : Option A) → (P → Q) → IfNone r P → IfNone r Q
if_none_more (Some x) more at = tt
if_none_more None more at = more at

-- ---- of one part

models_alone : {M : Type 0} (inner : Parts M) (links : List Link) → length (models_in (coupled [] inner links no_parts)) ≡ length (models_in inner)
models_alone {M} inner links = ap (λ (l : List M). length l) (append-nil (models_in inner))

module _ {M : Type 0} (part : Part M) where
  pub as_atom : (m : M) → part ≡ Atom m → part_view {M = M} part [] no_parts ≡ atom [] m no_parts
  as_atom m is =
      ap (λ (q : Part M). part_view {M = M} q [] no_parts) is
      ∙ ap (λ (v : List ℕ → Parts M → Parts M). v [] no_parts) (part_view-atom {M = M} m)

  pub as_coupled : (n : Nested M) → part ≡ Coupled n → part_view {M = M} part [] no_parts ≡ coupled [] (parts_of {M = M} n.parts.items) n.couplings.items no_parts
  as_coupled n is =
      ap (λ (q : Part M). part_view {M = M} q [] no_parts) is
      ∙ ap (λ (v : List ℕ → Parts M → Parts M). v [] no_parts) (part_view-coupled {M = M} n)

  -- it is a level
  pub one_level : 1 ≤ levels (part_view {M = M} part [] no_parts)
  one_level = subst (λ (q : Part M). 1 ≤ levels (part_view {M = M} q [] no_parts)) (roll-out-Part M part) (go (out-Part M part))
    where
      go : (d : Part-F M (Part M) (Nested M)) → 1 ≤ levels (part_view {M = M} (roll-Part M d) [] no_parts)
      go (Part-F.Atom m) = subst (λ (v : List ℕ → Parts M → Parts M). 1 ≤ levels (v [] no_parts)) (sym (fold-roll-Part M (List ℕ → Parts M → Parts M) (Parts M × List Link) part_step nested_step (Part-F.Atom m))) (omega arith)
      go (Part-F.Coupled n) = subst (λ (v : List ℕ → Parts M → Parts M). 1 ≤ levels (v [] no_parts)) (sym (fold-roll-Part M (List ℕ → Parts M → Parts M) (Parts M × List Link) part_step nested_step (Part-F.Coupled n))) (omega arith)

module _ {M : Type 0} (room : ℕ) (before : Counts) (few : AreFewCounts before) (deep : room ≢ 0) where
  pub atom_fits : (m : M) → before.atoms ≢ 1024 → FitsAfter room before (atom [] m no_parts) 0
  atom_fits m less =
      let a = few.atoms in let c = few.coupled in let l = few.couplings in
      record { levels = omega (arith, deep); atoms = omega (arith, a, less); coupled = omega (arith, c); couplings = omega (arith, l) }

  module _ (inner : Parts M) (links : List Link) where
    -- one coupled model more, and then what is in it
    pub inner_fits : FitsAfter (room - 1) (record { atoms = before.atoms; coupled = before.coupled + 1; couplings = before.couplings }) inner (length links) → FitsAfter room before (coupled [] inner links no_parts) 0
    inner_fits f =
        let d = f.levels in let a = f.atoms in let c = f.coupled in let l = f.couplings in
        let whole = models_alone inner links in
        record { levels = omega (arith, d, deep); atoms = omega (arith, a, whole); coupled = omega (arith, c); couplings = omega (arith, l) }

    pub fits_inner : FitsAfter room before (coupled [] inner links no_parts) 0 → FitsAfter (room - 1) (record { atoms = before.atoms; coupled = before.coupled + 1; couplings = before.couplings }) inner (length links)
    fits_inner f =
        let d = f.levels in let a = f.atoms in let c = f.coupled in let l = f.couplings in
        let whole = models_alone inner links in
        record { levels = omega (arith, d, deep); atoms = omega (arith, a, whole); coupled = omega (arith, c); couplings = omega (arith, l) }

pub inner_counted : {M : Type 0} (before after : Counts) (inner : Parts M) (links : List Link) → IsCounted (record { atoms = before.atoms; coupled = before.coupled + 1; couplings = before.couplings }) after inner (length links) → IsCounted before after (coupled [] inner links no_parts) 0
inner_counted before after inner links c =
    let a = c.atoms in let b = c.coupled in let l = c.couplings in
    let whole = models_alone inner links in
    record { atoms = omega (arith, a, whole); coupled = omega (arith, b); couplings = omega (arith, l) }

-- ---- of one part and the rest

record AreOfFirst {M : Type 0} (all one rest : Parts M) : Type 0 where
  atoms : length (models_in all) ≡ length (models_in one) + length (models_in rest)
  coupled : coupled_count all ≡ coupled_count one + coupled_count rest
  links : link_count all ≡ link_count one + link_count rest
  levels : levels all ≡ max (levels one) (levels rest)

module _ {M : Type 0} where
  models_of_coupled : (name : List ℕ) (inner : Parts M) (links : List Link) (rest : Parts M) → length (models_in (coupled name inner links rest)) ≡ length (models_in (coupled [] inner links no_parts)) + length (models_in rest)
  models_of_coupled name inner links rest = length-append (models_in inner) (models_in rest) ∙ ap (λ (l : List M). length l + length (models_in rest)) (sym (append-nil (models_in inner)))

  at_first : (ps qs : List (String Global × Part M)) (i : ℕ) (p : String Global × Part M) → qs ≡ ps → i < length qs → p ≡ slice_index_or qs i p → AreOfFirst (parts_of {M = M} (drop i ps)) (part_view {M = M} p.1 [] no_parts) (parts_of {M = M} (drop (i + 1) ps))
  at_first ps qs i p same lt is = record {
    atoms = part_at (λ (x : Parts M). length (models_in x)) (λ a b. a + b) (λ name m rest. omega arith) models_of_coupled ps qs i p same lt is;
    coupled = part_at (λ (x : Parts M). coupled_count x) (λ a b. a + b) (λ name m rest. omega arith) (λ name inner links rest. omega arith) ps qs i p same lt is;
    links = part_at (λ (x : Parts M). link_count x) (λ a b. a + b) (λ name m rest. omega arith) (λ name inner links rest. omega arith) ps qs i p same lt is;
    levels = part_at (λ (x : Parts M). levels x) (λ a b. max a b) (λ name m rest. omega arith) (λ name inner links rest. omega arith) ps qs i p same lt is;
  }

  module _ (room : ℕ) (before now : Counts) (whole : Parts M) (links : ℕ) (ps qs : List (String Global × Part M)) (i : ℕ) (p : String Global × Part M) (same : qs ≡ ps) (lt : i < length qs) (is : p ≡ slice_index_or qs i p) (s : StillCounts room before now whole links (parts_of {M = M} (drop i ps))) where
    first : AreOfFirst (parts_of {M = M} (drop i ps)) (part_view {M = M} p.1 [] no_parts) (parts_of {M = M} (drop (i + 1) ps))
    first = at_first ps qs i p same lt is

    pub counts_on : (after : Counts) → IsCounted now after (part_view {M = M} p.1 [] no_parts) 0 → FitsAfter room now (part_view {M = M} p.1 [] no_parts) 0 → StillCounts room before after whole links (parts_of {M = M} (drop (i + 1) ps))
    counts_on after c f =
        let a = c.atoms in let b = c.coupled in let l = c.couplings in
        let x = s.atoms in let y = s.coupled in let z = s.couplings in
        let fa = first.atoms in let fc = first.coupled in let fl = first.links in let fd = first.levels in
        let ga = f.atoms in let gc = f.coupled in let gl = f.couplings in let gd = f.levels in
        let nd = s.no_deeper in
        record {
          few = record { atoms = omega (arith, a, ga); coupled = omega (arith, b, gc); couplings = omega (arith, l, gl) };
          atoms = omega (arith, a, x, fa);
          coupled = omega (arith, b, y, fc);
          couplings = omega (arith, l, z, fl);
          no_deeper = omega (arith, nd, fd);
          levels = λ le. s.levels (omega (arith, le, fd, gd));
        }

    pub counts_stop : (FitsAfter room now (part_view {M = M} p.1 [] no_parts) 0 → ⊥) → FitsAfter room before whole links → ⊥
    counts_stop not f =
        let x = s.atoms in let y = s.coupled in let z = s.couplings in
        let fa = first.atoms in let fc = first.coupled in let fl = first.links in let fd = first.levels in
        let ga = f.atoms in let gc = f.coupled in let gl = f.couplings in let gd = f.levels in
        let nd = s.no_deeper in
        not (record { levels = omega (arith, nd, gd, fd); atoms = omega (arith, x, fa, ga); coupled = omega (arith, y, fc, gc); couplings = omega (arith, z, fl, gl) })

  -- ---- where no part is left

  module _ (room : ℕ) (before now : Counts) (whole : Parts M) (links : ℕ) (ps qs : List (String Global × Part M)) (i : ℕ) (same : qs ≡ ps) (le : length qs ≤ i) (s : StillCounts room before now whole links (parts_of {M = M} (drop i ps))) where
    counts_last : StillCounts room before now whole links no_parts
    counts_last = subst (λ (rest : Parts M). StillCounts room before now whole links rest) (at_drop_all (λ (xs : List (String Global × Part M)). parts_of {M = M} xs) ps i (subst (λ (xs : List (String Global × Part M)). length xs ≤ i) same le)) s

    pub counted_all : IsCounted before now whole links
    counted_all =
        let x = counts_last.atoms in let y = counts_last.coupled in let z = counts_last.couplings in
        record { atoms = omega (arith, x); coupled = omega (arith, y); couplings = omega (arith, z) }

    pub fits_all : FitsAfter room before whole links
    fits_all =
        let x = counts_last.atoms in let y = counts_last.coupled in let z = counts_last.couplings in
        let fa = counts_last.few.atoms in let fc = counts_last.few.coupled in let fl = counts_last.few.couplings in
        record { levels = counts_last.levels (omega arith); atoms = omega (arith, x, fa); coupled = omega (arith, y, fc); couplings = omega (arith, z, fl) }
