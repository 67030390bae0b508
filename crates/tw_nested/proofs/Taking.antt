-- Taking parts into tables, one by one.
use Rattle.std.proofs.Common.{◌≡◌, ℕ, ◌+◌, ◌<◌, ◌≤◌, List, [], ◌∷◌, ◌++◌, map, string_bytes, refl, sym, ap, subst, ◌∙◌, arith, append_assoc, suc, length, String, Result, Ok, Err}
use Rattle.std.specs.Result.{OnOk}
use Rattle.std.proofs.lemmas.List.{append-nil, map-append}
use Rattle.std.specs.declared.alloc.Global.{Global}
use Rattle.tw_nested.specs.declared.collect.FlatRefused.{FlatRefused}
use Rattle.tw_nested.specs.declared.tables.Coupled.{Coupled}
use Rattle.tw_nested.specs.declared.tables.Tables.{Tables}
use Rattle.tw_nested.specs.declared.tree.Nested.{Nested}
use Rattle.tw_nested.specs.declared.tree.Part.{Part, Atom, roll-Part, out-Part, fold-roll-Part, roll-out-Part}
use Rattle.tw_nested.specs.declared.tree.Part as part_type
use Rattle.tw_nested.specs.declared.tree.Part.TheOpen.{Part-F}
use Rattle.tw_nested.specs.Tree.{Parts, Link, no_parts, atom, coupled, size, numbers, flat_names, atoms_from, models_in, coupled_from, model_at, part_view, parts_of, part_step, nested_step}
use Rattle.tw_nested.specs.Taken.{Taken, TakenModel, model_of}
use Rattle.tw_nested.proofs.TreeViews.{part_view-atom, part_view-coupled}

-- what stands in the tables, and the parts still to come, are together all
pub record StillTo {M : Type 0} (whole : Parts M) (prefix : List ℕ) (before now : Tables M) (ps : List ℕ) (rest : Parts M) : Type 0 where
  pub count : before.count + size whole ≡ now.count + size rest
  pub more : before.count ≤ now.count
  pub names : map string_bytes before.names.items ++ flat_names prefix whole ≡ map string_bytes now.names.items ++ flat_names prefix rest
  pub models : before.models.items ++ models_in whole ≡ now.models.items ++ models_in rest
  pub atoms : before.atoms.items ++ atoms_from before.count whole ≡ now.atoms.items ++ atoms_from now.count rest
  pub all : map model_of before.coupled.items ++ coupled_from before.count whole ≡ map model_of now.coupled.items ++ coupled_from now.count rest
  pub parts : numbers before.count whole ≡ ps ++ numbers now.count rest

-- ---- a part before others

-- these parts are the first and then the rest
record AreOfFirst {M : Type 0} (whole first rest : Parts M) : Type 0 where
  count : size whole ≡ size first + size rest
  names : (prefix : List ℕ) → flat_names prefix whole ≡ flat_names prefix first ++ flat_names prefix rest
  models : models_in whole ≡ models_in first ++ models_in rest
  atoms : (n : ℕ) → atoms_from n whole ≡ atoms_from n first ++ atoms_from (n + size first) rest
  all : (n : ℕ) → coupled_from n whole ≡ coupled_from n first ++ coupled_from (n + size first) rest
  parts : (n : ℕ) → numbers n whole ≡ n ∷ numbers (n + size first) rest

module _ {M : Type 0} (name : List ℕ) (rest : Parts M) where
  first_atom : (m : M) → AreOfFirst (atom name m rest) (atom name m no_parts) rest
  first_atom m = record {
    count = omega arith;
    names = λ prefix. refl;
    models = refl;
    atoms = λ n. refl;
    all = λ n. refl;
    parts = λ n. refl;
  }

  first_coupled : (inner : Parts M) (links : List Link) → AreOfFirst (coupled name inner links rest) (coupled name inner links no_parts) rest
  first_coupled inner links =
      let next : (n : ℕ) → n + 1 + size inner ≡ n + suc (size inner + 0) = λ n. omega arith in
      record {
        count = omega arith;
        names = λ prefix. ap (λ l. l ++ flat_names prefix rest) (sym (append-nil (flat_names (prefix ++ name ++ 46 ∷ []) inner)));
        models = ap (λ l. l ++ models_in rest) (sym (append-nil (models_in inner)));
        atoms = λ n i. sym (append-nil (atoms_from (n + 1) inner)) i ++ atoms_from (next n i) rest;
        all = λ n. sym (append_assoc (coupled_from (n + 1) inner) (model_at n (n + 1) inner links ∷ []) (coupled_from (n + 1 + size inner) rest))
            ∙ ap (λ k. (coupled_from (n + 1) inner ++ model_at n (n + 1) inner links ∷ []) ++ coupled_from k rest) (next n);
        parts = λ n. ap (λ k. n ∷ numbers k rest) (next n);
      }

  first_open : (d : Part-F M (Part M) (Nested M)) → AreOfFirst (part_view {M = M} (roll-Part M d) name rest) (part_view {M = M} (roll-Part M d) name no_parts) rest
  first_open (Part-F.Atom m) =
      subst (λ (f : List ℕ → Parts M → Parts M). AreOfFirst (f name rest) (f name no_parts) rest)
      (sym (fold-roll-Part M (List ℕ → Parts M → Parts M) (Parts M × List Link) part_step nested_step (Part-F.Atom m))) (first_atom m)
  first_open (Part-F.Coupled n) =
      subst (λ (f : List ℕ → Parts M → Parts M). AreOfFirst (f name rest) (f name no_parts) rest)
      (sym (fold-roll-Part M (List ℕ → Parts M → Parts M) (Parts M × List Link) part_step nested_step (Part-F.Coupled n))) (first_coupled _ _)

  first : (part : Part M) → AreOfFirst (part_view {M = M} part name rest) (part_view {M = M} part name no_parts) rest
  first part = subst (λ (q : Part M). AreOfFirst (part_view {M = M} q name rest) (part_view {M = M} q name no_parts) rest) (roll-out-Part M part) (first_open (out-Part M part))

module _ {M : Type 0} (whole : Parts M) (prefix : List ℕ) (before now : Tables M) (ps : List ℕ) (part : Part M) (name : List ℕ) (rest : Parts M) (s : StillTo whole prefix before now ps (part_view {M = M} part name rest)) where
  pub after_part : (after : Tables M) → Taken prefix (part_view {M = M} part name no_parts) now after → StillTo whole prefix before after (ps ++ now.count ∷ []) rest
  after_part after t =
      let one = part_view {M = M} part name no_parts in
      let f = first name rest part in
      record {
        count = let e = s.count in let g = f.count in let h = t.count in omega (arith, e, g, h);
        more = let e = s.more in let h = t.count in omega (arith, e, h);
        names = s.names ∙ ap (λ l. map string_bytes now.names.items ++ l) (f.names prefix)
            ∙ sym (append_assoc (map string_bytes now.names.items) (flat_names prefix one) (flat_names prefix rest)) ∙ ap (λ l. l ++ flat_names prefix rest) (sym t.names);
        models = s.models ∙ ap (λ l. now.models.items ++ l) f.models
            ∙ sym (append_assoc now.models.items (models_in one) (models_in rest)) ∙ ap (λ l. l ++ models_in rest) (sym t.models);
        atoms = s.atoms ∙ ap (λ l. now.atoms.items ++ l) (f.atoms now.count)
            ∙ sym (append_assoc now.atoms.items (atoms_from now.count one) (atoms_from (now.count + size one) rest)) ∙ (λ i. sym t.atoms i ++ atoms_from (sym t.count i) rest);
        all = s.all ∙ ap (λ l. map model_of now.coupled.items ++ l) (f.all now.count)
            ∙ sym (append_assoc (map model_of now.coupled.items) (coupled_from now.count one) (coupled_from (now.count + size one) rest)) ∙ (λ i. sym t.coupled i ++ coupled_from (sym t.count i) rest);
        parts = s.parts ∙ ap (λ l. ps ++ l) (f.parts now.count)
            ∙ sym (append_assoc ps (now.count ∷ []) (numbers (now.count + size one) rest)) ∙ ap (λ n. (ps ++ now.count ∷ []) ++ numbers n rest) (sym t.count);
      }

  -- the part that comes next and what is in it are not too many
  pub fits_next : before.count + size whole < 4096 → now.count + size (part_view {M = M} part name no_parts) < 4096
  fits_next few = let e = s.count in let g = (first name rest part).count in omega (arith, e, g, few)

-- ---- after the last part

module _ {M : Type 0} (whole : Parts M) (prefix : List ℕ) (before now : Tables M) (ps : List ℕ) (left : List (String Global × Part M)) (none : length left ≡ 0) (still : StillTo whole prefix before now ps (parts_of {M = M} left)) where
  s : StillTo whole prefix before now ps no_parts
  s = go left none still
    where
      go : (xs : List (String Global × Part M)) → length xs ≡ 0 → StillTo whole prefix before now ps (parts_of {M = M} xs) → StillTo whole prefix before now ps no_parts
      go [] e h = h
      go (x ∷ xs) e h = absurd (omega (arith, e))

  pub all_taken : Taken prefix whole before now
  all_taken = record {
    count = let e = s.count in omega (arith, e);
    names = sym (s.names ∙ append-nil (map string_bytes now.names.items));
    models = sym (s.models ∙ append-nil now.models.items);
    atoms = sym (s.atoms ∙ append-nil now.atoms.items);
    coupled = sym (s.all ∙ append-nil (map model_of now.coupled.items));
  }

  -- and the coupled model that they are the parts of comes last
  pub all_coupled : (c : Coupled) → c.parts.items ≡ ps
      → map model_of (now.coupled.items ++ c ∷ []) ≡ map model_of before.coupled.items ++ coupled_from before.count whole ++ model_at c.number before.count whole c.links.items ∷ []
  all_coupled c of_parts =
      let numbers_are : c.parts.items ≡ numbers before.count whole = of_parts ∙ sym (s.parts ∙ append-nil ps) in
      map-append model_of now.coupled.items (c ∷ [])
      ∙ (λ i. all_taken.coupled i ++ (record { number = c.number; parts = numbers_are i; links = c.links.items }) ∷ [])

-- ---- one part

module _ {M : Type 0} (prefix name : List ℕ) (part : Part M) (before after : Tables M) where
  pub taken_atom : (m : M) → part ≡ Atom m → after.count ≡ before.count + 1
      → map string_bytes after.names.items ≡ map string_bytes before.names.items ++ (prefix ++ name) ∷ []
      → after.models.items ≡ before.models.items ++ m ∷ []
      → after.atoms.items ≡ before.atoms.items ++ before.count ∷ []
      → map model_of after.coupled.items ≡ map model_of before.coupled.items
      → Taken prefix (part_view {M = M} part name no_parts) before after
  taken_atom m is ce ne me ae ke =
      subst (λ (f : List ℕ → Parts M → Parts M). Taken prefix (f name no_parts) before after) (sym (ap (part_view {M = M}) is ∙ part_view-atom {M = M} m))
      (record { count = ce; names = ne; models = me; atoms = ae; coupled = ke ∙ sym (append-nil (map model_of before.coupled.items)) })

  pub taken_coupled : (n : Nested M) → part ≡ part_type.Coupled n → (result : Result Unit FlatRefused)
      → OnOk result (TakenModel before.count (prefix ++ name ++ 46 ∷ []) n (record before { count = before.count + 1 }) after)
      → OnOk result (Taken prefix (part_view {M = M} part name no_parts) before after)
  taken_coupled n is (Err e) t = tt
  taken_coupled n is (Ok u) t =
      let inner = parts_of {M = M} n.parts.items in
      subst (λ (f : List ℕ → Parts M → Parts M). Taken prefix (f name no_parts) before after) (sym (ap (part_view {M = M}) is ∙ part_view-coupled {M = M} n))
      (record {
        count = omega (arith, t.count);
        names = t.names ∙ ap (λ l. map string_bytes before.names.items ++ l) (sym (append-nil (flat_names (prefix ++ name ++ 46 ∷ []) inner)));
        models = t.models ∙ ap (λ l. before.models.items ++ l) (sym (append-nil (models_in inner)));
        atoms = t.atoms ∙ ap (λ l. before.atoms.items ++ l) (sym (append-nil (atoms_from (before.count + 1) inner)));
        coupled = t.coupled ∙ append_assoc (map model_of before.coupled.items) (coupled_from (before.count + 1) inner) (model_at before.count (before.count + 1) inner n.couplings.items ∷ []);
      })

-- ---- what is in a part

-- a coupled part is counted before what is in it
pub fits_within : {M : Type 0} (part : Part M) (name : List ℕ) (inner : Nested M) (count : ℕ) → part ≡ part_type.Coupled inner → count + size (part_view {M = M} part name no_parts) < 4096 → count + 1 + size (parts_of {M = M} inner.parts.items) < 4096
fits_within {M} part name inner count is few =
    let same : size (part_view {M = M} part name no_parts) ≡ suc (size (parts_of {M = M} inner.parts.items) + 0) =
    ap (λ (q : Part M). size (part_view {M = M} q name no_parts)) is ∙ ap (λ (v : List ℕ → Parts M → Parts M). size (v name no_parts)) (part_view-coupled {M = M} inner) in
    omega (arith, same, few)
