-- Where all parts of a tree are atoms, its flat couplings are its couplings, and its first fault is that of its components.
use Rattle.std.proofs.Common.{◌≡◌, ◌≢◌, ℕ, ◌+◌, ◌<◌, ◌≤◌, List, ◌∷◌, [], ◌++◌, length, map, refl, sym, ap, ◌∙◌, arith, subst, suc, zero, slice_index, slice_index_or, Bool, true, false, not, ◌&&◌, ◌||◌, nat_le, Option, None, Some, ◌⊎◌, inl, inr}
use Rattle.std.specs.List.{All, AllPairs, Contains, remove}
use Rattle.std.specs.List.Sorted.{IsPermutation}
use Rattle.std.specs.Option.{option_or}
use Rattle.std.proofs.lemmas.Bool.{and_parts, leb-true}
use Rattle.std.proofs.lemmas.List.{length-map, map-append}
use Rattle.std.proofs.lemmas.List.Sorted.{Contains-permutation, IsPermutation-cons, IsPermutation-refl, IsPermutation-remove, IsPermutation-sym, IsPermutation-trans, length_permutation}
use Rattle.tw_atomic.specs.Atomic.{Meaning}
use Rattle.tw_nested.specs.declared.tree.End.{End}
use Rattle.tw_nested.specs.declared.tree.End.TheVariants.{Here, Part}
use Rattle.tw_nested.specs.Tree.{Parts, Link, Model, levels, numbers, part_count, atoms_from, models_in, coupled_count, coupled_from, link_count, model_at, flat_names, all_atoms}
use Rattle.tw_nested.specs.Paths.{IsPart, Crosses, Outwards, at_once, leaving, Path, across, entering}
use Rattle.tw_nested.specs.Whole.{all_models, AreCouplings, AreTooMany, IsCoupling as IsPathCoupling, link_between}
use Rattle.tw_nested.proofs.EdgesMade.{Contains-cons_cases, Contains-map, Contains-map_source}
use Rattle.tw_network.specs.Contents.{Contents, Input, IsCoupling, handed_in, models_of, names_of}
use Rattle.tw_network.specs.Faults.{unless, first_of, count_fault, limit_fault, components_fault, component_fault, couplings_fault, coupling_fault, inputs_fault, first_fault, has_coupling, has_name, name_fault, same_coupling, starts_in_time}
use Rattle.tw_network.specs.TreeFaults.{IsTreeFault, in_tree, in_couplings, in_inputs, inner_fault, models_fault, link_end_fault, parts_fault, has_link, link_fault, links_fault, tree_count_fault, tree_fault}
use Rattle.tw_network.specs.declared.refused.NetworkRefused.{NetworkRefused}
use Rattle.tw_network.specs.declared.refused.NetworkRefused.TheVariants.{OutOfMemory, TooMany, DuplicateName, DuplicateRoute, BadTick}
use Rattle.tw_network.proofs.NoFaults.{all_couplings, distinct_couplings, holds, neither}
use Rattle.std.proofs.Common.{Result, Ok, Err}
use Rattle.std.specs.Result.{IfErr}
use Rattle.tw_network.specs.FlatTrees.{IsFlatTree, IsFlattened, IsSameNetwork}
use Rattle.std.proofs.lemmas.Bool.Decides.{nat_tests}
use Rattle.tw_theory.specs.Network.{Coupling}

-- ---- a tree of atoms

module _ {M : Type 0} where
  no_coupled : (n : ℕ) (cs : List (List ℕ × M)) → coupled_from n (all_atoms cs) ≡ []
  no_coupled n [] = refl
  no_coupled n (c ∷ cs) = no_coupled (n + 1) cs

  same_numbers : (n : ℕ) (cs : List (List ℕ × M)) → atoms_from n (all_atoms cs) ≡ numbers n (all_atoms cs)
  same_numbers n [] = refl
  same_numbers n (c ∷ cs) = ap (λ ns. n ∷ ns) (same_numbers (n + 1) cs)

  number_at : (n : ℕ) (cs : List (List ℕ × M)) (i : ℕ) → i < length (numbers n (all_atoms cs)) → slice_index (numbers n (all_atoms cs)) i ≡ n + i
  number_at n [] i lt = absurd (omega (arith, lt))
  number_at n (c ∷ cs) zero lt = omega arith
  number_at n (c ∷ cs) (suc i) lt = let ih = number_at (n + 1) cs i (omega (arith, lt)) in omega (arith, ih)

  numbers_count : (n : ℕ) (cs : List (List ℕ × M)) → length (numbers n (all_atoms cs)) ≡ length cs
  numbers_count n [] = refl
  numbers_count n (c ∷ cs) = let ih = numbers_count (n + 1) cs in omega (arith, ih)

  pub models_are : (cs : List (List ℕ × M)) → models_in (all_atoms cs) ≡ models_of cs
  models_are [] = refl
  models_are (c ∷ cs) = ap (λ ms. c.1 ∷ ms) (models_are cs)

  pub names_are : (cs : List (List ℕ × M)) → flat_names [] (all_atoms cs) ≡ names_of cs
  names_are [] = refl
  names_are (c ∷ cs) = ap (λ ns. c.0 ∷ ns) (names_are cs)

  -- ---- along a path

  module _ (cs : List (List ℕ × M)) (links : List Link) where
    abbrev root : Model
    root = model_at 0 1 (all_atoms cs) links

    models_root : all_models (all_atoms cs) links ≡ root ∷ []
    models_root = ap (λ ms. ms ++ root ∷ []) (no_coupled 1 cs)

    is_root : (m : Model) → Contains (root ∷ []) m → m ≡ root
    is_root m (zero, lt, is) = sym is
    is_root m (suc i, lt, is) = absurd (omega (arith, lt))

    part_number : (m : Model) (i c : ℕ) → Contains (root ∷ []) m → IsPart m i c → c ≡ 1 + i
    part_number m i c among is =
        let r : IsPart root i c = subst (λ (m : Model). IsPart m i c) (is_root m among) is in
        sym r.1 ∙ number_at 1 cs i r.0

    path_end : (c p d q : ℕ) → Path (root ∷ []) c p d q → 1 ≤ d
    path_end c p _ _ (across d r e s way k) = let n = part_number k.model k.destination e k.among k.destination_part in omega (arith, n)
    path_end c p _ _ (entering n r e s way k) = let m = part_number k.model k.place e k.among k.part in omega (arith, m)

    -- the only paths are couplings from a part to a part
    path_crosses : (c p d q : ℕ) → Path (root ∷ []) c p d q → Crosses (root ∷ []) c p d q
    path_crosses c p _ _ (across d r e s way k) = go d r way k
      where
        go : (d r : ℕ) → Outwards (root ∷ []) c p d r → Crosses (root ∷ []) d r e s → Crosses (root ∷ []) c p e s
        go _ _ at_once k = k
        go _ _ (leaving b t n r way l) k =
            let a = part_number k.model k.source n k.among k.source_part in
            let z : l.model.number ≡ 0 = ap (λ (m : Model). m.number) (is_root l.model l.among) in
            let o = l.around in
            absurd (omega (arith, a, z, o))
    path_crosses c p _ _ (entering n r e s way k) =
        let a = path_end c p n r way in
        let z : k.model.number ≡ 0 = ap (λ (m : Model). m.number) (is_root k.model k.among) in
        let o = k.entered in
        absurd (omega (arith, a, z, o))

    atom_number : (i : ℕ) → i < length (atoms_from 1 (all_atoms cs)) → slice_index (atoms_from 1 (all_atoms cs)) i ≡ 1 + i
    atom_number i lt = ap (λ (ns : List ℕ). slice_index ns i) (same_numbers 1 cs) ∙ number_at 1 cs i (subst (λ (ns : List ℕ). i < length ns) (same_numbers 1 cs) lt)

    link_of_path : (k : Coupling) → IsPathCoupling (all_atoms cs) links k → Contains links (link_between k)
    link_of_path k is =
        let x = path_crosses _ k.1 _ k.3 (subst (λ ms. Path ms (slice_index (atoms_from 1 (all_atoms cs)) k.0) k.1 (slice_index (atoms_from 1 (all_atoms cs)) k.2) k.3) models_root is.path) in
        let a = part_number x.model x.source _ x.among x.source_part in
        let b = part_number x.model x.destination _ x.among x.destination_part in
        let c = atom_number k.0 is.source in
        let d = atom_number k.2 is.destination in
        let s : x.source ≡ k.0 = omega (arith, a, c) in
        let t : x.destination ≡ k.2 = omega (arith, b, d) in
        let among : Contains links (Part x.source, k.1, Part x.destination, k.3) = subst (λ (m : Model). Contains m.links (Part x.source, k.1, Part x.destination, k.3)) (is_root x.model x.among) x.link in
        subst (λ (l : Link). Contains links l) (λ i. (Part (s i), k.1, Part (t i), k.3)) among

    path_of_link : (k : Coupling) → IsCoupling (length cs) k → Contains links (link_between k) → IsPathCoupling (all_atoms cs) links k
    path_of_link k is at =
        let n = numbers_count 1 cs in
        let m : length (atoms_from 1 (all_atoms cs)) ≡ length (numbers 1 (all_atoms cs)) = ap length (same_numbers 1 cs) in
        let s = is.source in let t = is.destination in let p = is.source_port in let q = is.destination_port in
        let low : k.0 < length (numbers 1 (all_atoms cs)) = omega (arith, n, s) in
        let high : k.2 < length (numbers 1 (all_atoms cs)) = omega (arith, n, t) in
        let here : Path (root ∷ []) (slice_index (numbers 1 (all_atoms cs)) k.0) k.1 (slice_index (numbers 1 (all_atoms cs)) k.2) k.3 =
        across _ k.1 _ k.3 at_once (record { model = root; among = (0, omega arith, refl); source = k.0; source_part = (low, refl); destination = k.2; destination_part = (high, refl); link = at }) in
        record {
          source = omega (arith, m, n, s);
          source_port = omega (arith, p);
          destination = omega (arith, m, n, t);
          destination_port = omega (arith, q);
          path = subst (λ ms. Path ms (slice_index (atoms_from 1 (all_atoms cs)) k.0) k.1 (slice_index (atoms_from 1 (all_atoms cs)) k.2) k.3) (sym models_root)
              (subst (λ (ns : List ℕ). Path (root ∷ []) (slice_index ns k.0) k.1 (slice_index ns k.2) k.3) (sym (same_numbers 1 cs)) here);
        }

-- ---- the same couplings

abbrev place_of_end : End → ℕ
place_of_end Here = 0
place_of_end (Part i) = i

among_links : (ks : List Coupling) (k : Coupling) → Contains (map link_between ks) (link_between k) → Contains ks k
among_links ks k at =
    let s = Contains-map_source link_between ks (link_between k) at in
    let e = s.is in
    subst (λ (j : Coupling). Contains ks j) (λ i. (place_of_end (e i).0, (e i).1, place_of_end (e i).2, (e i).3)) s.within

-- what is in a list, and the others
others : {A : Type 0} (x : A) (xs zs ys : List A) → AllPairs (λ a b. a ≢ b) (x ∷ xs) → IsPermutation ys (x ∷ zs) → All (λ y. Contains ys y) (x ∷ xs) → All (λ y. Contains zs y) xs
others x xs zs ys apart same all i d lt =
    go (Contains-cons_cases x zs (slice_index_or xs i d) (Contains-permutation ys (x ∷ zs) (slice_index_or xs i d) same (all (suc i) d (omega (arith, lt)))))
  where
    go : (x ≡ slice_index_or xs i d) ⊎ Contains zs (slice_index_or xs i d) → Contains zs (slice_index_or xs i d)
    go (inl is) = absurd (apart 0 (suc i) d (omega arith) (omega (arith, lt)) is)
    go (inr at) = at

rest_apart : {A : Type 0} (x : A) (xs : List A) → AllPairs (λ a b. a ≢ b) (x ∷ xs) → AllPairs (λ a b. a ≢ b) xs
rest_apart x xs apart i j d lt within = apart (suc i) (suc j) d (omega (arith, lt)) (omega (arith, within))

taken : {A : Type 0} (x : A) (ys : List A) (at : Contains ys x) → IsPermutation ys (x ∷ remove ys at.0)
taken x ys at = IsPermutation-remove ys at.0 x at.1 (sym at.2)

-- no more of what is in a list than there are in it
pub no_more : {A : Type 0} (xs ys : List A) → AllPairs (λ a b. a ≢ b) xs → All (λ y. Contains ys y) xs → length xs ≤ length ys
no_more [] ys apart all = omega arith
no_more (x ∷ xs) ys apart all =
    let at = all 0 x (omega arith) in
    let same = taken x ys at in
    let ih = no_more xs (remove ys at.0) (rest_apart x xs apart) (others x xs (remove ys at.0) ys apart same all) in
    let n = length_permutation ys (x ∷ remove ys at.0) same in
    omega (arith, ih, n)

-- and all of them, where there are as many
pub all_of : {A : Type 0} (xs ys : List A) → AllPairs (λ a b. a ≢ b) xs → All (λ y. Contains ys y) xs → length ys ≤ length xs → IsPermutation xs ys
all_of [] [] apart all le = IsPermutation-refl []
all_of [] (y ∷ ys) apart all le = absurd (omega (arith, le))
all_of (x ∷ xs) ys apart all le =
    let at = all 0 x (omega arith) in
    let same = taken x ys at in
    let n = length_permutation ys (x ∷ remove ys at.0) same in
    IsPermutation-trans (x ∷ xs) (x ∷ remove ys at.0) ys
    (IsPermutation-cons x xs (remove ys at.0) (all_of xs (remove ys at.0) (rest_apart x xs apart) (others x xs (remove ys at.0) ys apart same all) (omega (arith, n, le))))
    (IsPermutation-sym ys (x ∷ remove ys at.0) same)

module _ {M : Type 0} (cs : List (List ℕ × M)) (ks : List Coupling) where
  only_these : (some : List Coupling) → All (IsPathCoupling (all_atoms cs) (map link_between ks)) some → All (λ k. Contains ks k) some
  only_these some all i d lt = among_links ks (slice_index_or some i d) (link_of_path cs (map link_between ks) (slice_index_or some i d) (all i d lt))

  pub not_too_many : length ks ≤ 8192 → AreTooMany (all_atoms cs) (map link_between ks) → ⊥
  not_too_many few t =
      let n = no_more t.some ks t.once (only_these t.some t.sound) in
      let m = t.many in
      omega (arith, few, n, m)

  pub same_couplings : (flat : List Coupling) → AllPairs (λ a b. a ≢ b) ks → All (IsCoupling (length cs)) ks → AreCouplings (all_atoms cs) (map link_between ks) flat → IsPermutation ks flat
  same_couplings flat once sound are =
      all_of ks flat once
      (λ i d lt. are.whole (slice_index_or ks i d) (path_of_link cs (map link_between ks) (slice_index_or ks i d) (sound i d lt) (Contains-map link_between ks (slice_index_or ks i d) (i, lt, here ks i d lt))))
      (no_more flat ks are.once (only_these flat are.sound))
    where
      here : (xs : List Coupling) (i : ℕ) (d : Coupling) → i < length xs → slice_index_or xs i (slice_index_or xs i d) ≡ slice_index_or xs i d
      here [] i d lt = absurd (omega (arith, lt))
      here (x ∷ xs) zero d lt = refl
      here (x ∷ xs) (suc i) d lt = here xs i d (omega (arith, lt))

-- ---- the same first fault

or_assoc : (a b c : Option NetworkRefused) → option_or (option_or a b) c ≡ option_or a (option_or b c)
or_assoc None b c = refl
or_assoc (Some f) b c = refl

module _ {M S : Type 0} (meaning : M → Meaning S) where
  no_inner : (cs : List (List ℕ × M)) → inner_fault meaning (all_atoms cs) ≡ None
  no_inner [] = refl
  no_inner (c ∷ cs) = no_inner cs

  same_parts : (before cs : List (List ℕ × M)) → parts_fault meaning (names_of before) (all_atoms cs) ≡ first_of (λ before c. component_fault meaning (names_of before) c) before cs
  same_parts before [] = refl
  same_parts before (c ∷ cs) =
      let ih = same_parts (before ++ c ∷ []) cs in
      let names = map-append (λ (c : List ℕ × M). c.0) before (c ∷ []) in
      (λ i. option_or (or_assoc (name_fault c.0) (unless (not (has_name (names_of before) c.0)) DuplicateName) (unless (starts_in_time (meaning c.1)) BadTick) i) (parts_fault meaning (sym names i) (all_atoms cs)))
      ∙ ap (option_or (component_fault meaning (names_of before) c)) ih

  any_link : (ks : List Coupling) (k : Coupling) → has_link (map link_between ks) (link_between k) ≡ has_coupling ks k
  any_link [] k = refl
  any_link (j ∷ ks) k = ap (λ b. same_coupling k j || b) (any_link ks k)

  same_links : (count : ℕ) (before ks : List Coupling) → first_of (link_fault true count) (map link_between before) (map link_between ks) ≡ first_of (coupling_fault count) before ks
  same_links count before [] = refl
  same_links count before (k ∷ ks) =
      let ih = same_links count (before ++ k ∷ []) ks in
      let links = map-append link_between before (k ∷ []) in
      (λ i. option_or (link_fault true count (map link_between before) (link_between k)) (first_of (link_fault true count) (sym links i) (map link_between ks)))
      ∙ (λ i. option_or (option_or (link_end_fault true count (link_between k)) (unless (not (any_link before k i)) DuplicateRoute)) (ih i))

  atoms_count : (cs : List (List ℕ × M)) → part_count (all_atoms cs) ≡ length cs
  atoms_count [] = refl
  atoms_count (c ∷ cs) = let ih = atoms_count cs in omega (arith, ih)

  same_models : (cs : List (List ℕ × M)) (ks : List Coupling) → models_fault meaning (all_atoms cs) (map link_between ks) ≡ option_or (components_fault meaning cs) (couplings_fault (length cs) ks)
  same_models cs ks =
      (λ i. option_or (option_or (same_parts [] cs i) (links_fault true (atoms_count cs i) (map link_between ks))) (no_inner cs i))
      ∙ (λ i. option_or (option_or (components_fault meaning cs) (same_links (length cs) [] ks i)) None)
      ∙ or_none _
    where
      or_none : (o : Option NetworkRefused) → option_or o None ≡ o
      or_none None = refl
      or_none (Some f) = refl

-- how many they are
module _ {M : Type 0} where
  one_level : (cs : List (List ℕ × M)) → levels (all_atoms cs) ≤ 1
  one_level [] = omega arith
  one_level (c ∷ cs) = let ih = one_level cs in omega (arith, ih)

  none_coupled : (cs : List (List ℕ × M)) → coupled_count (all_atoms cs) ≡ 0
  none_coupled [] = refl
  none_coupled (c ∷ cs) = none_coupled cs

  none_linked : (cs : List (List ℕ × M)) → link_count (all_atoms cs) ≡ 0
  none_linked [] = refl
  none_linked (c ∷ cs) = none_linked cs

  same_counts : (cs : List (List ℕ × M)) (ks : List Coupling) (inputs : ℕ) → tree_count_fault (all_atoms cs) (map link_between ks) inputs ≡ count_fault (length cs) (length ks) inputs
  same_counts cs ks inputs =
      let few : nat_le (levels (all_atoms cs)) 16 ≡ true = is_le (levels (all_atoms cs)) 16 (let l = one_level cs in omega (arith, l)) in
      let none : nat_le (coupled_count (all_atoms cs)) 1024 ≡ true = is_le (coupled_count (all_atoms cs)) 1024 (let l = none_coupled cs in omega (arith, l)) in
      let atoms : length (models_in (all_atoms cs)) ≡ length cs = ap length (models_are cs) ∙ length-map cs (λ c. c.1) in
      let links : length (map link_between ks) + link_count (all_atoms cs) ≡ length ks = (let n = none_linked cs in let m = length-map ks link_between in omega (arith, n, m)) in
      (λ i. unless (few i && nat_le (atoms i) 1024 && none i && nat_le (links i) 8192 && nat_le inputs 65536) TooMany)
      ∙ ap (λ b. unless (b && nat_le (length ks) 8192 && nat_le inputs 65536) TooMany) (and_true (nat_le (length cs) 1024))
    where
      is_le : (a b : ℕ) → a ≤ b → nat_le a b ≡ true
      is_le a b le = grind (arith, nat_tests)

      and_true : (b : Bool) → (b && true) ≡ b
      and_true true = refl
      and_true false = refl

module _ {M S : Type 0} (meaning : M → Meaning S) (cs : List (List ℕ × M)) (ks : List Coupling) (inputs : List Input) (limit : ℕ) where
  -- the fault of what is handed in, before the inputs
  abbrev parts_first : Option NetworkRefused
  parts_first = option_or (count_fault (length cs) (length ks) (length inputs)) (option_or (limit_fault limit) (option_or (components_fault meaning cs) (couplings_fault (length cs) ks)))

  same_tree_fault : tree_fault meaning (all_atoms cs) (map link_between ks) inputs limit ≡ parts_first
  same_tree_fault = λ i. option_or (same_counts cs ks (length inputs) i) (option_or (limit_fault limit) (same_models meaning cs ks i))

  first_split : first_fault meaning cs ks inputs limit ≡ option_or parts_first (inputs_fault (length cs) inputs)
  first_split = go (count_fault (length cs) (length ks) (length inputs)) (limit_fault limit) (components_fault meaning cs) (couplings_fault (length cs) ks) (inputs_fault (length cs) inputs)
    where
      go : (a b c d e : Option NetworkRefused) → option_or a (option_or b (option_or c (option_or d e))) ≡ option_or (option_or a (option_or b (option_or c d))) e
      go (Some f) b c d e = refl
      go None (Some f) c d e = refl
      go None None (Some f) d e = refl
      go None None None d e = refl

  same_inputs : inputs_fault (length (models_in (all_atoms cs))) inputs ≡ inputs_fault (length cs) inputs
  same_inputs = ap (λ n. inputs_fault n inputs) (ap length (models_are cs) ∙ length-map cs (λ c. c.1))

  pub same_no_fault : tree_fault meaning (all_atoms cs) (map link_between ks) inputs limit ≡ None → inputs_fault (length (models_in (all_atoms cs))) inputs ≡ None → first_fault meaning cs ks inputs limit ≡ None
  same_no_fault e f = first_split ∙ (λ i. option_or ((sym same_tree_fault ∙ e) i) ((sym same_inputs ∙ f) i))

  -- the couplings are few where none of this is at fault
  few_couplings : tree_fault meaning (all_atoms cs) (map link_between ks) inputs limit ≡ None → length ks ≤ 8192
  few_couplings e =
      let p = neither (count_fault (length cs) (length ks) (length inputs)) _ (sym same_tree_fault ∙ e) in
      let b = and_parts (nat_le (length cs) 1024 && nat_le (length ks) 8192) (nat_le (length inputs) 65536) (holds _ _ p.0) in
      leb-true (length ks) 8192 (and_parts (nat_le (length cs) 1024) (nat_le (length ks) 8192) b.0).1

  pub same_fault : (f : NetworkRefused) → IsTreeFault meaning (all_atoms cs) (map link_between ks) inputs limit f → first_fault meaning cs ks inputs limit ≡ Some f
  same_fault f (in_tree _ e) = first_split ∙ ap (λ o. option_or o (inputs_fault (length cs) inputs)) (sym same_tree_fault ∙ e)
  same_fault _ (in_couplings e many) = absurd (not_too_many cs ks (few_couplings e) many)
  same_fault f (in_inputs flat _ e are g) = first_split ∙ (λ i. option_or ((sym same_tree_fault ∙ e) i) ((sym same_inputs ∙ g) i))

  pub sound_couplings : tree_fault meaning (all_atoms cs) (map link_between ks) inputs limit ≡ None → couplings_fault (length cs) ks ≡ None
  sound_couplings e =
      let p = neither (count_fault (length cs) (length ks) (length inputs)) _ (sym same_tree_fault ∙ e) in
      let q = neither (limit_fault limit) _ p.1 in
      (neither (components_fault meaning cs) (couplings_fault (length cs) ks) q.1).1

-- ---- of a tree that is flat

module _ {M S : Type 0} (meaning : M → Meaning S) (parts : Parts M) (links : List Link) (inputs : List Input) (limit : ℕ) where
  -- what holds of the tree holds of these components
  as_flat : (P : Parts M → List Link → Type 0) (cs : List (List ℕ × M)) (ks : List Coupling) → IsFlatTree parts links cs ks → P parts links → P (all_atoms cs) (map link_between ks)
  as_flat P cs ks flat at = subst (λ l. P (all_atoms cs) l) flat.between (subst (λ p. P p links) flat.atoms at)

  pub refused_so : (cs : List (List ℕ × M)) (ks : List Coupling) → IsFlatTree parts links cs ks → (f : NetworkRefused) → IsTreeFault meaning parts links inputs limit f → first_fault meaning cs ks inputs limit ≡ Some f
  refused_so cs ks flat f at = same_fault meaning cs ks inputs limit f (as_flat (λ p l. IsTreeFault meaning p l inputs limit f) cs ks flat at)

  pub refused_as_new : {A : Type 0} (r : Result A NetworkRefused) → IfErr r (λ e. e ≢ OutOfMemory → IsTreeFault meaning parts links inputs limit e) → (cs : List (List ℕ × M)) (ks : List Coupling) → IsFlatTree parts links cs ks → IfErr r (λ e. e ≢ OutOfMemory → first_fault meaning cs ks inputs limit ≡ Some e)
  refused_as_new (Ok x) at cs ks flat = tt
  refused_as_new (Err e) at cs ks flat = λ ne. refused_so cs ks flat e (at ne)

  pub sound_as_new : (cs : List (List ℕ × M)) (ks : List Coupling) → IsFlatTree parts links cs ks → tree_fault meaning parts links inputs limit ≡ None → inputs_fault (length (models_in parts)) inputs ≡ None → first_fault meaning cs ks inputs limit ≡ None
  sound_as_new cs ks flat e f =
      same_no_fault meaning cs ks inputs limit (as_flat (λ p l. tree_fault meaning p l inputs limit ≡ None) cs ks flat e)
      (as_flat (λ p l. inputs_fault (length (models_in p)) inputs ≡ None) cs ks flat f)

  pub made_as_new : (n : Contents M) → IsFlattened parts links inputs limit n → tree_fault meaning parts links inputs limit ≡ None → (cs : List (List ℕ × M)) (ks : List Coupling) → IsFlatTree parts links cs ks → IsSameNetwork n (handed_in cs ks inputs limit)
  made_as_new n made e cs ks flat =
      let sound = sound_couplings meaning cs ks inputs limit (as_flat (λ p l. tree_fault meaning p l inputs limit ≡ None) cs ks flat e) in
      record {
        names = made.names ∙ ap (flat_names []) flat.atoms ∙ names_are cs;
        models = made.models ∙ ap models_in flat.atoms ∙ models_are cs;
        couplings = same_couplings cs ks n.couplings (distinct_couplings (length cs) ks sound) (all_couplings (length cs) ks sound) (as_flat (λ p l. AreCouplings p l n.couplings) cs ks flat made.couplings);
        inputs = made.inputs;
        micro_limit = made.micro_limit;
      }
