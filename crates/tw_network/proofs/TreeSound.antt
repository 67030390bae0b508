-- What is true of a tree in which nothing is at fault, and of the network that is made of it.
use Rattle.std.proofs.Common.{◌≡◌, ◌≢◌, ℕ, ◌+◌, ◌≤◌, List, ◌∷◌, [], ◌++◌, length, refl, sym, ap, arith, subst, slice_index_or, Bool, true, false, ◌&&◌, nat_le, None, length-append}
use Rattle.std.specs.List.{All, AllPairs}
use Rattle.std.proofs.lemmas.Bool.{and_parts, not-true, ltb-true, leb-true, eqb-false}
use Rattle.std.proofs.lemmas.List.Elements.{All-append, All-cons, All-nil}
use Rattle.tw_atomic.specs.Atomic.{Meaning}
use Rattle.tw_nested.specs.declared.tree.End.{End}
use Rattle.tw_nested.specs.declared.tree.End.TheVariants.{Here, Part}
use Rattle.tw_nested.specs.Tree.{Parts, Link, Model, no_parts, atom, coupled, size, levels, numbers, part_count, atoms_from, models_in, coupled_count, coupled_from, link_count, model_at, flat_names}
use Rattle.tw_nested.specs.Paths.{IsLink, IsEnd, AreApart}
use Rattle.tw_nested.specs.Whole.{AreLinked, AreCouplings}
use Rattle.tw_network.specs.Contents.{Input, IsCoupling, IsWhole, IsFlatName, StartsInTime}
use Rattle.tw_network.specs.Faults.{inputs_fault, limit_fault, starts_in_time}
use Rattle.tw_network.specs.TreeFaults.{inner_fault, parts_fault, is_end, is_few, same_end, link_end_fault, link_fault, links_fault, models_fault}
use Rattle.tw_network.proofs.NoFaults.{neither, holds, none_at_fault, sound_input, is_network, StartsInTime-no_fault}
use Rattle.tw_network.proofs.TreeNames.{flat_names_are, flat_names_distinct}
use Rattle.tw_theory.specs.Network.{Coupling}
use Rattle.tw_vtime.specs.Stamps.{max_microstep}

-- ---- how many there are

pub size-is : {M : Type 0} (parts : Parts M) → size parts ≡ length (models_in parts) + coupled_count parts
size-is no_parts = refl
size-is (atom name m rest) = let ih = size-is rest in omega (arith, ih)
size-is (coupled name inner links rest) =
    let a = size-is inner in let b = size-is rest in let n = length-append (models_in inner) (models_in rest) in omega (arith, a, b, n)

pub atoms-length : {M : Type 0} (n : ℕ) (parts : Parts M) → length (atoms_from n parts) ≡ length (models_in parts)
atoms-length n no_parts = refl
atoms-length n (atom name m rest) = let ih = atoms-length (n + 1) rest in omega (arith, ih)
atoms-length n (coupled name inner links rest) =
    let a = atoms-length (n + 1) inner in let b = atoms-length (n + 1 + size inner) rest in
    let m = length-append (models_in inner) (models_in rest) in let k = length-append (atoms_from (n + 1) inner) (atoms_from (n + 1 + size inner) rest) in omega (arith, a, b, m, k)

pub names-length : {M : Type 0} (prefix : List ℕ) (parts : Parts M) → length (flat_names prefix parts) ≡ length (models_in parts)
names-length prefix no_parts = refl
names-length prefix (atom name m rest) = let ih = names-length prefix rest in omega (arith, ih)
names-length prefix (coupled name inner links rest) =
    let a = names-length (prefix ++ name ++ 46 ∷ []) inner in let b = names-length prefix rest in
    let m = length-append (models_in inner) (models_in rest) in let k = length-append (flat_names (prefix ++ name ++ 46 ∷ []) inner) (flat_names prefix rest) in omega (arith, a, b, m, k)

numbers-length : {M : Type 0} (n : ℕ) (parts : Parts M) → length (numbers n parts) ≡ part_count parts
numbers-length n no_parts = refl
numbers-length n (atom name m rest) = let ih = numbers-length (n + 1) rest in omega (arith, ih)
numbers-length n (coupled name inner links rest) = let ih = numbers-length (n + 1 + size inner) rest in omega (arith, ih)

-- no more parts than are few
pub few_parts : {M : Type 0} (parts : Parts M) (links : List Link) → is_few parts links ≡ true → (size parts ≤ 2048) × (length (atoms_from 1 parts) ≤ 1024)
few_parts parts links e =
    let a = and_parts (nat_le (levels parts) 16 && nat_le (length (models_in parts)) 1024 && nat_le (coupled_count parts) 1024) (nat_le (length links + link_count parts) 8192) e in
    let b = and_parts (nat_le (levels parts) 16 && nat_le (length (models_in parts)) 1024) (nat_le (coupled_count parts) 1024) a.0 in
    let c = and_parts (nat_le (levels parts) 16) (nat_le (length (models_in parts)) 1024) b.0 in
    let atoms : length (models_in parts) ≤ 1024 = leb-true (length (models_in parts)) 1024 c.1 in
    let models : coupled_count parts ≤ 1024 = leb-true (coupled_count parts) 1024 b.1 in
    let s = size-is parts in
    let l = atoms-length 1 parts in
    (omega (arith, s, atoms, models), omega (arith, l, atoms))

-- ---- couplings

is_link : (is_root : Bool) (count : ℕ) (m : Model) → length m.parts ≡ count → (k : Link) → link_end_fault is_root count k ≡ None → IsLink m k
is_link is_root count m long (a, p, b, q) e =
    let u = neither _ _ e in
    let v = neither _ _ u.1 in
    let ends = and_parts (is_end is_root count a) (is_end is_root count b) (holds _ _ u.0) in
    let ports = and_parts (nat_le p 15) (nat_le q 15) (holds _ _ v.0) in
    let low : p ≤ 15 = leb-true p 15 ports.0 in
    let high : q ≤ 15 = leb-true q 15 ports.1 in
    record {
      source = end a ends.0;
      source_port = omega (arith, low);
      destination = end b ends.1;
      destination_port = omega (arith, high);
      apart = ends_apart a b (not-true (same_end a b) (holds _ _ v.1));
    }
  where
    end : (a : End) → is_end is_root count a ≡ true → IsEnd m a
    end Here at = tt
    end (Part i) at = let lt = ltb-true i count at in omega (arith, lt, long)

    ends_apart : (a b : End) → same_end a b ≡ false → AreApart a b
    ends_apart Here Here at = absurd cc
    ends_apart Here (Part j) at = tt
    ends_apart (Part i) Here at = tt
    ends_apart (Part i) (Part j) at = eqb-false i j at

are_links : (is_root : Bool) (count : ℕ) (m : Model) → length m.parts ≡ count → (links : List Link) → links_fault is_root count links ≡ None → All (IsLink m) links
are_links is_root count m long links e i d lt = is_link is_root count m long (slice_index_or links i d) (neither _ _ (none_at_fault (link_fault is_root count) [] links e i d lt)).0

module _ {M S : Type 0} (meaning : M → Meaning S) where
  inner_linked : (n : ℕ) (parts : Parts M) → inner_fault meaning parts ≡ None → All (λ m. All (IsLink m) m.links) (coupled_from n parts)
  inner_linked n no_parts e = All-nil (λ (m : Model). All (IsLink m) m.links)
  inner_linked n (atom name m rest) e = inner_linked (n + 1) rest e
  inner_linked n (coupled name inner links rest) e =
      let p = neither _ _ e in
      let q = neither _ _ p.0 in
      let own = (neither (parts_fault meaning [] inner) (links_fault false (part_count inner) links) q.0).1 in
      All-append (λ (m : Model). All (IsLink m) m.links) (coupled_from (n + 1) inner) (model_at n (n + 1) inner links ∷ coupled_from (n + 1 + size inner) rest)
      (inner_linked (n + 1) inner q.1)
      (All-cons (λ (m : Model). All (IsLink m) m.links) (model_at n (n + 1) inner links) (coupled_from (n + 1 + size inner) rest)
      (are_links false (part_count inner) (model_at n (n + 1) inner links) (numbers-length (n + 1) inner) links own)
      (inner_linked (n + 1 + size inner) rest p.1))

  pub tree_linked : (parts : Parts M) (links : List Link) → models_fault meaning parts links ≡ None → AreLinked parts links
  tree_linked parts links e =
      let p = neither _ _ e in
      let own = (neither (parts_fault meaning [] parts) (links_fault true (part_count parts) links) p.0).1 in
      All-append (λ (m : Model). All (IsLink m) m.links) (coupled_from 1 parts) (model_at 0 1 parts links ∷ [])
      (inner_linked 1 parts p.1)
      (All-cons (λ (m : Model). All (IsLink m) m.links) (model_at 0 1 parts links) [] (are_links true (part_count parts) (model_at 0 1 parts links) (numbers-length 1 parts) links own) (All-nil (λ (m : Model). All (IsLink m) m.links)))

  -- ---- start states

  starts_of : (names : List (List ℕ)) (parts : Parts M) → parts_fault meaning names parts ≡ None → inner_fault meaning parts ≡ None → All (λ m. StartsInTime (meaning m)) (models_in parts)
  starts_of names no_parts e f = All-nil (λ m. StartsInTime (meaning m))
  starts_of names (atom name m rest) e f =
      let p = neither _ _ e in
      let q = neither _ _ p.0 in
      All-cons (λ m. StartsInTime (meaning m)) m (models_in rest) (StartsInTime-no_fault (meaning m) (holds (starts_in_time (meaning m)) _ q.1)) (starts_of (names ++ name ∷ []) rest p.1 f)
  starts_of names (coupled name inner links rest) e f =
      let p = neither _ _ e in
      let q = neither _ _ f in
      let r = neither _ _ q.0 in
      let own = (neither (parts_fault meaning [] inner) (links_fault false (part_count inner) links) r.0).0 in
      All-append (λ m. StartsInTime (meaning m)) (models_in inner) (models_in rest) (starts_of [] inner own r.1) (starts_of (names ++ name ∷ []) rest p.1 q.1)

  -- ---- names

  pub tree_names_distinct : (parts : Parts M) (links : List Link) → models_fault meaning parts links ≡ None → AllPairs (λ a b. a ≢ b) (flat_names [] parts)
  tree_names_distinct parts links e =
      let p = neither _ _ e in
      flat_names_distinct meaning [] [] parts (neither (parts_fault meaning [] parts) (links_fault true (part_count parts) links) p.0).0 p.1

  -- ---- all together

  pub couplings_sound : (parts : Parts M) (links : List Link) (flat : List Coupling) (count : ℕ) → count ≡ length (models_in parts) → AreCouplings parts links flat → All (λ (k : Coupling). k.0 ≢ k.2) flat → All (IsCoupling count) flat
  couplings_sound parts links flat count is all apart i d lt =
      let k = all.sound i d lt in
      let n = atoms-length 1 parts in
      let s = k.source in let t = k.destination in let p = k.source_port in let q = k.destination_port in
      record { source = omega (arith, s, n, is); source_port = omega (arith, p); destination = omega (arith, t, n, is); destination_port = omega (arith, q); apart = apart i d lt }

  pub tree_whole : (parts : Parts M) (links : List Link) (names : List (List ℕ)) (models : List M) (flat : List Coupling) (inputs : List Input) (limit : ℕ)
      → names ≡ flat_names [] parts → models ≡ models_in parts → AreCouplings parts links flat → All (λ (k : Coupling). k.0 ≢ k.2) flat → is_few parts links ≡ true → length inputs ≤ 65536 → limit_fault limit ≡ None → models_fault meaning parts links ≡ None → inputs_fault (length models) inputs ≡ None
      → IsWhole meaning (record { names = names; models = models; couplings = flat; inputs = inputs; micro_limit = limit })
  tree_whole parts links names models flat inputs limit is_names is_models couplings apart few few_inputs limits sound each_input =
      let p = neither _ _ sound in
      let own = (neither (parts_fault meaning [] parts) (links_fault true (part_count parts) links) p.0).0 in
      let count : length models ≡ length (models_in parts) = ap length is_models in
      let each_coupling = couplings_sound parts links flat (length models) count couplings apart in
      let all_inputs = sound_input (length models) inputs each_input in
      let bounds = and_parts (nat_le 1 limit) (nat_le limit max_microstep) limits_hold in
      let atoms = (few_parts parts links few).1 in
      let n = names-length [] parts in let a = atoms-length 1 parts in let named = ap length is_names in
      record {
        all_named = omega (arith, named, n, count);
        names = subst (All IsFlatName) (sym is_names) (flat_names_are meaning [] [] parts (λ name is. is) own p.1);
        distinct = subst (AllPairs (λ a b. a ≢ b)) (sym is_names) (tree_names_distinct parts links sound);
        starts = subst (All (λ m. StartsInTime (meaning m))) (sym is_models) (starts_of [] parts own p.1);
        couplings = each_coupling;
        coupled_once = couplings.once;
        inputs = all_inputs;
        component_count = omega (arith, count, a, atoms);
        coupling_count = couplings.few;
        input_count = few_inputs;
        some_microstep = leb-true 1 limit bounds.0;
        microsteps = leb-true limit max_microstep bounds.1;
        network = is_network meaning (record { names = names; models = models; couplings = flat; inputs = inputs; micro_limit = limit }) each_coupling all_inputs;
      }
    where
      limits_hold : (nat_le 1 limit && nat_le limit max_microstep) ≡ true
      limits_hold = holds _ _ limits
