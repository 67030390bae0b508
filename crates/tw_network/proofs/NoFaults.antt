-- What is true of lists in which there is no first fault: of each component, coupling and input, and of all of them together.
use Rattle.std.proofs.Common.{◌≡◌, ◌≢◌, ℕ, ◌<◌, ◌≤◌, Bool, true, false, ◌==◌, nat_lt, nat_le, List, [], ◌∷◌, ◌++◌, length, take, map, refl, sym, ap, ◌∙◌, subst, arith, Option, None, Some, slice_index_or, zero, suc, true≢false, append_assoc}
use Rattle.std.specs.List.{list_any, All, AllPairs, AllByRecursion as Each}
use Rattle.std.specs.Option.{option_or, option_map_or}
use Rattle.std.specs.Str.{bytes_eq}
use Rattle.std.proofs.lemmas.Bool.{and_parts, or_parts, not-true, ltb-true, leb-true, eqb-false}
use Rattle.std.proofs.lemmas.Bool.Decides.{nat_tests}
use Rattle.std.proofs.lemmas.List.{append-nil, get_or-map, get_or-take, length-map, length-take-le}
use Rattle.std.proofs.lemmas.List.Elements.{All-map, recursion_from_All}
use Rattle.tw_atomic.specs.Atomic.{Meaning}
use Rattle.tw_network.specs.Contents.{Contents, Input, IsCoupling, IsInput, IsWhole, StartsInTime, IsFlatName, alone, handed_in, is_name, message_of, models_of, names_of, network_of}
use Rattle.tw_network.specs.Faults.{unless, first_of, first_fault, count_fault, limit_fault, component_fault, components_fault, end_fault, coupling_fault, couplings_fault, has_coupling, has_name, input_fault, inputs_fault, same_coupling, starts_in_time}
use Rattle.tw_network.specs.declared.refused.NetworkRefused.{NetworkRefused}
use Rattle.tw_network.proofs.Names.{text_itself}
use Rattle.tw_theory.specs.Network.{Coupling, Fits, IsNetwork}
use Rattle.tw_vtime.specs.Stamps.{max_tick}

-- ---- tests

pub neither : (a b : Option NetworkRefused) → option_or a b ≡ None → (a ≡ None) × (b ≡ None)
neither None b e = (refl, e)
neither (Some f) b e = absurd cc

pub holds : (b : Bool) (f : NetworkRefused) → unless b f ≡ None → b ≡ true
holds true f e = refl
holds false f e = absurd cc

-- what fails at all of a list fails at each of it
pub not_any : {A : Type 0} (p : A → Bool) (xs : List A) → list_any p xs ≡ false → (i : ℕ) (d : A) → i < length xs → p (slice_index_or xs i d) ≡ false
not_any p [] e i d lt = absurd (omega (arith, lt))
not_any p (x ∷ xs) e zero d lt = (or_parts (p x) (list_any p xs) e).0
not_any p (x ∷ xs) e (suc i) d lt = not_any p xs (or_parts (p x) (list_any p xs) e).1 i d (omega (arith, lt))

same_itself : (k : Coupling) → same_coupling k k ≡ true
same_itself k = grind (arith, nat_tests)

-- ---- along a list

-- each thing is not at fault after those before it
pub none_at_fault : {A : Type 0} (fault : List A → A → Option NetworkRefused) (before xs : List A) → first_of fault before xs ≡ None → (i : ℕ) (d : A) → i < length xs → fault (before ++ take i xs) (slice_index_or xs i d) ≡ None
none_at_fault fault before [] e i d lt = absurd (omega (arith, lt))
none_at_fault fault before (x ∷ xs) e zero d lt =
    subst (λ b. fault b x ≡ None) (sym (append-nil before)) (neither (fault before x) (first_of fault (before ++ x ∷ []) xs) e).0
none_at_fault fault before (x ∷ xs) e (suc i) d lt =
    subst (λ b. fault b (slice_index_or xs i d) ≡ None) (append_assoc before (x ∷ []) (take i xs))
    (none_at_fault fault (before ++ x ∷ []) xs (neither (fault before x) (first_of fault (before ++ x ∷ []) xs) e).1 i d (omega (arith, lt)))

-- ---- one by one

IsCoupling-no_fault : (count : ℕ) (k : Coupling) → end_fault count k ≡ None → IsCoupling count k
IsCoupling-no_fault count k e =
    let p = neither _ _ e in
    let q = neither _ _ p.1 in
    let ends = and_parts (nat_lt k.0 count) (nat_lt k.2 count) (holds _ _ p.0) in
    let ports = and_parts (nat_le k.1 15) (nat_le k.3 15) (holds _ _ q.0) in
    record {
      source = ltb-true k.0 count ends.0;
      source_port = leb-true k.1 15 ports.0;
      destination = ltb-true k.2 count ends.1;
      destination_port = leb-true k.3 15 ports.1;
      apart = eqb-false k.0 k.2 (not-true (k.0 == k.2) (holds _ _ q.1));
    }

IsInput-no_fault : (count : ℕ) (i : Input) → input_fault count i ≡ None → IsInput count i
IsInput-no_fault count i e =
    let p = neither _ _ e in
    let q = neither _ _ p.1 in
    record {
      tick = leb-true i.0 max_tick (holds _ _ q.1);
      to = ltb-true i.1 count (holds _ _ p.0);
      port = leb-true i.2 15 (holds _ _ q.0);
    }

pub StartsInTime-no_fault : {S : Type 0} (m : Meaning S) → starts_in_time m ≡ true → StartsInTime m
StartsInTime-no_fault m e = go (m.ta m.start) e
  where
    go : (o : Option ℕ) → option_map_or (λ ta. nat_le ta max_tick) o true ≡ true → (ta : ℕ) → o ≡ Some ta → ta ≤ max_tick
    go None h ta is = absurd cc
    go (Some t) h ta is = let low : t ≤ max_tick = leb-true t max_tick h in let same : t ≡ ta = cc in omega (arith, low, same)

-- ---- components

-- of each component: its name, that it is new, and its start
record IsSoundComponent {M S : Type 0} (meaning : M → Meaning S) (names : List (List ℕ)) (c : List ℕ × M) : Type 0 where
  name : is_name c.0 ≡ true
  new : has_name names c.0 ≡ false
  starts : StartsInTime (meaning c.1)

sound_component : {M S : Type 0} (meaning : M → Meaning S) (components : List (List ℕ × M)) → components_fault meaning components ≡ None → (i : ℕ) (d : List ℕ × M) → i < length components → IsSoundComponent meaning (names_of (take i components)) (slice_index_or components i d)
sound_component meaning components e i d lt =
    let c = slice_index_or components i d in
    let p = neither _ _ (none_at_fault (λ before c. component_fault meaning (names_of before) c) [] components e i d lt) in
    let q = neither _ _ p.1 in
    record {
      name = holds (is_name c.0) _ p.0;
      new = not-true (has_name (names_of (take i components)) c.0) (holds _ _ q.0);
      starts = StartsInTime-no_fault (meaning c.1) (holds _ _ q.1);
    }

distinct_names : {M S : Type 0} (meaning : M → Meaning S) (components : List (List ℕ × M)) → components_fault meaning components ≡ None → AllPairs (λ a b. a ≢ b) (names_of components)
distinct_names meaning [] e i j d lt within same = absurd (omega (arith, within))
distinct_names {M} meaning (c ∷ cs) e i j d lt within same =
    let all : List (List ℕ × M) = c ∷ cs in
    let n = length-map all (λ x. x.0) in
    let long : j < length all = omega (arith, within, n) in
    let name : List ℕ = (slice_index_or all j c).0 in
    let new = (sound_component meaning all e j c long).new in
    let m = length-map (take j all) (λ x. x.0) in
    let some = length-take-le j all (omega (arith, long)) in
    let here : i < length (names_of (take j all)) = omega (arith, lt, m, some) in
    let differs = not_any (bytes_eq name) (names_of (take j all)) new i d here in
    let old = get_or-map (λ x. x.0) (take j all) i c d (omega (arith, here, m)) in
    let older = get_or-take j all i c lt in
    let one = get_or-map (λ x. x.0) all i c d (omega (arith, lt, long)) in
    let other = get_or-map (λ x. x.0) all j c d long in
    true≢false (sym (text_itself name) ∙ ap (bytes_eq name) (sym other ∙ sym same ∙ one ∙ sym (ap (λ x. x.0) older) ∙ sym old) ∙ differs)

-- ---- couplings and inputs

sound_coupling : (count : ℕ) (ks : List Coupling) → couplings_fault count ks ≡ None → (i : ℕ) (d : Coupling) → i < length ks → IsCoupling count (slice_index_or ks i d) × (has_coupling (take i ks) (slice_index_or ks i d) ≡ false)
sound_coupling count ks e i d lt =
    let k = slice_index_or ks i d in
    let p = neither _ _ (none_at_fault (coupling_fault count) [] ks e i d lt) in
    (IsCoupling-no_fault count k p.0, not-true (has_coupling (take i ks) k) (holds _ _ p.1))

pub distinct_couplings : (count : ℕ) (ks : List Coupling) → couplings_fault count ks ≡ None → AllPairs (λ a b. a ≢ b) ks
distinct_couplings count ks e i j d lt within same =
    let k = slice_index_or ks j d in
    let new = (sound_coupling count ks e j d within).1 in
    let some = length-take-le j ks (omega (arith, within)) in
    let differs = not_any (same_coupling k) (take j ks) new i d (omega (arith, lt, some)) in
    let old = get_or-take j ks i d lt in
    true≢false (sym (same_itself k) ∙ ap (same_coupling k) (sym same ∙ sym old) ∙ differs)

pub sound_input : (count : ℕ) (inputs : List Input) → inputs_fault count inputs ≡ None → All (IsInput count) inputs
sound_input count inputs e i d lt = IsInput-no_fault count (slice_index_or inputs i d) (none_at_fault (λ before i. input_fault count i) [] inputs e i d lt)

-- ---- all together

Each-map-from_All : {A B : Type 0} (P : B → Type 0) (f : A → B) (xs : List A) → All (λ x. P (f x)) xs → Each P (map f xs)
Each-map-from_All P f [] all = tt
Each-map-from_All P f (x ∷ xs) all = (all 0 x (omega arith), Each-map-from_All P f xs (λ i d lt. all (suc i) d (omega (arith, lt))))

pub is_network : {M S : Type 0} (meaning : M → Meaning S) (n : Contents M) → All (IsCoupling (length n.models)) n.couplings → All (IsInput (length n.models)) n.inputs → IsNetwork (network_of meaning n)
is_network meaning n couplings inputs =
    let count = length-map n.models meaning in
    record {
      inputs = Each-map-from_All (Fits (network_of meaning n)) message_of n.inputs (λ i d lt. fits i d (inputs i d lt) count);
      couplings = recursion_from_All (λ k. k.2 < length (map meaning n.models)) n.couplings (λ i d lt. let k = (couplings i d lt).destination in omega (arith, k, count));
    }
  where
    fits : (i : ℕ) (d : Input) → IsInput (length n.models) (slice_index_or n.inputs i d) → length (map meaning n.models) ≡ length n.models → Fits (network_of meaning n) (message_of (slice_index_or n.inputs i d))
    fits i d good count = record {
      to = let t = good.to in omega (arith, t, count);
      phase = omega arith;
      stamp = let t = good.tick in omega (arith, t);
    }

pub is_whole : {M S : Type 0} (meaning : M → Meaning S) (components : List (List ℕ × M)) (couplings : List Coupling) (inputs : List Input) (micro_limit : ℕ) → first_fault meaning components couplings inputs micro_limit ≡ None → IsWhole meaning (handed_in components couplings inputs micro_limit)
is_whole {M} {S} meaning components couplings inputs micro_limit e =
    let p = neither _ _ e in
    let q = neither _ _ p.1 in
    let r = neither _ _ q.1 in
    let s = neither _ _ r.1 in
    let counts = and_parts _ _ (holds _ _ p.0) in
    let less = and_parts _ _ counts.0 in
    let limits = and_parts _ _ (holds _ _ q.0) in
    let n = length-map components (λ c. c.1) in
    let each_coupling : All (IsCoupling (length (models_of components))) couplings =
    subst (λ m. All (IsCoupling m) couplings) (sym n) (λ i d lt. (sound_coupling (length components) couplings s.0 i d lt).0) in
    let each_input : All (IsInput (length (models_of components))) inputs =
    subst (λ m. All (IsInput m) inputs) (sym n) (sound_input (length components) inputs s.1) in
    record {
      all_named = length-map components (λ c. c.0) ∙ sym n;
      names = All-map IsFlatName (λ c. c.0) components (λ i d lt. alone (slice_index_or components i d).0 (sound_component meaning components r.0 i d lt).name);
      distinct = distinct_names meaning components r.0;
      starts = All-map (λ m. StartsInTime (meaning m)) (λ c. c.1) components (λ i d lt. (sound_component meaning components r.0 i d lt).starts);
      couplings = each_coupling;
      coupled_once = distinct_couplings (length components) couplings s.0;
      inputs = each_input;
      component_count = let low : length components ≤ 1024 = leb-true (length components) 1024 less.0 in omega (arith, low, n);
      coupling_count = leb-true _ _ less.1;
      input_count = leb-true _ _ counts.1;
      some_microstep = leb-true _ _ limits.0;
      microsteps = leb-true _ _ limits.1;
      network = is_network meaning (handed_in components couplings inputs micro_limit) each_coupling each_input;
    }

neither_from : (a b : Option NetworkRefused) → a ≡ None → b ≡ None → option_or a b ≡ None
neither_from None b e f = f
neither_from (Some x) b e f = absurd cc

-- what is true of a network whose parts are not at fault
pub whole_from_checks : {M S : Type 0} (meaning : M → Meaning S) (components : List (List ℕ × M)) (names : List (List ℕ)) (models : List M) (couplings : List Coupling) (inputs : List Input) (limit : ℕ)
    → names ≡ names_of components → models ≡ models_of components → count_fault (length components) (length couplings) (length inputs) ≡ None → limit_fault limit ≡ None → components_fault meaning components ≡ None → couplings_fault (length models) couplings ≡ None → inputs_fault (length models) inputs ≡ None
    → IsWhole meaning (record { names = names; models = models; couplings = couplings; inputs = inputs; micro_limit = limit })
whole_from_checks meaning components names models couplings inputs limit is_names is_models counts limits each_component each_coupling each_input =
    let n = ap length is_models ∙ length-map components (λ c. c.1) in
    let none = neither_from _ _ counts (neither_from _ _ limits (neither_from _ _ each_component (neither_from _ _
    (subst (λ m. couplings_fault m couplings ≡ None) n each_coupling)
    (subst (λ m. inputs_fault m inputs ≡ None) n each_input)))) in
    let whole = is_whole meaning components couplings inputs limit none in
    subst (λ ns. IsWhole meaning (record { names = ns; models = models; couplings = couplings; inputs = inputs; micro_limit = limit })) (sym is_names)
    (subst (λ ms. IsWhole meaning (record { names = names_of components; models = ms; couplings = couplings; inputs = inputs; micro_limit = limit })) (sym is_models) whole)

pub all_couplings : (count : ℕ) (ks : List Coupling) → couplings_fault count ks ≡ None → All (IsCoupling count) ks
all_couplings count ks e i d lt = (sound_coupling count ks e i d lt).0

pub few_components : (components couplings inputs : ℕ) → None ≡ count_fault components couplings inputs → components ≤ 1024
few_components components couplings inputs e =
    let counts = and_parts _ _ (holds _ _ (sym e)) in
    let less = and_parts _ _ counts.0 in
    leb-true components 1024 less.0
