-- The destinations of a part: the couplings in order, between the start of the part and the start of the next.
use Rattle.std.proofs.Common.{◌≡◌, ◌≢◌, ℕ, ◌+◌, ◌-◌, ◌*◌, ◌<◌, ◌≤◌, Bool, true, false, List, [], ◌∷◌, length, map, take, drop, refl, sym, ap, ◌∙◌, arith, slice_index, slice_range, zero, suc, if◌then◌else◌}
use Rattle.std.specs.Ordering.{is_le}
use Rattle.std.specs.List.{All}
use Rattle.std.specs.List.Sorted.{IsSorted, IsPermutation}
use Rattle.std.proofs.lemmas.Bool.{cond-true, cond-false}
use Rattle.std.proofs.lemmas.Bool.Decides.{nat_tests}
use Rattle.std.proofs.lemmas.List.{length-map}
use Rattle.tw_msgs.proofs.Sorting.{RisesBy, LeadsBy, RisesBy-from_IsSorted, only_sorted, insert_by, sort_by}
use Rattle.tw_network.specs.Contents.{IsCoupling}
use Rattle.tw_network.specs.RouteIndex.{coupling_cmp, part_of, place_of, IsStart, IsRouteIndex}
use Rattle.tw_network.proofs.RouteOrder.{couplings_rank, number_of}
use Rattle.tw_theory.proofs.Reordered.{is_of, placed, placed-comm}
use Rattle.tw_theory.specs.Network.{Coupling, Destination, destinations, insert_destination, destination_at_or_before}

-- ---- one coupling more

places_other : (c port : ℕ) (k : Coupling) (ks : List Coupling) → is_of c port k ≡ false → destinations c port (k ∷ ks) ≡ destinations c port ks
places_other c port k ks e = cond-false (is_of c port k) _ _ e

places_own : (c port : ℕ) (k : Coupling) (ks : List Coupling) → is_of c port k ≡ true → destinations c port (k ∷ ks) ≡ insert_destination (place_of k) (destinations c port ks)
places_own c port k ks e = cond-true (is_of c port k) _ _ e

own_by_number : (c port : ℕ) (k : Coupling) → port < 16 → k.1 < 16 → number_of k ≡ part_of c port → is_of c port k ≡ true
own_by_number c port k p q e = grind (arith, nat_tests)

other_by_number : (c port : ℕ) (k : Coupling) → number_of k ≢ part_of c port → is_of c port k ≡ false
other_by_number c port k ne = grind (arith, nat_tests)

other_port : (c port : ℕ) (k : Coupling) → 15 < port → k.1 < 16 → is_of c port k ≡ false
other_port c port k high p = grind (arith, nat_tests)

-- of one part, the coupling that stands first leads to the place that stands first
places_lead : (j k : Coupling) → number_of j ≡ number_of k → j.1 < 16 → k.1 < 16 → is_le (coupling_cmp j k) ≡ true → destination_at_or_before (place_of j) (place_of k) ≡ true
places_lead j k e p q le = grind (arith, nat_tests)

-- ---- the starts of a list are those of its rest

start_of_rest : (k : Coupling) (ks : List Coupling) (part start : ℕ) → IsStart (k ∷ ks) part (suc start) → IsStart ks part start
start_of_rest k ks part start s = record {
  within = let w = s.within in omega (arith, w);
  before = λ i d lt. s.before (suc i) d (omega (arith, lt));
  after = λ i d low lt. s.after (suc i) d (omega (arith, low)) (omega (arith, lt));
}

start_at_rest : (k : Coupling) (ks : List Coupling) (part : ℕ) → IsStart (k ∷ ks) part 0 → IsStart ks part 0
start_at_rest k ks part s = record {
  within = omega arith;
  before = λ i d lt. absurd (omega (arith, lt));
  after = λ i d low lt. s.after (suc i) d (omega arith) (omega (arith, lt));
}

range_of_rest : {A : Type 0} (x : A) (xs : List A) (s e : ℕ) → slice_range (x ∷ xs) (suc s) (suc e) ≡ slice_range xs s e
range_of_rest x xs s e = let n : suc e - suc s ≡ e - s = omega arith in ap (λ m. take m (drop s xs)) n

rest_ports : (k : Coupling) (ks : List Coupling) → All (λ j. j.1 < 16) (k ∷ ks) → All (λ j. j.1 < 16) ks
rest_ports k ks ports = λ i d lt. ports (suc i) d (omega (arith, lt))

-- ---- the destinations of a part

-- x stands up to the first of the destinations
abbrev LeadsPlaces : Destination → List Destination → Type 0
LeadsPlaces x [] = Unit {0}
LeadsPlaces x (y ∷ ys) = destination_at_or_before x y ≡ true

insert_first : (x : Destination) (ys : List Destination) → LeadsPlaces x ys → insert_destination x ys ≡ x ∷ ys
insert_first x [] e = refl
insert_first x (y ∷ ys) e = cond-true (destination_at_or_before x y) _ _ e

leads_front : (k : Coupling) (ks : List Coupling) (c port e : ℕ) → number_of k ≡ part_of c port → k.1 < 16 → All (λ j. j.1 < 16) ks → LeadsBy coupling_cmp k ks → IsStart ks (part_of c port) 0 → IsStart ks (part_of c port + 1) e → LeadsPlaces (place_of k) (take e (map place_of ks))
leads_front k [] c port zero n q ports l s t = tt
leads_front k [] c port (suc e) n q ports l s t = tt
leads_front k (j ∷ ks) c port zero n q ports l s t = tt
leads_front k (j ∷ ks) c port (suc e) n q ports l s t =
    let low : part_of c port ≤ number_of j = s.after 0 j (omega arith) (omega arith) in
    let high : number_of j < part_of c port + 1 = t.before 0 j (omega arith) in
    places_lead k j (omega (arith, n, low, high)) q (ports 0 j (omega arith)) l

-- where the part stands first
places_front : (c port : ℕ) (ks : List Coupling) (e : ℕ) → port < 16 → All (λ k. k.1 < 16) ks → RisesBy coupling_cmp ks → IsStart ks (part_of c port) 0 → IsStart ks (part_of c port + 1) e → destinations c port ks ≡ take e (map place_of ks)
places_front c port [] zero p ports up a b = refl
places_front c port [] (suc e) p ports up a b = refl
places_front c port (k ∷ ks) zero p ports up a b =
    let high : part_of c port + 1 ≤ number_of k = b.after 0 k (omega arith) (omega arith) in
    places_other c port k ks (other_by_number c port k (λ n. omega (arith, n, high)))
    ∙ places_front c port ks 0 p (rest_ports k ks ports) up.1 (start_at_rest k ks (part_of c port) a) (start_at_rest k ks (part_of c port + 1) b)
places_front c port (k ∷ ks) (suc e) p ports up a b =
    let low : part_of c port ≤ number_of k = a.after 0 k (omega arith) (omega arith) in
    let high : number_of k < part_of c port + 1 = b.before 0 k (omega arith) in
    let n : number_of k ≡ part_of c port = omega (arith, low, high) in
    let q = ports 0 k (omega arith) in
    let s = start_at_rest k ks (part_of c port) a in
    let t = start_of_rest k ks (part_of c port + 1) e b in
    places_own c port k ks (own_by_number c port k p q n)
    ∙ ap (insert_destination (place_of k)) (places_front c port ks e p (rest_ports k ks ports) up.1 s t)
    ∙ insert_first (place_of k) (take e (map place_of ks)) (leads_front k ks c port e n q (rest_ports k ks ports) up.0 s t)

places_between : (c port : ℕ) (ks : List Coupling) (s e : ℕ) → port < 16 → All (λ k. k.1 < 16) ks → RisesBy coupling_cmp ks → IsStart ks (part_of c port) s → IsStart ks (part_of c port + 1) e → destinations c port ks ≡ slice_range (map place_of ks) s e
places_between c port ks zero e p ports up a b =
    let n : e - 0 ≡ e = omega arith in
    places_front c port ks e p ports up a b ∙ ap (λ m. take m (map place_of ks)) (sym n)
places_between c port [] (suc s) e p ports up a b = let w = a.within in absurd (omega (arith, w))
places_between c port (k ∷ ks) (suc s) zero p ports up a b =
    let low : number_of k < part_of c port = a.before 0 k (omega arith) in
    let high : part_of c port + 1 ≤ number_of k = b.after 0 k (omega arith) (omega arith) in
    absurd (omega (arith, low, high))
places_between c port (k ∷ ks) (suc s) (suc e) p ports up a b =
    let low : number_of k < part_of c port = a.before 0 k (omega arith) in
    places_other c port k ks (other_by_number c port k (λ n. omega (arith, n, low)))
    ∙ places_between c port ks s e p (rest_ports k ks ports) up.1 (start_of_rest k ks (part_of c port) s a) (start_of_rest k ks (part_of c port + 1) e b)
    ∙ sym (range_of_rest (place_of k) (map place_of ks) s e)

-- no part comes before the one that begins before it
starts_rise : (ks : List Coupling) (part s e : ℕ) → IsStart ks part s → IsStart ks (part + 1) e → s ≤ e
starts_rise [] part s e a b = let w = a.within in omega (arith, w)
starts_rise (k ∷ ks) part zero e a b = omega arith
starts_rise (k ∷ ks) part (suc s) zero a b =
    let low : number_of k < part = a.before 0 k (omega arith) in
    let high : part + 1 ≤ number_of k = b.after 0 k (omega arith) (omega arith) in
    absurd (omega (arith, low, high))
starts_rise (k ∷ ks) part (suc s) (suc e) a b = let h = starts_rise ks part s e (start_of_rest k ks part s a) (start_of_rest k ks (part + 1) e b) in omega (arith, h)

-- ---- the order of the couplings does not matter

places_inserted : (c port : ℕ) (k : Coupling) (ks : List Coupling) → destinations c port (insert_by coupling_cmp k ks) ≡ placed c port k (destinations c port ks)
places_inserted c port k [] = refl
places_inserted c port k (j ∷ ks) = go (is_le (coupling_cmp k j)) (places_inserted c port k ks)
  where
    go : (b : Bool) → destinations c port (insert_by coupling_cmp k ks) ≡ placed c port k (destinations c port ks) → destinations c port (if b then k ∷ j ∷ ks else j ∷ insert_by coupling_cmp k ks) ≡ placed c port k (placed c port j (destinations c port ks))
    go true ih = refl
    go false ih = ap (placed c port j) ih ∙ placed-comm c port j k (destinations c port ks)

pub places_sorted : (c port : ℕ) (ks : List Coupling) → destinations c port (sort_by coupling_cmp ks) ≡ destinations c port ks
places_sorted c port [] = refl
places_sorted c port (k ∷ ks) = places_inserted c port k (sort_by coupling_cmp ks) ∙ ap (placed c port k) (places_sorted c port ks)

pub places_of_part : (c port : ℕ) (ks sorted : List Coupling) (s e : ℕ) → port < 16 → All (λ k. k.1 < 16) sorted → IsPermutation ks sorted → IsSorted coupling_cmp sorted → IsStart sorted (part_of c port) s → IsStart sorted (part_of c port + 1) e → slice_range (map place_of sorted) s e ≡ destinations c port ks
places_of_part c port ks sorted s e p ports same up a b =
    let rises = RisesBy-from_IsSorted couplings_rank sorted up in
    sym (places_between c port sorted s e p ports rises a b)
    ∙ ap (destinations c port) (only_sorted couplings_rank ks sorted same rises)
    ∙ places_sorted c port ks

-- ---- the index as a whole

pub is_route_index : (couplings : List Coupling) (count : ℕ) (sorted : List Coupling) (starts : List ℕ) → All (λ k. k.1 < 16) sorted → IsPermutation couplings sorted → IsSorted coupling_cmp sorted → length starts ≡ 16 * count + 1 → ((part : ℕ) → part < 16 * count + 1 → IsStart sorted part (slice_index starts part)) → IsRouteIndex couplings count (map place_of sorted) starts
is_route_index couplings count sorted starts ports same up len at = record {
  parts = len;
  in_order = λ part lt. starts_rise sorted part (slice_index starts part) (slice_index starts (part + 1)) (at part (omega (arith, lt))) (at (part + 1) (omega (arith, lt)));
  within = λ part lt. let w = (at (part + 1) (omega (arith, lt))).within in omega (arith, w, length-map sorted place_of);
  routes = λ c port known p. places_of_part c port couplings sorted (slice_index starts (part_of c port)) (slice_index starts (part_of c port + 1)) p ports same up (at (part_of c port) (omega (arith, known, p))) (at (part_of c port + 1) (omega (arith, known, p)));
}

pub ports_of : (count : ℕ) (ks : List Coupling) → All (IsCoupling count) ks → All (λ k. k.1 < 16) ks
ports_of count ks all = λ i d lt. let p = (all i d lt).source_port in omega (arith, p)

-- no coupling is of a port that no component has
pub places_of_no_port : (c port : ℕ) (ks : List Coupling) → 15 < port → All (λ k. k.1 < 16) ks → destinations c port ks ≡ []
places_of_no_port c port [] high ports = refl
places_of_no_port c port (k ∷ ks) high ports =
    places_other c port k ks (other_port c port k high (ports 0 k (omega arith))) ∙ places_of_no_port c port ks high (rest_ports k ks ports)
