-- The order of couplings: by source, port, destination and port.
use Rattle.std.proofs.Common.{◌≡◌, ℕ, ◌+◌, ◌<◌, ◌≤◌, Bool, true, false, ◌&&◌, ◌||◌, ◌==◌, nat_lt, List, length, arith, slice_index_or}
use Rattle.std.specs.Cmp.{then_total, on_total, nat_cmp_total}
use Rattle.std.specs.Ordering.{is_lt, nat_cmp, ordering_then}
use Rattle.std.specs.List.{All}
use Rattle.std.specs.List.Sorted.{IsSorted, IsPartitionedBy, IsPartitionPoint, IsNonDecreasingBy}
use Rattle.std.proofs.lemmas.Bool.Decides.{nat_tests}
use Rattle.std.proofs.lemmas.List.Sorted.{IsNonDecreasingBy-from_all_adjacent}
use Rattle.tw_msgs.proofs.Orders.{nat_cmp-exact, then_parts}
use Rattle.tw_msgs.proofs.Sorting.{Ranks}
use Rattle.tw_network.specs.RouteIndex.{coupling_cmp, part_of, IsStart}
use Rattle.tw_theory.specs.Network.{Coupling}

pub couplings_rank : Ranks coupling_cmp
couplings_rank = record {
  total = then_total (then_total (then_total (on_total (λ k. k.0) nat_cmp_total) (on_total (λ k. k.1) nat_cmp_total)) (on_total (λ k. k.2) nat_cmp_total)) (on_total (λ k. k.3) nat_cmp_total);
  exact = λ j k e.
      let p = then_parts (ordering_then (ordering_then (nat_cmp j.0 k.0) (nat_cmp j.1 k.1)) (nat_cmp j.2 k.2)) (nat_cmp j.3 k.3) e in
      let q = then_parts (ordering_then (nat_cmp j.0 k.0) (nat_cmp j.1 k.1)) (nat_cmp j.2 k.2) p.0 in
      let r = then_parts (nat_cmp j.0 k.0) (nat_cmp j.1 k.1) q.0 in
      let w = nat_cmp-exact j.0 k.0 r.0 in
      let x = nat_cmp-exact j.1 k.1 r.1 in
      let y = nat_cmp-exact j.2 k.2 q.1 in
      let z = nat_cmp-exact j.3 k.3 p.1 in
      λ i. (w i, x i, y i, z i);
}

-- the number of a coupling's part
abbrev pub number_of : Coupling → ℕ
number_of k = part_of k.0 k.1

-- along the order the parts do not fall
pub parts_rise : (j k : Coupling) → j.1 < 16 → k.1 < 16 → is_lt (coupling_cmp k j) ≡ false → number_of j ≤ number_of k
parts_rise j k p q e = grind (arith, nat_tests)

-- whether a coupling's part comes before this port of this component
abbrev pub stands_before : ℕ → ℕ → Coupling → Bool
stands_before c port k = nat_lt k.0 c || (k.0 == c) && nat_lt k.1 port

pub before_by_number : (c port : ℕ) (k : Coupling) → port < 16 → k.1 < 16 → stands_before c port k ≡ true → number_of k < part_of c port
before_by_number c port k p q e = grind (arith, nat_tests)

pub number_before : (c port : ℕ) (k : Coupling) → port < 16 → k.1 < 16 → number_of k < part_of c port → stands_before c port k ≡ true
number_before c port k p q e = grind (arith, nat_tests)

pub after_by_number : (c port : ℕ) (k : Coupling) → port < 16 → k.1 < 16 → stands_before c port k ≡ false → part_of c port ≤ number_of k
after_by_number c port k p q e = grind (arith, nat_tests)

pub adjacent_rise : (ks : List Coupling) → All (λ k. k.1 < 16) ks → IsSorted coupling_cmp ks → IsNonDecreasingBy number_of ks
adjacent_rise ks ports up = IsNonDecreasingBy-from_all_adjacent number_of ks (λ i d lt. parts_rise (slice_index_or ks i d) (slice_index_or ks (i + 1) d) (ports i d (omega (arith, lt))) (ports (i + 1) d lt) (up i d (omega arith) lt))

-- what comes before a part stands before what does not
pub is_partitioned : (c port : ℕ) (ks : List Coupling) → port < 16 → All (λ k. k.1 < 16) ks → IsSorted coupling_cmp ks → IsPartitionedBy (stands_before c port) ks
is_partitioned c port ks p ports up i j d le lt e =
    let rise = adjacent_rise ks ports up i j d le lt in
    let low = before_by_number c port (slice_index_or ks j d) p (ports j d lt) e in
    number_before c port (slice_index_or ks i d) p (ports i d (omega (arith, le, lt))) (omega (arith, rise, low))

pub start_at : (c port : ℕ) (ks : List Coupling) (i : ℕ) → port < 16 → All (λ k. k.1 < 16) ks → i ≤ length ks → IsPartitionPoint (λ k. stands_before c port k ≡ true) (λ k. stands_before c port k ≡ false) ks i → IsStart ks (part_of c port) i
start_at c port ks i p ports le found = record {
  within = le;
  before = λ j d lt. before_by_number c port (slice_index_or ks j d) p (ports j d (omega (arith, lt, le))) (found.0 j d (omega arith) lt);
  after = λ j d low lt. after_by_number c port (slice_index_or ks j d) p (ports j d lt) (found.1 j d low lt);
}
