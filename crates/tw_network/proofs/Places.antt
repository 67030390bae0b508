-- The places of a component's port: no more than the couplings, and each of them a port of a component.
use Rattle.std.proofs.Common.{◌≡◌, ℕ, suc, ◌+◌, ◌≤◌, ◌==◌, ◌&&◌, List, [], ◌∷◌, length, map, Some, arith, ap, ◌∙◌, slice_get}
use Rattle.std.specs.List.{All, AllByRecursion as Each}
use Rattle.std.specs.Option.{option_map}
use Rattle.std.proofs.lemmas.Bool.{cond_both}
use Rattle.std.proofs.lemmas.Option.{get_or_from_slice_get, slice_get-map}
use Rattle.tw_atomic.specs.Atomic.{Meaning}
use Rattle.tw_network.specs.Contents.{Contents, IsCoupling, IsPlace, network_of}
use Rattle.tw_network.specs.RouteIndex.{place_of}
use Rattle.tw_theory.proofs.Routes.{each-insert_place}
use Rattle.tw_theory.specs.Network.{Coupling, Destination, destinations, insert_destination, destination_at_or_before, model_of}

-- ---- how many they are

insert-length : (x : Destination) (ps : List Destination) → length (insert_destination x ps) ≤ length ps + 1
insert-length x [] = omega arith
insert-length x (p ∷ ps) =
    cond_both (destination_at_or_before x p) (x ∷ p ∷ ps) (p ∷ insert_destination x ps) (λ l. length l ≤ length (p ∷ ps) + 1)
    (λ e. omega arith)
    (λ e. let ih = insert-length x ps in omega (arith, ih))

pub places_few : (c port : ℕ) (ks : List Coupling) → length (destinations c port ks) ≤ length ks
places_few c port [] = omega arith
places_few c port (k ∷ ks) =
    let ih = places_few c port ks in
    cond_both ((k.0 == c) && (k.1 == port)) (insert_destination (place_of k) (destinations c port ks)) (destinations c port ks) (λ l. length l ≤ length (k ∷ ks))
    (λ e. let one = insert-length (place_of k) (destinations c port ks) in omega (arith, ih, one))
    (λ e. omega (arith, ih))

-- ---- where they are

place_is : (count : ℕ) (k : Coupling) → IsCoupling count k → IsPlace count (place_of k)
place_is count k is = record { known = is.destination; port = is.destination_port }

pub places_are : (count c port : ℕ) (ks : List Coupling) → All (IsCoupling count) ks → Each (IsPlace count) (destinations c port ks)
places_are count c port [] all = tt
places_are count c port (k ∷ ks) all =
    let rest = places_are count c port ks (λ i d lt. all (suc i) d (omega (arith, lt))) in
    cond_both ((k.0 == c) && (k.1 == port)) (insert_destination (place_of k) (destinations c port ks)) (destinations c port ks) (Each (IsPlace count))
    (λ e. each-insert_place (IsPlace count) (place_of k) (destinations c port ks) (place_is count k (all 0 k (omega arith))) rest)
    (λ e. rest)

-- ---- the model of a component that is there

pub model_at : {M S : Type 0} (meaning : M → Meaning S) (n : Contents M) (c : ℕ) (m : M) (s : S) → slice_get n.models c ≡ Some m → model_of (network_of meaning n) c s ≡ meaning m
model_at meaning n c m s e = get_or_from_slice_get (map meaning n.models) c (meaning m) _ (slice_get-map meaning n.models c ∙ ap (option_map meaning) e)
