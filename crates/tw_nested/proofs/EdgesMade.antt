-- The couplings of ports that models make: exactly these, each upwards.
use Rattle.std.proofs.Common.{◌≡◌, ℕ, ◌<◌, ◌≤◌, ◌+◌, ◌*◌, List, [], ◌∷◌, ◌++◌, length, map, refl, sym, ap, ◌∙◌, arith, subst, slice_index, slice_index_or, ◌⊎◌, inl, inr, zero, suc, false, drop}
use Rattle.std.specs.List.{All, Contains}
use Rattle.std.specs.List.Sorted.{IsPermutation, IsSorted}
use Rattle.std.specs.Ordering.{nat_cmp, ordering_then, is_lt}
use Rattle.std.proofs.lemmas.Bool.Decides.{nat_tests}
use Rattle.std.proofs.lemmas.List.{get_or-map, length-map, get_or_default, append-nil}
use Rattle.std.proofs.lemmas.List.Elements.{All-contains, Contains-append_left, Contains-append_right, Contains-append_cases}
use Rattle.std.proofs.lemmas.List.Sorted.{Contains-permutation, IsPermutation-sym, IsNonDecreasingBy-from_all_adjacent}
use Rattle.tw_nested.specs.declared.tree.End.TheVariants.{Here, Part}
use Rattle.tw_nested.specs.Tree.{Model, Link}
use Rattle.tw_nested.specs.Reach.{Edge}
use Rattle.tw_nested.specs.Paths.{edge_of, IsEdge, IsModel, IsLink}
use Rattle.tw_nested.specs.Edges.{AreEdges, edges_in, edge_cmp}

pub Contains-map : {A B : Type 0} (f : A → B) (xs : List A) (x : A) → Contains xs x → Contains (map f xs) (f x)
Contains-map f xs x at = (at.0, let l = at.1 in omega (arith, l, length-map xs f), get_or-map f xs at.0 x (f x) at.1 ∙ ap f at.2)

-- what is in a mapped list comes of something in it
pub record Source {A B : Type 0} (f : A → B) (xs : List A) (y : B) : Type 0 where
  pub of : A
  pub within : Contains xs of
  pub is : f of ≡ y

pub Contains-map_source : {A B : Type 0} (f : A → B) (xs : List A) (y : B) → Contains (map f xs) y → Source f xs y
Contains-map_source f [] y at = let l = at.1 in absurd (omega (arith, l))
Contains-map_source f (x ∷ xs) y (zero, l, is) = record { of = x; within = (0, omega arith, refl); is = is }
Contains-map_source f (x ∷ xs) y (suc i, l, is) =
    let s = Contains-map_source f xs y (i, omega (arith, l), is) in
    record { of = s.of; within = (suc s.within.0, (let w = s.within.1 in omega (arith, w)), s.within.2); is = s.is }

Contains-cons : {A : Type 0} (x : A) (xs : List A) (y : A) → Contains xs y → Contains (x ∷ xs) y
Contains-cons x xs y at = (suc at.0, (let w = at.1 in omega (arith, w)), at.2)

-- what is in a list is the first, or is in the rest
pub Contains-cons_cases : {A : Type 0} (x : A) (xs : List A) (y : A) → Contains (x ∷ xs) y → (x ≡ y) ⊎ Contains xs y
Contains-cons_cases x xs y (zero, l, is) = inl is
Contains-cons_cases x xs y (suc i, l, is) = inr (i, omega (arith, l), is)

made_in : (count : ℕ) (models : List Model) (m : Model) (k : Link) → Contains models m → Contains m.links k → Contains (edges_in count models) (edge_of count m k)
made_in count [] m k among at = let l = among.1 in absurd (omega (arith, l))
made_in count (n ∷ ns) m k among at = go (λ later. made_in count ns m k later at) (Contains-cons_cases n ns m among)
  where
    go : (Contains ns m → Contains (edges_in count ns) (edge_of count m k)) → (n ≡ m) ⊎ Contains ns m → Contains (edges_in count (n ∷ ns)) (edge_of count m k)
    go rest (inl is) = subst (λ (n : Model). Contains (map (edge_of count n) n.links ++ edges_in count ns) (edge_of count m k)) (sym is) (Contains-append_left (map (edge_of count m) m.links) (edges_in count ns) (edge_of count m k) (Contains-map (edge_of count m) m.links k at))
    go rest (inr later) = Contains-append_right (map (edge_of count n) n.links) (edges_in count ns) (edge_of count m k) (rest later)

known_in : (count : ℕ) (models : List Model) (e : Edge) → Contains (edges_in count models) e → IsEdge count models e
known_in count [] e at = let l = at.1 in absurd (omega (arith, l))
known_in count (n ∷ ns) e at = go (λ later. known_in count ns e later) (Contains-append_cases (map (edge_of count n) n.links) (edges_in count ns) e at)
  where
    go : (Contains (edges_in count ns) e → IsEdge count ns e) → Contains (map (edge_of count n) n.links) e ⊎ Contains (edges_in count ns) e → IsEdge count (n ∷ ns) e
    go rest (inl here) =
        let s = Contains-map_source (edge_of count n) n.links e here in
        record { model = n; among = (0, omega arith, refl); link = s.of; held = s.within; is = s.is }
    go rest (inr later) =
        let s = rest later in
        record { model = s.model; among = Contains-cons n ns s.model s.among; link = s.link; held = s.held; is = s.is }

-- a coupling of a model leads upwards, among the ports that there are
record LeadsUp (count : ℕ) (e : Edge) : Type 0 where
  from : e.0 < 32 * count
  to : e.1 < 32 * count
  up : e.0 < e.1

leads_up : (count : ℕ) (m : Model) (k : Link) → IsModel count m → IsLink m k → LeadsUp count (edge_of count m k)
leads_up count m (Part i, p, Here, q) sm sl =
    let a : slice_index m.parts i < count = sm.below i 0 sl.source in
    let b : m.number < slice_index m.parts i = sm.above i 0 sl.source in
    let c = sm.number in let d : p < 16 = sl.source_port in let e : q < 16 = sl.destination_port in
    record { from = omega (arith, a, d); to = omega (arith, c, e); up = omega (arith, a, b, c, d, e) }
leads_up count m (Part i, p, Part j, q) sm sl =
    let a : slice_index m.parts i < count = sm.below i 0 sl.source in
    let b : slice_index m.parts j < count = sm.below j 0 sl.destination in
    let d : p < 16 = sl.source_port in let e : q < 16 = sl.destination_port in
    record { from = omega (arith, a, d); to = omega (arith, b, e); up = omega (arith, a, b, d, e) }
leads_up count m (Here, p, Part j, q) sm sl =
    let a : slice_index m.parts j < count = sm.below j 0 sl.destination in
    let b : m.number < slice_index m.parts j = sm.above j 0 sl.destination in
    let c = sm.number in let d : p < 16 = sl.source_port in let e : q < 16 = sl.destination_port in
    record { from = omega (arith, c, d); to = omega (arith, a, e); up = omega (arith, a, b, c, d, e) }
leads_up count m (Here, p, Here, q) sm sl = absurd sl.apart

edge_up : (count : ℕ) (models : List Model) (e : Edge) → All (IsModel count) models → IsEdge count models e → LeadsUp count e
edge_up count models e sound k =
    let m = All-contains (IsModel count) models k.model sound k.among in
    let l = All-contains (IsLink k.model) k.model.links k.link m.links k.held in
    subst (LeadsUp count) k.is (leads_up count k.model k.link m l)

first_rises : (a b : Edge) → is_lt (ordering_then (nat_cmp b.0 a.0) (nat_cmp b.1 a.1)) ≡ false → a.0 ≤ b.0
first_rises a b e = grind (arith, nat_tests)

pub are_edges : (count : ℕ) (models : List Model) (sorted : List Edge) → All (IsModel count) models → IsPermutation (edges_in count models) sorted → IsSorted edge_cmp sorted → AreEdges count models sorted
are_edges count models sorted sound same up = record {
  made = λ e k. Contains-permutation (edges_in count models) sorted e same (subst (Contains (edges_in count models)) k.is (made_in count models k.model k.link k.among k.held));
  known = known;
  within = λ i d lt. (let l = here i d lt in record { from = l.from; to = l.to });
  rises = record {
    up = λ i d lt. (here i d lt).up;
    in_order = λ i j d lt within. IsNonDecreasingBy-from_all_adjacent (λ (e : Edge). e.0) sorted (λ i d lt. first_rises (slice_index_or sorted i d) (slice_index_or sorted (i + 1) d) (up i d (omega arith) lt)) i j d (omega (arith, lt)) within;
  };
}
  where
    known : (e : Edge) → Contains sorted e → IsEdge count models e
    known e at = known_in count models e (Contains-permutation sorted (edges_in count models) e (IsPermutation-sym (edges_in count models) sorted same) at)

    here : (i : ℕ) (d : Edge) → i < length sorted → LeadsUp count (slice_index_or sorted i d)
    here i d lt = edge_up count models (slice_index_or sorted i d) sound (known (slice_index_or sorted i d) (i, lt, get_or_default sorted i (slice_index_or sorted i d) d lt))

-- what holds of all of a mapped list holds at what one of its things is mapped to
pub at_mapped : {A B : Type 0} (P : B → Type 0) (f : A → B) (xs : List A) (i : ℕ) (x : A) → All P (map f xs) → i < length xs → x ≡ slice_index_or xs i x → P (f x)
at_mapped P f xs i x all lt is =
    subst P (get_or-map f xs i x (f x) lt ∙ ap f (sym is)) (all i (f x) (omega (arith, lt, length-map xs f)))

-- past the last model nothing is still to come
pub all_in : {A : Type 0} (count : ℕ) (f : A → Model) (xs : List A) (i : ℕ) (es all : List Edge) → length xs ≤ i → all ≡ es ++ edges_in count (map f (drop i xs)) → all ≡ es
all_in count f [] i es all le e = e ∙ ap (λ (r : List _). es ++ edges_in count (map f r)) (drop_none i) ∙ append-nil es
  where
    drop_none : {A : Type 0} (i : ℕ) → drop {A = A} i [] ≡ []
    drop_none zero = refl
    drop_none (suc i) = refl
all_in count f (x ∷ xs) zero es all le e = absurd (omega (arith, le))
all_in count f (x ∷ xs) (suc i) es all le e = all_in count f xs i es all (omega (arith, le)) e
