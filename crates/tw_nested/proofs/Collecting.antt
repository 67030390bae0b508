-- Collecting flat couplings by source and then destination.
use Rattle.std.proofs.Common.{◌≡◌, ◌≢◌, ℕ, ◌<◌, ◌≤◌, ◌+◌, ◌*◌, ◌/◌, ◌%◌, List, [], ◌∷◌, ◌++◌, length, refl, ap, sym, ◌∙◌, arith, subst, slice_index, slice_index_or, ◌⊎◌, inl, inr, length-append, Bool, true, false, ◌↔◌, true≢false}
use Rattle.std.specs.List.{All, Contains}
use Rattle.std.proofs.lemmas.List.Elements.{All-push, Contains-push, Contains-append_left}
use Rattle.std.proofs.lemmas.List.Quantifiers.{all_pairs_push}
use Rattle.std.proofs.lemmas.Bool.{cases_lt}
use Rattle.tw_nested.specs.Reach.{Edge, Reaches, start, further}
use Rattle.tw_nested.specs.Flat.{Coupling, IsFlat, IsFlatSet, IsTooMany, IsCollected, Before, in_of, out_of}

abbrev pub at_ports : ℕ → ℕ → Coupling
at_ports from to = (from / 16, from % 16, to / 16, to % 16)

module _ (count : ℕ) (edges : List Edge) (atoms : List ℕ) where
  pub nothing_yet : IsCollected count edges atoms [] 0 0
  nothing_yet = record {
    sound = λ i d lt. absurd (omega (arith, lt));
    whole = λ k flat b. absurd (before_none k b);
    before = λ i d lt. absurd (omega (arith, lt));
    once = λ i j d lt within. absurd (omega (arith, within));
    few = omega arith;
  }
    where
      before_none : (k : Coupling) → Before 0 0 k → ⊥
      before_none k (inl b) = omega (arith, b)
      before_none k (inr b) = let low = b.1 in omega (arith, low)

  later : (from to : ℕ) (k : Coupling) → Before from to k → Before from (to + 1) k
  later from to k (inl b) = inl b
  later from to k (inr b) = let e = b.0 in let low = b.1 in inr (e, omega (arith, low))

  -- what comes before the next pair of ports comes before this one, or is this one
  last : (from to : ℕ) (k : Coupling) → k.1 < 16 → k.3 < 16 → Before from (to + 1) k → Before from to k ⊎ (k ≡ at_ports from to)
  last from to k p q (inl b) = inl (inl b)
  last from to k p q (inr b) = go (cases_lt (16 * k.2 + k.3) to)
    where
      from_is : 16 * k.0 + k.1 ≡ from
      from_is = b.0

      low : 16 * k.2 + k.3 < to + 1
      low = b.1

      go : (16 * k.2 + k.3 < to) ⊎ (to ≤ 16 * k.2 + k.3) → Before from to k ⊎ (k ≡ at_ports from to)
      go (inl lt) = inl (inr (from_is, lt))
      go (inr le) =
          let a : k.0 ≡ from / 16 = omega (arith, from_is, p) in
          let b : k.1 ≡ from % 16 = omega (arith, from_is, p) in
          let c : k.2 ≡ to / 16 = omega (arith, le, low, q) in
          let d : k.3 ≡ to % 16 = omega (arith, le, low, q) in
          inr (λ i. (a i, b i, c i, d i))

  pub next_row : (flat : List Coupling) (from to : ℕ) → 16 * length atoms ≤ to → IsCollected count edges atoms flat from to → IsCollected count edges atoms flat (from + 1) 0
  next_row flat from to all c = record {
    sound = c.sound;
    whole = λ k f b. c.whole k f (whole k f b);
    before = λ i d lt. on (slice_index_or flat i d) (c.before i d lt);
    once = c.once;
    few = c.few;
  }
    where
      whole : (k : Coupling) → IsFlat count edges atoms k → Before (from + 1) 0 k → Before from to k
      whole k f (inr b) = let low = b.1 in absurd (omega (arith, low))
      whole k f (inl b) = go (cases_lt (16 * k.0 + k.1) from)
        where
          go : (16 * k.0 + k.1 < from) ⊎ (from ≤ 16 * k.0 + k.1) → Before from to k
          go (inl lt) = inl lt
          go (inr le) = let d = f.destination in let q = f.destination_port in inr (omega (arith, le, b), omega (arith, d, q, all))

      on : (k : Coupling) → Before from to k → Before (from + 1) 0 k
      on k (inl b) = inl (omega (arith, b))
      on k (inr b) = let e = b.0 in inl (omega (arith, e))

  -- what is reached is the port itself, or a coupling leads from it
  leads_from : (a v : ℕ) → Reaches edges a v → (v ≡ a) ⊎ ((c : ℕ) × Contains edges (a, c))
  leads_from a _ start = inl refl
  leads_from a _ (further b c way at) = go (leads_from a b way)
    where
      go : (b ≡ a) ⊎ ((c : ℕ) × Contains edges (a, c)) → (c ≡ a) ⊎ ((c : ℕ) × Contains edges (a, c))
      go (inl is) = inr (c, subst (λ x. Contains edges (x, c)) is at)
      go (inr other) = inr other

  -- from a port from which no coupling leads
  pub no_row : (flat : List Coupling) (from : ℕ) → ((c : ℕ) → Contains edges (out_of count (slice_index atoms (from / 16)) (from % 16), c) → ⊥) → All (λ n. n < count) atoms → IsCollected count edges atoms flat from 0 → IsCollected count edges atoms flat (from + 1) 0
  no_row flat from none known c = record {
    sound = c.sound;
    whole = λ k f b. c.whole k f (whole k f b);
    before = λ i d lt. on (slice_index_or flat i d) (c.before i d lt);
    once = c.once;
    few = c.few;
  }
    where
      never : (k : Coupling) → IsFlat count edges atoms k → 16 * k.0 + k.1 ≡ from → ⊥
      never k f is =
          let p = f.source_port in
          let a : k.0 ≡ from / 16 = omega (arith, is, p) in
          let b : k.1 ≡ from % 16 = omega (arith, is, p) in
          go (subst (λ x. Reaches edges x (in_of count (slice_index atoms k.2) k.3)) (λ i. out_of count (slice_index atoms (a i)) (b i)) f.reached)
        where
          go : Reaches edges (out_of count (slice_index atoms (from / 16)) (from % 16)) (in_of count (slice_index atoms k.2) k.3) → ⊥
          go way = cases (leads_from _ _ way)
            where
              low : slice_index atoms k.0 < count
              low = known k.0 0 f.source

              cases : (in_of count (slice_index atoms k.2) k.3 ≡ out_of count (slice_index atoms (from / 16)) (from % 16)) ⊎ ((c : ℕ) × Contains edges (out_of count (slice_index atoms (from / 16)) (from % 16), c)) → ⊥
              cases (inl same) =
                  let p = f.source_port in
                  let e : from / 16 ≡ k.0 = omega (arith, is, p) in
                  let m : slice_index atoms (from / 16) ≡ slice_index atoms k.0 = ap (slice_index atoms) e in
                  let l = low in
                  omega (arith, same, m, l)
              cases (inr one) = none one.0 one.1

      whole : (k : Coupling) → IsFlat count edges atoms k → Before (from + 1) 0 k → Before from 0 k
      whole k f (inr b) = let low = b.1 in absurd (omega (arith, low))
      whole k f (inl b) = go (cases_lt (16 * k.0 + k.1) from)
        where
          go : (16 * k.0 + k.1 < from) ⊎ (from ≤ 16 * k.0 + k.1) → Before from 0 k
          go (inl lt) = inl lt
          go (inr le) = absurd (never k f (omega (arith, le, b)))

      on : (k : Coupling) → Before from 0 k → Before (from + 1) 0 k
      on k (inl b) = inl (omega (arith, b))
      on k (inr b) = let e = b.0 in inl (omega (arith, e))

  pub not_reached : (flat : List Coupling) (from to : ℕ) → (IsFlat count edges atoms (at_ports from to) → ⊥) → IsCollected count edges atoms flat from to → IsCollected count edges atoms flat from (to + 1)
  not_reached flat from to never c = record {
    sound = c.sound;
    whole = λ k f b. whole k f (last from to k f.source_port f.destination_port b);
    before = λ i d lt. later from to (slice_index_or flat i d) (c.before i d lt);
    once = c.once;
    few = c.few;
  }
    where
      whole : (k : Coupling) → IsFlat count edges atoms k → Before from to k ⊎ (k ≡ at_ports from to) → Contains flat k
      whole k f (inl b) = c.whole k f b
      whole k f (inr is) = absurd (never (subst (IsFlat count edges atoms) is f))

  here_not_before : (from to : ℕ) → Before from to (at_ports from to) → ⊥
  here_not_before from to (inl b) = omega (arith, b)
  here_not_before from to (inr b) = let low = b.1 in omega (arith, low)

  apart : (flat : List Coupling) (from to : ℕ) → IsCollected count edges atoms flat from to → (i : ℕ) (d : Coupling) → i < length flat → slice_index_or flat i d ≢ at_ports from to
  apart flat from to c i d lt same = here_not_before from to (subst (Before from to) same (c.before i d lt))

  pub now_reached : (flat : List Coupling) (from to : ℕ) → length flat < 8192 → IsFlat count edges atoms (at_ports from to) → IsCollected count edges atoms flat from to → IsCollected count edges atoms (flat ++ at_ports from to ∷ []) from (to + 1)
  now_reached flat from to room f c = record {
    sound = All-push (IsFlat count edges atoms) flat (at_ports from to) c.sound f;
    whole = λ k g b. whole k g (last from to k g.source_port g.destination_port b);
    before = All-push (Before from (to + 1)) flat (at_ports from to) (λ i d lt. later from to (slice_index_or flat i d) (c.before i d lt)) here;
    once = all_pairs_push (λ a b. a ≢ b) flat (at_ports from to) c.once (apart flat from to c);
    few = let n = length-append flat (at_ports from to ∷ []) in omega (arith, n, room);
  }
    where
      here : Before from (to + 1) (at_ports from to)
      here = inr (omega arith, omega arith)

      whole : (k : Coupling) → IsFlat count edges atoms k → Before from to k ⊎ (k ≡ at_ports from to) → Contains (flat ++ at_ports from to ∷ []) k
      whole k g (inl b) = Contains-append_left flat (at_ports from to ∷ []) k (c.whole k g b)
      whole k g (inr is) = subst (Contains (flat ++ at_ports from to ∷ [])) (sym is) (Contains-push flat (at_ports from to))

  pub too_many : (flat : List Coupling) (from to : ℕ) → 8192 ≤ length flat → IsFlat count edges atoms (at_ports from to) → IsCollected count edges atoms flat from to → IsTooMany count edges atoms
  too_many flat from to full f c = record {
    some = flat ++ at_ports from to ∷ [];
    sound = All-push (IsFlat count edges atoms) flat (at_ports from to) c.sound f;
    once = all_pairs_push (λ a b. a ≢ b) flat (at_ports from to) c.once (apart flat from to c);
    many = let n = length-append flat (at_ports from to ∷ []) in omega (arith, n, full);
  }

  pub all_collected : (flat : List Coupling) (from : ℕ) → 16 * length atoms ≤ from → IsCollected count edges atoms flat from 0 → IsFlatSet count edges atoms flat
  all_collected flat from all c = record {
    sound = c.sound;
    whole = λ k f. c.whole k f (let s = f.source in let p = f.source_port in inl (omega (arith, s, p, all)));
    once = c.once;
    few = c.few;
  }

  module _ (seen : List Bool) (from to v : ℕ) (known : All (λ n. n < count) atoms) (source : from < 16 * length atoms) (destination : to < 16 * length atoms)
      (exact : (v : ℕ) → v < 32 * count → (slice_index_or seen v false ≡ true) ↔ Reaches edges (out_of count (slice_index atoms (from / 16)) (from % 16)) v)
      (is : v ≡ in_of count (slice_index atoms (to / 16)) (to % 16)) where
    within : v < 32 * count
    within =
        let a : slice_index atoms (to / 16) < count = known (to / 16) 0 (omega (arith, destination)) in
        omega (arith, a, is)

    pub flat_here : slice_index_or seen v false ≡ true → IsFlat count edges atoms (at_ports from to)
    flat_here at = record {
      source = omega (arith, source);
      source_port = omega arith;
      destination = omega (arith, destination);
      destination_port = omega arith;
      reached = subst (Reaches edges (out_of count (slice_index atoms (from / 16)) (from % 16))) is ((exact v within).0 at);
    }

    pub not_flat_here : slice_index_or seen v false ≡ false → IsFlat count edges atoms (at_ports from to) → ⊥
    not_flat_here at f = true≢false (sym ((exact v within).1 (subst (Reaches edges (out_of count (slice_index atoms (from / 16)) (from % 16))) (sym is) f.reached)) ∙ at)
