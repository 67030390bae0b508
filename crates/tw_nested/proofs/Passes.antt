-- One pass along couplings that rise finds all that is reached.
use Rattle.std.proofs.Common.{◌≡◌, ◌≢◌, ℕ, ◌<◌, ◌≤◌, ◌+◌, Bool, true, false, List, length, sym, ap, ◌∙◌, arith, subst, slice_index_or, slice_set, ◌⊎◌, inl, inr, true≢false, replicate}
use Rattle.std.specs.List.{Contains}
use Rattle.std.proofs.lemmas.List.{get_or-set_same, get_or-set_other, get_or_default, length-replicate, get_or-replicate}
use Rattle.std.proofs.lemmas.Bool.{cases_eq, cases_lt}
use Rattle.std.proofs.Math.ListN.{get_or-eq_default}
use Rattle.tw_nested.specs.Reach.{Edge, Reaches, start, further, Rises}

-- port v is seen
abbrev pub Seen : List Bool → ℕ → Type 0
Seen seen v = slice_index_or seen v false ≡ true

-- the first i couplings lead from what is seen to what is seen
abbrev pub Closed : List Edge → List Bool → ℕ → Type 0
Closed edges seen i = (j : ℕ) (d : Edge) → j < i → Seen seen (slice_index_or edges j d).0 → Seen seen (slice_index_or edges j d).1

pub record IsPass (edges : List Edge) (from : ℕ) (seen : List Bool) (i : ℕ) : Type 0 where
  pub sound : (v : ℕ) → Seen seen v → Reaches edges from v
  pub first : Seen seen from
  pub closed : Closed edges seen i

-- what is seen stays so
kept : (seen : List Bool) (w v : ℕ) → w < length seen → Seen seen v → Seen (slice_set seen w true) v
kept seen w v lt at = go (cases_eq v w)
  where
    go : (v ≡ w) ⊎ (v ≢ w) → Seen (slice_set seen w true) v
    go (inl e) = rw e (get_or-set_same seen w true false lt)
    go (inr n) = get_or-set_other seen w v true false n ∙ at

now_seen : (seen : List Bool) (w : ℕ) → w < length seen → Seen (slice_set seen w true) w
now_seen seen w lt = get_or-set_same seen w true false lt

-- what is seen after a write was seen before, or is what was written
older : (seen : List Bool) (w v : ℕ) → Seen (slice_set seen w true) v → (v ≡ w) ⊎ Seen seen v
older seen w v at = go (cases_eq v w)
  where
    go : (v ≡ w) ⊎ (v ≢ w) → (v ≡ w) ⊎ Seen seen v
    go (inl e) = inl e
    go (inr n) = inr (sym (get_or-set_other seen w v true false n) ∙ at)

same_at : (edges : List Edge) (i : ℕ) (d e : Edge) → i < length edges → slice_index_or edges i d ≡ slice_index_or edges i e
same_at edges i d e lt = get_or_default edges i d e lt

-- the i-th coupling leads from what is not seen
pub closed_at_unseen : (edges : List Edge) (from : ℕ) (seen : List Bool) (i : ℕ) (e : Edge) → i < length edges → slice_index_or seen (slice_index_or edges i e).0 false ≡ false → IsPass edges from seen i → IsPass edges from seen (i + 1)
closed_at_unseen edges from seen i e lt not p = record { sound = p.sound; first = p.first; closed = closed }
  where
    closed : Closed edges seen (i + 1)
    closed j d below at = go (cases_eq j i)
      where
        go : (j ≡ i) ⊎ (j ≢ i) → Seen seen (slice_index_or edges j d).1
        go (inl is) =
            let one : slice_index_or edges j d ≡ slice_index_or edges i e = ap (λ k. slice_index_or edges k d) is ∙ same_at edges i d e lt in
            absurd (true≢false (sym at ∙ ap (λ (f : Edge). slice_index_or seen f.0 false) one ∙ not))
        go (inr n) = p.closed j d (omega (arith, below, n)) at

-- the i-th coupling leads from what is seen
pub closed_at_seen : (edges : List Edge) (from : ℕ) (seen : List Bool) (i : ℕ) (e : Edge) → Rises edges → i < length edges → (slice_index_or edges i e).1 < length seen → Seen seen (slice_index_or edges i e).0 → IsPass edges from seen i → IsPass edges from (slice_set seen (slice_index_or edges i e).1 true) (i + 1)
closed_at_seen edges from seen i e rises lt within at p = record {
  sound = sound;
  first = kept seen there from within p.first;
  closed = closed;
}
  where
    here : ℕ
    here = (slice_index_or edges i e).0

    there : ℕ
    there = (slice_index_or edges i e).1

    held : Contains edges (slice_index_or edges i e)
    held = (i, lt, same_at edges i (slice_index_or edges i e) e lt)

    sound : (v : ℕ) → Seen (slice_set seen there true) v → Reaches edges from v
    sound v now = go (older seen there v now)
      where
        go : (v ≡ there) ⊎ Seen seen v → Reaches edges from v
        go (inl is) = subst (λ w. Reaches edges from w) (sym is) (further here there (p.sound here at) held)
        go (inr before) = p.sound v before

    closed : Closed edges (slice_set seen there true) (i + 1)
    closed j d below now = go (cases_eq j i)
      where
        f : Edge
        f = slice_index_or edges j d

        go : (j ≡ i) ⊎ (j ≢ i) → Seen (slice_set seen there true) f.1
        go (inl is) =
            let one : slice_index_or edges j d ≡ slice_index_or edges i e = ap (λ k. slice_index_or edges k d) is ∙ same_at edges i d e lt in
            subst (λ (g : Edge). Seen (slice_set seen there true) g.1) (sym one) (now_seen seen there within)
        go (inr n) =
            let earlier : j < i = omega (arith, below, n) in
            let order : f.0 ≤ (slice_index_or edges i d).0 = rises.in_order j i d earlier lt in
            let up : (slice_index_or edges i d).0 < (slice_index_or edges i d).1 = rises.up i d lt in
            let same : (slice_index_or edges i d).1 ≡ there = ap (λ (g : Edge). g.1) (same_at edges i d e lt) in
            go_on (older seen there f.0 now) (omega (arith, order, up, same))
          where
            go_on : (f.0 ≡ there) ⊎ Seen seen f.0 → f.0 < there → Seen (slice_set seen there true) f.1
            go_on (inl is) less = absurd (omega (arith, is, less))
            go_on (inr before) less = kept seen there f.1 within (p.closed j d (omega (arith, below, n)) before)

-- what is reached is seen
pub all_seen : (edges : List Edge) (from : ℕ) (seen : List Bool) → Seen seen from → Closed edges seen (length edges) → (v : ℕ) → Reaches edges from v → Seen seen v
all_seen edges from seen first closed v start = first
all_seen edges from seen first closed v (further b c r k) =
    let before : Seen seen b = all_seen edges from seen first closed b r in
    let is : slice_index_or edges k.0 (b, c) ≡ (b, c) = k.2 in
    subst (λ (g : Edge). Seen seen g.1) is (closed k.0 (b, c) k.1 (subst (λ (g : Edge). Seen seen g.0) (sym is) before))

-- before the first coupling, where the port itself is seen
pub first_pass : (edges : List Edge) (count from : ℕ) → from < count → IsPass edges from (slice_set (replicate count false) from true) 0
first_pass edges count from lt = record { sound = sound; first = now_seen (replicate count false) from (omega (arith, lt, length-replicate count false)); closed = λ j d below. absurd (omega (arith, below)) }
  where
    never : (v : ℕ) → (v < count) ⊎ (count ≤ v) → Seen (replicate count false) v → ⊥
    never v (inl lt) at = true≢false (sym at ∙ get_or-replicate count v false false lt)
    never v (inr le) at = true≢false (sym at ∙ get_or-eq_default (replicate count false) false (omega (arith, le, length-replicate count false)))

    sound : (v : ℕ) → Seen (slice_set (replicate count false) from true) v → Reaches edges from v
    sound v now = go (older (replicate count false) from v now)
      where
        go : (v ≡ from) ⊎ Seen (replicate count false) v → Reaches edges from v
        go (inl is) = subst (λ w. Reaches edges from w) (sym is) start
        go (inr before) = absurd (never v (cases_lt v count) before)

-- what a read of a port says of it
pub seen_by_read : (seen : List Bool) (v : ℕ) (b : Bool) → v < length seen → b ≡ slice_index_or seen v b → b ≡ true → Seen seen v
seen_by_read seen v b lt is at = get_or_default seen v false b lt ∙ sym is ∙ at

pub unseen_by_read : (seen : List Bool) (v : ℕ) (b : Bool) → v < length seen → b ≡ slice_index_or seen v b → b ≡ false → slice_index_or seen v false ≡ false
unseen_by_read seen v b lt is at = get_or_default seen v false b lt ∙ sym is ∙ at
