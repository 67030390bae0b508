-- Each part's number and those of all within it are a range of their own, so no path leads from an atom to itself.
use Rattle.std.proofs.Common.{◌≡◌, ◌≢◌, ℕ, ◌<◌, ◌≤◌, ◌+◌, List, [], ◌∷◌, length, sym, ◌∙◌, arith, subst, slice_index, slice_index_or, ◌⊎◌, inl, inr, zero, suc, nat_lt, if◌then◌else◌}
use Rattle.std.specs.List.{All, AllPairs, Contains}
use Rattle.std.proofs.lemmas.Bool.{cond-true, cond-false, cases_lt, lt-ltb, le-ltb}
use Rattle.std.proofs.lemmas.List.Elements.{All-append, All-contains, All-cons, All-nil}
use Rattle.tw_nested.specs.declared.tree.End.TheVariants.{Part}
use Rattle.tw_nested.specs.Tree.{Parts, Link, Model, no_parts, atom, coupled, size, numbers, atoms_from, coupled_from, model_at}
use Rattle.tw_nested.specs.Paths.{IsPart, IsLink, Outwards, at_once, leaving, Path, across, entering}
use Rattle.tw_nested.specs.Whole.{all_models}
use Rattle.tw_nested.proofs.Numbers.{numbers_between, atoms_between}

-- the number past those of part x and of all within it, where the first of these parts has number n
abbrev pub top : {M : Type 0} → ℕ → Parts M → ℕ → ℕ
top n no_parts x = x + 1
top n (atom name m rest) x = if nat_lt x (n + 1) then n + 1 else top (n + 1) rest x
top n (coupled name inner links rest) x = if nat_lt x (n + 1) then n + 1 + size inner else if nat_lt x (n + 1 + size inner) then top (n + 1) inner x else top (n + 1 + size inner) rest x

top_of_atom : {M : Type 0} (n : ℕ) (name : List ℕ) (m : M) (rest : Parts M) → top n (atom name m rest) n ≡ n + 1
top_of_atom n name m rest = cond-true _ _ _ (lt-ltb n (n + 1) (omega arith))

top_after_atom : {M : Type 0} (n : ℕ) (name : List ℕ) (m : M) (rest : Parts M) (x : ℕ) → n + 1 ≤ x → top n (atom name m rest) x ≡ top (n + 1) rest x
top_after_atom n name m rest x le = cond-false _ _ _ (le-ltb x (n + 1) le)

module _ {M : Type 0} (n : ℕ) (name : List ℕ) (inner : Parts M) (links : List Link) (rest : Parts M) where
  top_of_coupled : top n (coupled name inner links rest) n ≡ n + 1 + size inner
  top_of_coupled = cond-true _ _ _ (lt-ltb n (n + 1) (omega arith))

  top_within : (x : ℕ) → n + 1 ≤ x → x < n + 1 + size inner → top n (coupled name inner links rest) x ≡ top (n + 1) inner x
  top_within x le lt = cond-false _ _ _ (le-ltb x (n + 1) le) ∙ cond-true _ _ _ (lt-ltb x (n + 1 + size inner) lt)

  top_after : (x : ℕ) → n + 1 + size inner ≤ x → top n (coupled name inner links rest) x ≡ top (n + 1 + size inner) rest x
  top_after x le = cond-false _ _ _ (le-ltb x (n + 1) (omega (arith, le))) ∙ cond-false _ _ _ (le-ltb x (n + 1 + size inner) le)

-- ---- the parts of one model

-- each in its range, one range after another
pub record AreRanges (f : ℕ → ℕ) (xs : List ℕ) (high : ℕ) : Type 0 where
  some : All (λ c. c < f c) xs
  within : All (λ c. f c ≤ high) xs
  in_order : AllPairs (λ a b. f a ≤ b) xs

pairs_cons : (R : ℕ → ℕ → Type 0) (x : ℕ) (xs : List ℕ) → All (R x) xs → AllPairs R xs → AllPairs R (x ∷ xs)
pairs_cons R x xs all pairs zero zero d lt within = absurd (omega (arith, lt))
pairs_cons R x xs all pairs zero (suc j) d lt within = all j d (omega (arith, within))
pairs_cons R x xs all pairs (suc i) zero d lt within = absurd (omega (arith, lt))
pairs_cons R x xs all pairs (suc i) (suc j) d lt within = pairs i j d (omega (arith, lt)) (omega (arith, within))

-- the same by another function that agrees on them
same_ranges : (f g : ℕ → ℕ) (xs : List ℕ) (high : ℕ) → ((i : ℕ) (d : ℕ) → i < length xs → f (slice_index_or xs i d) ≡ g (slice_index_or xs i d)) → AreRanges f xs high → AreRanges g xs high
same_ranges f g xs high same r = record {
  some = λ i d lt. (let a = r.some i d lt in let e = same i d lt in omega (arith, a, e));
  within = λ i d lt. (let a = r.within i d lt in let e = same i d lt in omega (arith, a, e));
  in_order = λ i j d lt within. (let a = r.in_order i j d lt within in let e = same i d (omega (arith, lt, within)) in omega (arith, a, e));
}

first_range : (f : ℕ → ℕ) (n high low : ℕ) (xs : List ℕ) → n < f n → f n ≤ high → f n ≤ low → All (λ c. low ≤ c) xs → AreRanges f xs high → AreRanges f (n ∷ xs) high
first_range f n high low xs some within first all r = record {
  some = All-cons (λ c. c < f c) n xs some r.some;
  within = All-cons (λ c. f c ≤ high) n xs within r.within;
  in_order = pairs_cons (λ a b. f a ≤ b) n xs (λ i d lt. (let a = all i d lt in omega (arith, a, first))) r.in_order;
}

wider_ranges : (f : ℕ → ℕ) (xs : List ℕ) (high high' : ℕ) → high ≤ high' → AreRanges f xs high → AreRanges f xs high'
wider_ranges f xs high high' le r = record { some = r.some; within = λ i d lt. (let a = r.within i d lt in omega (arith, a, le)); in_order = r.in_order }

numbers_above : {M : Type 0} (n : ℕ) (parts : Parts M) → All (λ c. n ≤ c) (numbers n parts)
numbers_above n parts i d lt = (numbers_between n parts i d lt).0

ranges_of : {M : Type 0} (n : ℕ) (parts : Parts M) → AreRanges (top n parts) (numbers n parts) (n + size parts)
ranges_of n no_parts = record { some = All-nil (λ c. c < c + 1); within = All-nil (λ c. c + 1 ≤ n + 0); in_order = λ i j d lt within. absurd (omega (arith, within)) }
ranges_of n (atom name m rest) =
    let e = top_of_atom n name m rest in
    first_range (top n (atom name m rest)) n (n + suc (size rest)) (n + 1) (numbers (n + 1) rest) (omega (arith, e)) (omega (arith, e)) (omega (arith, e)) (numbers_above (n + 1) rest)
    (same_ranges (top (n + 1) rest) (top n (atom name m rest)) (numbers (n + 1) rest) (n + suc (size rest)) (λ i d lt. sym (top_after_atom n name m rest _ (numbers_above (n + 1) rest i d lt)))
    (wider_ranges (top (n + 1) rest) (numbers (n + 1) rest) (n + 1 + size rest) (n + suc (size rest)) (omega arith) (ranges_of (n + 1) rest)))
ranges_of n (coupled name inner links rest) =
    let e = top_of_coupled n name inner links rest in
    first_range (top n (coupled name inner links rest)) n (n + suc (size inner + size rest)) (n + 1 + size inner) (numbers (n + 1 + size inner) rest) (omega (arith, e)) (omega (arith, e)) (omega (arith, e)) (numbers_above (n + 1 + size inner) rest)
    (same_ranges (top (n + 1 + size inner) rest) (top n (coupled name inner links rest)) (numbers (n + 1 + size inner) rest) (n + suc (size inner + size rest)) (λ i d lt. sym (top_after n name inner links rest _ (numbers_above (n + 1 + size inner) rest i d lt)))
    (wider_ranges (top (n + 1 + size inner) rest) (numbers (n + 1 + size inner) rest) (n + 1 + size inner + size rest) (n + suc (size inner + size rest)) (omega arith) (ranges_of (n + 1 + size inner) rest)))

-- ---- the models of a tree

pub record IsRanged (low high : ℕ) (f : ℕ → ℕ) (m : Model) : Type 0 where
  number_low : low ≤ m.number
  number_high : m.number < high
  above : All (λ c. m.number < c) m.parts
  below : All (λ c. c < high) m.parts
  ranges : AreRanges f m.parts (f m.number)

-- the same within wider bounds, by another function that agrees within the narrower ones
same_ranged : (low high low' high' : ℕ) (f g : ℕ → ℕ) → low' ≤ low → high ≤ high' → ((x : ℕ) → low ≤ x → x < high → f x ≡ g x) → (m : Model) → IsRanged low high f m → IsRanged low' high' g m
same_ranged low high low' high' f g a b same m r = record {
  number_low = let l = r.number_low in omega (arith, a, l);
  number_high = let h = r.number_high in omega (arith, b, h);
  above = r.above;
  below = λ i d lt. (let h = r.below i d lt in omega (arith, b, h));
  ranges = subst (AreRanges g m.parts) (same m.number r.number_low r.number_high)
      (same_ranges f g m.parts (f m.number) (λ i d lt. same _ (let l = r.number_low in let u = r.above i d lt in omega (arith, l, u)) (r.below i d lt)) r.ranges);
}

All-weaker : (P Q : Model → Type 0) → ((m : Model) → P m → Q m) → (ms : List Model) → All P ms → All Q ms
All-weaker P Q f ms all i d lt = f (slice_index_or ms i d) (all i d lt)

all_ranged : {M : Type 0} (n : ℕ) (parts : Parts M) → All (IsRanged n (n + size parts) (top n parts)) (coupled_from n parts)
all_ranged n no_parts = All-nil (IsRanged n (n + 0) (λ x. x + 1))
all_ranged n (atom name m rest) =
    All-weaker (IsRanged (n + 1) (n + 1 + size rest) (top (n + 1) rest)) (IsRanged n (n + suc (size rest)) (top n (atom name m rest)))
    (same_ranged (n + 1) (n + 1 + size rest) n (n + suc (size rest)) (top (n + 1) rest) (top n (atom name m rest)) (omega arith) (omega arith) (λ x le lt. sym (top_after_atom n name m rest x le)))
    (coupled_from (n + 1) rest) (all_ranged (n + 1) rest)
all_ranged n (coupled name inner links rest) =
    let f = top n (coupled name inner links rest) in
    let high = n + suc (size inner + size rest) in
    let e = top_of_coupled n name inner links rest in
    All-append (IsRanged n high f) (coupled_from (n + 1) inner) (model_at n (n + 1) inner links ∷ coupled_from (n + 1 + size inner) rest)
    (All-weaker (IsRanged (n + 1) (n + 1 + size inner) (top (n + 1) inner)) (IsRanged n high f)
    (same_ranged (n + 1) (n + 1 + size inner) n high (top (n + 1) inner) f (omega arith) (omega arith) (λ x le lt. sym (top_within n name inner links rest x le lt)))
    (coupled_from (n + 1) inner) (all_ranged (n + 1) inner))
    (All-cons (IsRanged n high f) (model_at n (n + 1) inner links) (coupled_from (n + 1 + size inner) rest)
    (record {
      number_low = omega arith;
      number_high = omega arith;
      above = λ i d lt. (let p = numbers_above (n + 1) inner i d lt in omega (arith, p));
      below = λ i d lt. (let p = (numbers_between (n + 1) inner i d lt).1 in omega (arith, p));
      ranges = subst (AreRanges f (numbers (n + 1) inner)) (sym e)
          (same_ranges (top (n + 1) inner) f (numbers (n + 1) inner) (n + 1 + size inner) (λ i d lt. sym (top_within n name inner links rest _ (numbers_above (n + 1) inner i d lt) (numbers_between (n + 1) inner i d lt).1)) (ranges_of (n + 1) inner));
    })
    (All-weaker (IsRanged (n + 1 + size inner) (n + 1 + size inner + size rest) (top (n + 1 + size inner) rest)) (IsRanged n high f)
    (same_ranged (n + 1 + size inner) (n + 1 + size inner + size rest) n high (top (n + 1 + size inner) rest) f (omega arith) (omega arith) (λ x le lt. sym (top_after n name inner links rest x le)))
    (coupled_from (n + 1 + size inner) rest) (all_ranged (n + 1 + size inner) rest)))

-- ---- along a path

module _ (models : List Model) (low high : ℕ) (f : ℕ → ℕ) (ranged : All (IsRanged low high f) models) (linked : All (λ m. All (IsLink m) m.links) models) where
  -- x is n, or within it
  record Under (n x : ℕ) : Type 0 where
    from : n ≤ x
    to : x < f n
    top : f x ≤ f n

  -- a part of a model is within it
  part_under : (m : Model) (i c : ℕ) → Contains models m → IsPart m i c → Under m.number c
  part_under m i c among is =
      let r = All-contains (IsRanged low high f) models m ranged among in
      let e = is.1 in
      let a : m.number < slice_index m.parts i = r.above i 0 is.0 in
      let b : slice_index m.parts i < f (slice_index m.parts i) = r.ranges.some i 0 is.0 in
      let w : f (slice_index m.parts i) ≤ f m.number = r.ranges.within i 0 is.0 in
      subst (Under m.number) e (record { from = omega (arith, a); to = omega (arith, b, w); top = w })

  outwards_under : (c p n q : ℕ) → c < f c → Outwards models c p n q → Under n c
  outwards_under c p _ _ some at_once = record { from = omega arith; to = some; top = omega arith }
  outwards_under c p _ _ some (leaving d r n q way l) =
      let u = outwards_under c p d r some way in
      let v = subst (λ k. Under k d) l.around (part_under l.model l.place d l.among l.part) in
      let a = u.from in let b = u.top in let c' = u.to in let x = v.from in let y = v.top in
      record { from = omega (arith, a, x); to = omega (arith, c', y); top = omega (arith, b, y) }

  -- the two parts of a model between which a path crosses
  record Crossing (c d : ℕ) : Type 0 where
    source : ℕ
    destination : ℕ
    below : Under source c
    within : Under destination d
    apart : (f source ≤ destination) ⊎ (f destination ≤ source)

  crossing : (c p d q : ℕ) → c < f c → Path models c p d q → Crossing c d
  crossing c p _ _ some (across d r e s way k) =
      let m = All-contains (IsRanged low high f) models k.model ranged k.among in
      let l = All-contains (IsLink k.model) k.model.links (Part k.source, r, Part k.destination, s) (All-contains (λ m. All (IsLink m) m.links) models k.model linked k.among) k.link in
      let b : e < f e = subst (λ x. x < f x) k.destination_part.1 (m.ranges.some k.destination 0 k.destination_part.0) in
      let sp = k.source_part.1 in let dp = k.destination_part.1 in
      record {
        source = d;
        destination = e;
        below = outwards_under c p d r some way;
        within = record { from = omega arith; to = b; top = omega arith };
        apart = go m l.apart (cases_lt k.source k.destination);
      }
    where
      go : IsRanged low high f k.model → k.source ≢ k.destination → (k.source < k.destination) ⊎ (k.destination ≤ k.source) → (f d ≤ e) ⊎ (f e ≤ d)
      go m ne (inl lt) = inl (subst (λ x. f x ≤ e) k.source_part.1 (subst (λ x. f (slice_index k.model.parts k.source) ≤ x) k.destination_part.1 (m.ranges.in_order k.source k.destination 0 lt k.destination_part.0)))
      go m ne (inr le) = inr (subst (λ x. f x ≤ d) k.destination_part.1 (subst (λ x. f (slice_index k.model.parts k.destination) ≤ x) k.source_part.1 (m.ranges.in_order k.destination k.source 0 (omega (arith, le, ne)) k.source_part.0)))
  crossing c p _ _ some (entering n r e s way k) =
      let x = crossing c p n r some way in
      let v = subst (λ k. Under k e) k.entered (part_under k.model k.place e k.among k.part) in
      let w = x.within in
      let a = w.from in let b = w.top in let g = v.from in let h = v.to in let t = v.top in
      record {
        source = x.source;
        destination = x.destination;
        below = x.below;
        within = record { from = omega (arith, a, g); to = omega (arith, b, h); top = omega (arith, b, t) };
        apart = x.apart;
      }

  pub not_to_itself : (c p d q : ℕ) → c < f c → Path models c p d q → c ≢ d
  not_to_itself c p d q some path same =
      let x = crossing c p d q some path in
      let a = x.below.from in let b = x.below.to in let g = x.within.from in let h = x.within.to in
      go a b g h x.apart
    where
      go : {s t : ℕ} → s ≤ c → c < f s → t ≤ d → d < f t → (f s ≤ t) ⊎ (f t ≤ s) → ⊥
      go a b g h (inl le) = omega (arith, a, b, g, h, le, same)
      go a b g h (inr le) = omega (arith, a, b, g, h, le, same)

-- of a tree, whose root has number 0
pub models_ranged : {M : Type 0} (parts : Parts M) (links : List Link) → All (IsRanged 0 (0 + suc (size parts + 0)) (top 0 (coupled [] parts links no_parts))) (all_models parts links)
models_ranged parts links = all_ranged 0 (coupled [] parts links no_parts)

atoms_ranged : {M : Type 0} (n : ℕ) (parts : Parts M) → All (λ c. c < top n parts c) (atoms_from n parts)
atoms_ranged n no_parts = All-nil (λ c. c < c + 1)
atoms_ranged n (atom name m rest) =
    let e = top_of_atom n name m rest in
    All-cons (λ c. c < top n (atom name m rest) c) n (atoms_from (n + 1) rest) (omega (arith, e))
    (λ i d lt. (let a = atoms_ranged (n + 1) rest i d lt in let f = top_after_atom n name m rest _ (atoms_between (n + 1) rest i d lt).0 in omega (arith, a, f)))
atoms_ranged n (coupled name inner links rest) =
    All-append (λ c. c < top n (coupled name inner links rest) c) (atoms_from (n + 1) inner) (atoms_from (n + 1 + size inner) rest)
    (λ i d lt. (let b = atoms_between (n + 1) inner i d lt in let a = atoms_ranged (n + 1) inner i d lt in let f = top_within n name inner links rest _ b.0 b.1 in omega (arith, a, f)))
    (λ i d lt. (let b = atoms_between (n + 1 + size inner) rest i d lt in let a = atoms_ranged (n + 1 + size inner) rest i d lt in let f = top_after n name inner links rest _ b.0 in omega (arith, a, f)))

-- an atom's range is not empty, and it is in the tree's
pub atom_ranged : {M : Type 0} (parts : Parts M) (links : List Link) (x : ℕ) → x < length (atoms_from 1 parts) → slice_index (atoms_from 1 parts) x < top 0 (coupled [] parts links no_parts) (slice_index (atoms_from 1 parts) x)
atom_ranged parts links x lt =
    let b = atoms_between 1 parts x 0 lt in
    let a : slice_index (atoms_from 1 parts) x < top 1 parts (slice_index (atoms_from 1 parts) x) = atoms_ranged 1 parts x 0 lt in
    let f = top_within 0 [] parts links no_parts (slice_index (atoms_from 1 parts) x) b.0 b.1 in
    omega (arith, a, f)
