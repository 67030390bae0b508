-- Signed counts: of joined lists, of one item more, and their bound.
use Rattle.std.proofs.Common.{◌≡◌, ℕ, ℤ, pos, ◌+◌, ◌≤◌, ◌+ℤ◌, ◌-ℤ◌, Bool, true, false, List, [], ◌∷◌, ◌++◌, length, take, get_or, suc, ◌<◌, ◌≤ℤ◌, sym, ap, ◌∙◌, arith, if◌then◌else◌}
use Rattle.std.proofs.lemmas.Int.{ints}
use Rattle.std.proofs.lemmas.List.{length-take}
use Rattle.std.proofs.Math.Seq.{take-suc}
use Rattle.tw_msgs.specs.declared.message.Message.{Message}
use Rattle.tw_msgs.specs.declared.message.Item.{Item}
use Rattle.tw_msgs.specs.declared.message.Sign.{Sign}
use Rattle.tw_msgs.specs.declared.message.Sign.TheVariants.{Positive, Anti}
use Rattle.tw_msgs.specs.Messages.{same_message}
use Rattle.tw_msgs.specs.Counting.{total, when_positive, when_anti, one_at, signed_count}
use Rattle.tw_msgs.proofs.Totals.{total-append}

pub one_at-le : (m n : Message) → one_at m n ≤ 1
one_at-le m n = go (same_message m n)
  where
    go : (b : Bool) → (if b then 1 else 0) ≤ 1
    go true = omega arith
    go false = omega arith

-- an item counts at most once, and on one side
pub once : (m : Message) (i : Item) → when_positive (one_at m) i + when_anti (one_at m) i ≤ 1
once m i = go i.sign
  where
    go : (s : Sign) → (elim s [ Positive ↦ one_at m i.message | Anti ↦ 0 ]) + (elim s [ Positive ↦ 0 | Anti ↦ one_at m i.message ]) ≤ 1
    go Positive = let l = one_at-le m i.message in omega (arith, l)
    go Anti = let l = one_at-le m i.message in omega (arith, l)

pub both_sides-le-length : (m : Message) (xs : List Item) → total (when_positive (one_at m)) xs + total (when_anti (one_at m)) xs ≤ length xs
both_sides-le-length m [] = omega arith
both_sides-le-length m (x ∷ xs) = let ih = both_sides-le-length m xs in let l = once m x in omega (arith, ih, l)

pub signed_count-append : (m : Message) (xs ys : List Item) → signed_count m (xs ++ ys) ≡ signed_count m xs +ℤ signed_count m ys
signed_count-append m xs ys =
    let p = total-append (when_positive (one_at m)) xs ys in
    let a = total-append (when_anti (one_at m)) xs ys in
    omega (arith, ints, p, a)

-- what one item adds
abbrev pub share : Message → Item → ℤ
share m i = pos (when_positive (one_at m) i) -ℤ pos (when_anti (one_at m) i)

pub share-positive : (m : Message) (i : Item) → same_message m i.message ≡ true → i.sign ≡ Positive → share m i ≡ pos 1
share-positive m i same sign = go (same_message m i.message) i.sign same sign
  where
    go : (b : Bool) (s : Sign) → b ≡ true → s ≡ Positive → pos (elim s [ Positive ↦ (if b then 1 else 0) | Anti ↦ 0 ]) -ℤ pos (elim s [ Positive ↦ 0 | Anti ↦ (if b then 1 else 0) ]) ≡ pos 1
    go true Positive p q = omega (arith, ints)
    go true Anti p q = absurd cc
    go false s p q = absurd cc

pub share-anti : (m : Message) (i : Item) → same_message m i.message ≡ true → i.sign ≡ Anti → share m i ≡ pos 0 -ℤ pos 1
share-anti m i same sign = go (same_message m i.message) i.sign same sign
  where
    go : (b : Bool) (s : Sign) → b ≡ true → s ≡ Anti → pos (elim s [ Positive ↦ (if b then 1 else 0) | Anti ↦ 0 ]) -ℤ pos (elim s [ Positive ↦ 0 | Anti ↦ (if b then 1 else 0) ]) ≡ pos 0 -ℤ pos 1
    go true Positive p q = absurd cc
    go true Anti p q = omega (arith, ints)
    go false s p q = absurd cc

pub share-other : (m : Message) (i : Item) → same_message m i.message ≡ false → share m i ≡ pos 0
share-other m i other = go (same_message m i.message) i.sign other
  where
    go : (b : Bool) (s : Sign) → b ≡ false → pos (elim s [ Positive ↦ (if b then 1 else 0) | Anti ↦ 0 ]) -ℤ pos (elim s [ Positive ↦ 0 | Anti ↦ (if b then 1 else 0) ]) ≡ pos 0
    go true s p = absurd cc
    go false Positive p = omega (arith, ints)
    go false Anti p = omega (arith, ints)

-- the count of one item more
pub signed_count_more : (m : Message) (xs : List Item) (k : ℕ) (i : Item) → k < length xs → i ≡ get_or xs k i → signed_count m (take (k + 1) xs) ≡ signed_count m (take k xs) +ℤ share m i
signed_count_more m xs k i low at =
    ap (signed_count m) longer ∙ signed_count-append m (take k xs) (i ∷ []) ∙ ap (λ z. signed_count m (take k xs) +ℤ z) one
  where
    next : k + 1 ≡ suc k
    next = omega arith

    longer : take (k + 1) xs ≡ take k xs ++ (i ∷ [])
    longer = ap (λ n. take n xs) next ∙ take-suc xs k i low ∙ ap (λ y. take k xs ++ (y ∷ [])) (sym at)

    one : signed_count m (i ∷ []) ≡ share m i
    one = omega (arith, ints)

-- the count of the first items is no further from 0 than they are many
pub signed_count_within : (m : Message) (xs : List Item) (k : ℕ) → ((pos 0 -ℤ pos k) ≤ℤ signed_count m (take k xs)) × (signed_count m (take k xs) ≤ℤ pos k)
signed_count_within m xs k =
    let l = both_sides-le-length m (take k xs) in
    let few = length-take k xs in
    (omega (arith, ints, l, few), omega (arith, ints, l, few))
