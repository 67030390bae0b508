-- Items that come and go, and what of the least stamp is known.
use Rattle.std.proofs.Common.{◌≡◌, ◌≢◌, ◌⊎◌, ℕ, zero, suc, ◌+◌, ◌-◌, ◌<◌, ◌≤◌, ◌==◌, min, List, [], ◌∷◌, ◌++◌, length, take, drop, Some, refl, sym, ap, ◌∙◌, arith, inl, inr, eq-eqb, subst, drop_of_length-le, drop-drop, rules, if◌then◌else◌}
use Rattle.std.specs.List.{copy_within}
use Rattle.std.specs.Prelude.{insert, remove, slice_get, slice_set, IsTrue}
use Rattle.std.proofs.lemmas.Bool.{cases_eq, ne_eqb}
use Rattle.std.proofs.lemmas.List.{take_more}
use Rattle.std.proofs.lemmas.Option.{get_or_from_slice_get, slice_get_within}
use Rattle.std.proofs.lemmas.List.Sums.{sum_by-cons}
use Rattle.tw_msgs.specs.declared.message.Item.{Item}
use Rattle.tw_mail.proofs.Boxes.{take_here}
use Rattle.tw_mail.specs.Mail.{count_at, IsLeastOf, IsWith}
use Rattle.tw_theory.specs.Bundles.{least_stamp}

-- how many items are of a stamp, one by one
count_more : (t : ℕ) (i : Item) (items : List Item) → count_at t (i ∷ items) ≡ (if i.message.stamp == t then 1 else 0) + count_at t items
count_more t i items = sum_by-cons (λ (x : Item). if x.message.stamp == t then 1 else 0) i items

swapped : (a b : ℕ) → a + b ≡ b + a
swapped a b = omega arith

moved : (a b c d : ℕ) → b ≡ c + d → a + b ≡ a + c + d
moved a b c d e = omega (arith, e)

-- an item of stamp s in front
pub with_first : (i : Item) (items : List Item) → IsWith i.message.stamp items (i ∷ items)
with_first i items = record { least = refl; count = λ t. count_more t i items ∙ swapped (if i.message.stamp == t then 1 else 0) (count_at t items) }

-- an item more in both
pub with_both : (s : ℕ) (i : Item) (items more : List Item) → IsWith s items more → IsWith s (i ∷ items) (i ∷ more)
with_both s i items more w = record {
  least = let e = w.least in omega (arith, e);
  count = λ t. count_more t i more ∙ moved (if i.message.stamp == t then 1 else 0) (count_at t more) (count_at t items) (if s == t then 1 else 0) (w.count t) ∙ ap (λ n. n + (if s == t then 1 else 0)) (sym (count_more t i items));
}

pub with_last : (i : Item) (items : List Item) → IsWith i.message.stamp items (items ++ i ∷ [])
with_last i [] = with_first i []
with_last i (x ∷ items) = with_both i.message.stamp x items (items ++ i ∷ []) (with_last i items)

pub with_inserted : (i : Item) (items : List Item) (place : ℕ) → place ≤ length items → IsWith i.message.stamp items (insert items place i)
with_inserted i items zero le = with_first i items
with_inserted i [] (suc place) le = absurd (omega (arith, le))
with_inserted i (x ∷ items) (suc place) le = with_both i.message.stamp x items (insert items place i) (with_inserted i items place (omega (arith, le)))

pub with_removed : (i : Item) (items : List Item) (place : ℕ) → slice_get items place ≡ Some i → IsWith i.message.stamp (remove items place) items
with_removed i [] place at = absurd (cc)
with_removed i (x ∷ items) zero at = let same : x ≡ i = cc in subst (λ (y : Item). IsWith y.message.stamp items (x ∷ items)) same (with_first x items)
with_removed i (x ∷ items) (suc place) at = with_both i.message.stamp x (remove items place) items (with_removed i items place at)

-- a stamp that an item has is not less than the least
pub counted_least : (s : ℕ) (items : List Item) → 0 < count_at s items → least_stamp items ≤ s
counted_least s [] some = absurd (omega (arith, some))
counted_least s (i ∷ items) some = go (cases_eq i.message.stamp s) (λ h. counted_least s items h)
  where
    go : (i.message.stamp ≡ s) ⊎ (i.message.stamp ≢ s) → (0 < count_at s items → least_stamp items ≤ s) → least_stamp (i ∷ items) ≤ s
    go (inl same) later = omega (arith, same)
    go (inr differs) later =
        let none : count_at s (i ∷ items) ≡ 0 + count_at s items = count_more s i items ∙ ap (λ b. (if b then 1 else 0) + count_at s items) (ne_eqb i.message.stamp s differs) in
        let rest = later (omega (arith, some, none)) in
        omega (arith, rest)

-- one item fewer, of the least stamp
pub least_fewer : (s n : ℕ) (items fewer : List Item) → IsWith s fewer items → 0 < n → IsLeastOf s n items → IsLeastOf s (n - 1) fewer
least_fewer s n items fewer w some is left =
    let was : (s ≡ least_stamp items) × (n ≤ count_at s items) = is some in
    let below : s ≡ least_stamp items = was.0 in
    let one : count_at s items ≡ count_at s fewer + 1 = w.count s ∙ ap (λ b. count_at s fewer + (if b then 1 else 0)) (eq-eqb s s refl) in
    let count : n - 1 ≤ count_at s fewer = omega (arith, one, was.1, some) in
    let least : least_stamp fewer ≤ s = counted_least s fewer (omega (arith, count, left)) in
    let is_min : s ≡ min s (least_stamp fewer) = below ∙ w.least in
    let same : s ≡ least_stamp fewer = omega (arith, least, is_min) in
    (same, count)

pub one_more : (items : List Item) (k : ℕ) (i : Item) → slice_get items k ≡ Some i → take (k + 1) items ≡ take k items ++ i ∷ []
one_more items k i at = take_more items k i (slice_get_within items k i at) ∙ ap (λ x. take k items ++ x ∷ []) (get_or_from_slice_get items k i i at)

-- ---- behind a front

pub drop_pushed : (f : ℕ) (items : List Item) (i : Item) → f ≤ length items → drop f (items ++ i ∷ []) ≡ drop f items ++ i ∷ []
drop_pushed zero items i le = refl
drop_pushed (suc f) [] i le = absurd (omega (arith, le))
drop_pushed (suc f) (x ∷ items) i le = drop_pushed f items i (omega (arith, le))

-- an item put in front again
pub drop_set : (f : ℕ) (items : List Item) (i : Item) → f < length items → drop f (slice_set items f i) ≡ i ∷ drop (suc f) items
drop_set f [] i le = absurd (omega (arith, le))
drop_set zero (x ∷ items) i le = refl
drop_set (suc f) (x ∷ items) i le = drop_set f items i (omega (arith, le))

pub with_only : (f : ℕ) (items : List Item) (n : ℕ) → n ≡ length items → IsTrue (f == n) → drop f items ≡ []
with_only f items n is only = let same : f ≡ n = search rules in drop_of_length-le items (omega (arith, same, is))

pub get_behind : (f k : ℕ) (items : List Item) → slice_get (drop f items) k ≡ slice_get items (f + k)
get_behind f k items = go f (f + k) items refl
  where
    go : (f n : ℕ) (items : List Item) → n ≡ f + k → slice_get (drop f items) k ≡ slice_get items n
    go zero n items e = let same : k ≡ n = omega (arith, e) in ap (slice_get items) same
    go (suc f) n [] e = refl
    go (suc f) zero (x ∷ items) e = absurd (omega (arith, e))
    go (suc f) (suc n) (x ∷ items) e = go f n items (omega (arith, e))

drop_taken : (n : ℕ) (xs ys zs : List Item) → n ≤ length xs → drop n (take n xs ++ ys ++ zs) ≡ ys ++ zs
drop_taken zero xs ys zs le = refl
drop_taken (suc n) [] ys zs le = absurd (omega (arith, le))
drop_taken (suc n) (x ∷ xs) ys zs le = drop_taken n xs ys zs (omega (arith, le))

-- the items in front of one move over it
pub copied_behind : (f k : ℕ) (items : List Item) → f + k < length items → drop (f + 1) (copy_within items f (f + k) (f + 1)) ≡ remove (drop f items) k
copied_behind f k items near =
    let count : f + k - f ≡ k = omega arith in
    let rest : drop (f + 1 + k) items ≡ drop (suc k) (drop f items) = sym (drop-drop (suc k) f items ∙ ap (λ n. drop n items) (omega arith)) in
    ap (λ n. drop (f + 1) (copy items f n)) count
    ∙ drop_taken (f + 1) items (take k (drop f items)) (drop (f + 1 + k) items) (omega (arith, near))
    ∙ ap (λ l. take k (drop f items) ++ l) rest
  where
    copy : List Item → ℕ → ℕ → List Item
    copy items f n = take (f + 1) items ++ take n (drop f items) ++ drop (f + 1 + n) items

pub written_back : (n : ℕ) (new rest : List Item) → n ≡ length new → take n (new ++ rest) ≡ new
written_back n new rest e = ap (λ k. take k (new ++ rest)) e ∙ take_here new rest
