-- A list of nodes read one after another.
use Rattle.std.proofs.Common.{◌≡◌, ℕ, ◌+◌, ◌<◌, ◌≤◌, ◌==◌, Bool, true, false, min, List, [], ◌∷◌, ◌++◌, length, map, drop, cond, refl, sym, ap, ◌∙◌, arith, append-nil, append_assoc}
use Rattle.std.specs.Prelude.{nat_lt}
use Rattle.std.specs.Ordering.{nat_cmp, is_le}
use Rattle.std.specs.declared.cmp.Ordering.TheVariants.{Less, Equal, Greater}
use Rattle.std.proofs.lemmas.Bool.{ltb-false, eqb-false}
use Rattle.std.proofs.lemmas.List.{drop_all}
use Rattle.tw_msgs.specs.declared.message.Item.{Item}
use Rattle.tw_theory.specs.Bundles.{least_owed, least_stamp}
use Rattle.tw_vtime.specs.Stamps.{never}
use Rattle.tw_lists.specs.Lists.{Nodes, item_at, message_at}

pub read_more : {B : Type 0} (f : ℕ × Item → B) (l : Nodes) (k : ℕ) (node : ℕ × Item) (behind : Nodes) (xs : List B) (y : B) → y ≡ f node → drop k l ≡ node ∷ behind → drop (k + 1) l ≡ behind → xs ++ map f (drop k l) ≡ map f l
    → (xs ++ y ∷ []) ++ map f (drop (k + 1) l) ≡ map f l
read_more f l k node behind xs y is dropped rest all =
    (λ i. (xs ++ is i ∷ []) ++ map f (rest i))
    ∙ append_assoc xs (f node ∷ []) (map f behind)
    ∙ ap (λ r. xs ++ map f r) (sym dropped)
    ∙ all

pub read_end : {B : Type 0} (f : ℕ × Item → B) (l : Nodes) (k : ℕ) (xs : List B) → drop k l ≡ [] → drop (k + 1) l ≡ [] → xs ++ map f (drop k l) ≡ map f l → xs ++ map f (drop (k + 1) l) ≡ map f l
read_end f l k xs now later all = ap (λ r. xs ++ map f r) (later ∙ sym now) ∙ all

-- past the last node all was read
pub read_whole : {B : Type 0} (f : ℕ × Item → B) (l : Nodes) (k : ℕ) (xs : List B) → length l ≤ k → xs ++ map f (drop k l) ≡ map f l → xs ≡ map f l
read_whole f l k xs past all = sym (append-nil xs) ∙ ap (λ r. xs ++ map f r) (sym (drop_all k l past)) ∙ all

pub least_top : (is : List Item) → min never (least_stamp is) ≡ least_stamp is
least_top [] = omega arith
least_top (i ∷ is) = let rest = least_top is in omega (arith, rest)

pub least_more : (l : Nodes) (k : ℕ) (node : ℕ × Item) (behind : Nodes) (least y whole : ℕ) → y ≡ min least node.1.message.stamp → drop k l ≡ node ∷ behind → drop (k + 1) l ≡ behind → min least (least_stamp (map item_at (drop k l))) ≡ whole
    → min y (least_stamp (map item_at (drop (k + 1) l))) ≡ whole
least_more l k node behind least y whole is dropped rest all =
    omega (arith, is, all, ap (λ r. least_stamp (map item_at r)) dropped, ap (λ r. least_stamp (map item_at r)) rest)

pub least_end : (l : Nodes) (k least whole : ℕ) → drop k l ≡ [] → drop (k + 1) l ≡ [] → min least (least_stamp (map item_at (drop k l))) ≡ whole → min least (least_stamp (map item_at (drop (k + 1) l))) ≡ whole
least_end l k least whole now later all = ap (λ r. min least (least_stamp (map item_at r))) (later ∙ sym now) ∙ all

pub least_owed-is : (l : Nodes) → least_owed (map message_at l) ≡ least_stamp (map item_at l)
least_owed-is [] = refl
least_owed-is (node ∷ l) = ap (min node.1.message.stamp) (least_owed-is l)

pub not_le : (m n : ℕ) → is_le (nat_cmp m n) ≡ false → n < m
not_le m n is = go (nat_lt m n) refl (m == n) refl is
  where
    go : (a : Bool) → nat_lt m n ≡ a → (b : Bool) → (m == n) ≡ b → is_le (cond a Less (cond b Equal Greater)) ≡ false → n < m
    go true l b e h = absurd (cc)
    go false l true e h = absurd (cc)
    go false l false e h = omega (arith, ltb-false m n l, eqb-false m n e)
