-- A sorted bag is fixed by how many times each item stands in it.
use Rattle.std.proofs.Common.{◌≡◌, ℕ, ◌+◌, ◌<◌, ◌⊎◌, ◌&&◌, ◌==◌, nat_lt, true, false, List, [], ◌∷◌, refl, sym, ap, ◌∙◌, inl, inr, ⊎_elim, arith, Bool, eq-eqb, eqb-true, lt-ltb, le-ltb, ne_eqb, ℤ, int_le, int_eq, if◌then◌else◌, true≢false}
use Rattle.std.proofs.lemmas.Bool.{and_from, and_left, and_right, and_parts, or_left, or_right, or_from, cases_Bool, cases_order, cond-true, cond-false}
use Rattle.std.proofs.lemmas.Bool.Decides.{Decides-int_eq}
use Rattle.std.proofs.lemmas.Int.{ints}
use Rattle.tw_msgs.specs.Bags.{Bag, by_port, insert_item, sorted_bag}
use Rattle.tw_msgs.specs.Counting.{one_at}
use Rattle.tw_msgs.specs.declared.message.Message.{Message}
use Rattle.tw_theory.specs.Bundles.{items_of, messages_for}
use Rattle.tw_laws.specs.History.{count}
use Rattle.tw_laws.proofs.History.Clock.{arrived, bag_of}
use lib.Signed.{◌<ℤ◌, ◌≤ℤ◌}

pub int_tells : (x y : ℤ) → ((int_le x y ≡ true) × (x ≤ℤ y)) ⊎ ((int_le x y ≡ false) × (y <ℤ x))
int_tells x y = by (int_le x y) refl
  where
    by : (t : Bool) → int_le x y ≡ t → ((int_le x y ≡ true) × (x ≤ℤ y)) ⊎ ((int_le x y ≡ false) × (y <ℤ x))
    by true e = inl (e, omega (arith, ints))
    by false e = inr (e, omega (arith, ints))

-- what the order of items says
abbrev pub Upto : ℕ × ℤ → ℕ × ℤ → Type 0
Upto i j = (i.0 < j.0) ⊎ ((i.0 ≡ j.0) × (i.1 ≤ℤ j.1))

abbrev pub Past : ℕ × ℤ → ℕ × ℤ → Type 0
Past i j = (j.0 < i.0) ⊎ ((i.0 ≡ j.0) × (j.1 <ℤ i.1))

abbrev Tells : ℕ × ℤ → ℕ × ℤ → Type 0
Tells i j = ((by_port i j ≡ true) × Upto i j) ⊎ ((by_port i j ≡ false) × Past i j)

tells : (i j : ℕ × ℤ) → Tells i j
tells i j = ⊎_elim same (⊎_elim less more) (cases_order i.0 j.0)
  where
    less : i.0 < j.0 → Tells i j
    less l = inl (or_left (nat_lt i.0 j.0) _ (lt-ltb i.0 j.0 l), inl l)

    more : j.0 < i.0 → Tells i j
    more l = inr (or_from (nat_lt i.0 j.0) _ (le-ltb i.0 j.0 (omega arith)) (and_left (i.0 == j.0) _ (ne_eqb i.0 j.0 (λ e. omega arith))), inl l)

    same : i.0 ≡ j.0 → Tells i j
    same e =
        ⊎_elim
        (λ h. inl (or_right (nat_lt i.0 j.0) _ (and_from (i.0 == j.0) _ (eq-eqb i.0 j.0 e) h.0), inr (e, h.1)))
        (λ h. inr (or_from (nat_lt i.0 j.0) _ (le-ltb i.0 j.0 (omega arith)) (and_right (i.0 == j.0) _ h.0), inr (e, h.1)))
        (int_tells i.1 j.1)

pub upto : (i j : ℕ × ℤ) → by_port i j ≡ true → Upto i j
upto i j e = ⊎_elim (λ h. h.1) (λ h. let a = h.0 in absurd (cc (a, e))) (tells i j)

pub past : (i j : ℕ × ℤ) → by_port i j ≡ false → Past i j
past i j e = ⊎_elim (λ h. let a = h.0 in absurd (cc (a, e))) (λ h. h.1) (tells i j)

-- what is up to y is not past what is past y
apart : (y a b : ℕ × ℤ) → by_port a y ≡ true → by_port b y ≡ false → by_port b a ≡ false
apart y a b e f =
    let p = upto a y e in
    let q = past b y f in
    ⊎_elim (λ h. let r = h.1 in absurd (omega (arith, ints, p, q, r))) (λ h. h.0) (tells b a)

antisymmetric : (a b : ℕ × ℤ) → by_port a b ≡ true → by_port b a ≡ true → a ≡ b
antisymmetric a b e f =
    let p = upto a b e in
    let q = upto b a f in
    let first : a.0 ≡ b.0 = omega (arith, ints, p, q) in
    let second : a.1 ≡ b.1 = omega (arith, ints, p, q) in
    λ i. (first i, second i)

pub insert_front : (i j : ℕ × ℤ) (js : Bag) → by_port i j ≡ true → insert_item i (j ∷ js) ≡ i ∷ j ∷ js
insert_front i j js e = cond-true (by_port i j) _ _ e

insert_in : (i j : ℕ × ℤ) (js : Bag) → by_port i j ≡ false → insert_item i (j ∷ js) ≡ j ∷ insert_item i js
insert_in i j js e = cond-false (by_port i j) _ _ e

-- two inserts before the rest
front_comm : (a b : ℕ × ℤ) (js : Bag) → insert_item b js ≡ b ∷ js → insert_item a js ≡ a ∷ js → insert_item a (b ∷ js) ≡ insert_item b (a ∷ js)
front_comm a b js p q =
    ⊎_elim
    (λ e. ⊎_elim (λ f. both e f) (λ f. forth e f) (cases_Bool (by_port b a)))
    (λ e. ⊎_elim (λ f. back e f) (λ f. let x = past a b e in let y = past b a f in absurd (omega (arith, ints, x, y))) (cases_Bool (by_port b a)))
    (cases_Bool (by_port a b))
  where
    both : by_port a b ≡ true → by_port b a ≡ true → insert_item a (b ∷ js) ≡ insert_item b (a ∷ js)
    both e f = let s = antisymmetric a b e f in λ i. insert_item (s i) (sym s i ∷ js)

    forth : by_port a b ≡ true → by_port b a ≡ false → insert_item a (b ∷ js) ≡ insert_item b (a ∷ js)
    forth e f = insert_front a b js e ∙ sym (insert_in b a js f ∙ ap (λ l. a ∷ l) p)

    back : by_port a b ≡ false → by_port b a ≡ true → insert_item a (b ∷ js) ≡ insert_item b (a ∷ js)
    back e f = insert_in a b js e ∙ ap (λ l. b ∷ l) q ∙ sym (insert_front b a js f)

insert_comm : (a b : ℕ × ℤ) (js : Bag) → insert_item a (insert_item b js) ≡ insert_item b (insert_item a js)
insert_comm a b [] = front_comm a b [] refl refl
insert_comm a b (y ∷ js) =
    let ih = insert_comm a b js in
    ⊎_elim
    (λ e. ⊎_elim (λ f. none e f) (λ f. deep a b e f) (cases_Bool (by_port b y)))
    (λ e. ⊎_elim (λ f. sym (deep b a f e)) (λ f. both ih e f) (cases_Bool (by_port b y)))
    (cases_Bool (by_port a y))
  where
    both : insert_item a (insert_item b js) ≡ insert_item b (insert_item a js) → by_port a y ≡ false → by_port b y ≡ false
        → insert_item a (insert_item b (y ∷ js)) ≡ insert_item b (insert_item a (y ∷ js))
    both ih e f =
        ap (insert_item a) (insert_in b y js f) ∙ insert_in a y (insert_item b js) e ∙ ap (λ l. y ∷ l) ih
        ∙ sym (ap (insert_item b) (insert_in a y js e) ∙ insert_in b y (insert_item a js) f)

    deep : (c d : ℕ × ℤ) → by_port c y ≡ true → by_port d y ≡ false → insert_item c (insert_item d (y ∷ js)) ≡ insert_item d (insert_item c (y ∷ js))
    deep c d e f =
        ap (insert_item c) (insert_in d y js f) ∙ insert_front c y (insert_item d js) e
        ∙ sym (ap (insert_item d) (insert_front c y js e) ∙ insert_in d c (y ∷ js) (apart y c d e f) ∙ ap (λ l. c ∷ l) (insert_in d y js f))

    none : by_port a y ≡ true → by_port b y ≡ true → insert_item a (insert_item b (y ∷ js)) ≡ insert_item b (insert_item a (y ∷ js))
    none e f =
        ap (insert_item a) (insert_front b y js f) ∙ front_comm a b (y ∷ js) (insert_front b y js f) (insert_front a y js e)
        ∙ sym (ap (insert_item b) (insert_front a y js e))

-- ---- counts

abbrev pub tally : Bool → ℕ
tally true = 1
tally false = 0

abbrev pub item_eq : ℕ × ℤ → ℕ × ℤ → Bool
item_eq i j = (i.0 == j.0) && int_eq i.1 j.1

-- how many times an item stands in a bag
abbrev pub item_count : ℕ × ℤ → Bag → ℕ
item_count i [] = 0
item_count i (j ∷ js) = tally (item_eq i j) + item_count i js

item_eq-refl : (i : ℕ × ℤ) → item_eq i i ≡ true
item_eq-refl i = and_from (i.0 == i.0) _ (eq-eqb i.0 i.0 refl) ((Decides-int_eq i.1 i.1).1 refl)

item_eq-true : (i j : ℕ × ℤ) → item_eq i j ≡ true → i ≡ j
item_eq-true i j e =
    let p = and_parts (i.0 == j.0) _ e in
    let first = eqb-true i.0 j.0 p.0 in
    let second = (Decides-int_eq i.1 j.1).0 p.1 in
    λ k. (first k, second k)

record TakenOut (i : ℕ × ℤ) (js : Bag) : Type 0 where
  rest : Bag
  sorted : sorted_bag js ≡ insert_item i (sorted_bag rest)
  counts : (k : ℕ × ℤ) → item_count k js ≡ tally (item_eq k i) + item_count k rest

take_out : (i : ℕ × ℤ) (js : Bag) → 0 < item_count i js → TakenOut i js
take_out i [] h = absurd (omega (arith, h))
take_out i (j ∷ js) h = ⊎_elim here (λ e. there (take_out i js (omega (arith, ap tally e, h)))) (cases_Bool (item_eq i j))
  where
    here : item_eq i j ≡ true → TakenOut i (j ∷ js)
    here e =
        let s = item_eq-true i j e in
        record { rest = js; sorted = ap (λ k. insert_item k (sorted_bag js)) (sym s); counts = λ k. ap (λ w. tally (item_eq k w) + item_count k js) (sym s) }

    there : TakenOut i js → TakenOut i (j ∷ js)
    there t =
        record {
          rest = j ∷ t.rest;
          sorted = ap (insert_item j) t.sorted ∙ insert_comm j i (sorted_bag t.rest);
          counts = λ k. let c = t.counts k in omega (arith, c);
        }

sort_same : (is js : Bag) → ((k : ℕ × ℤ) → item_count k is ≡ item_count k js) → sorted_bag is ≡ sorted_bag js
sort_same [] [] h = refl
sort_same [] (j ∷ js) h = let e = h j in let r = ap tally (item_eq-refl j) in absurd (omega (arith, e, r))
sort_same (i ∷ is) js h =
    let e = h i in
    let r = ap tally (item_eq-refl i) in
    let t : TakenOut i js = take_out i js (omega (arith, e, r)) in
    let ih = sort_same is t.rest (λ k. let a = h k in let b = t.counts k in omega (arith, a, b)) in
    ap (insert_item i) ih ∙ sym t.sorted

-- the items to a component at a stamp are counted as messages are
tallied : (a p b v : Bool) (i : ℕ × ℤ) (m : Message) (l : List Message) (n : ℕ) → item_eq i (m.port, m.value) ≡ (p && v)
    → item_count i (items_of l) ≡ n → item_count i (items_of (if a && b then m ∷ l else l)) ≡ (if a && p && b && v then 1 else 0) + n
tallied true true true true i m l n e q = let t = ap tally e in omega (arith, t, q)
tallied true true true false i m l n e q = let t = ap tally e in omega (arith, t, q)
tallied true false true v i m l n e q = let t = ap tally e in omega (arith, t, q)
tallied true true false v i m l n e q = q ∙ omega arith
tallied true false false v i m l n e q = q ∙ omega arith
tallied false p b v i m l n e q = q ∙ omega arith

pub items_count : (x : Message) (ys : List Message) → item_count (x.port, x.value) (items_of (arrived x.to x.stamp ys)) ≡ count x ys
unfolding arrived
items_count x [] = refl
items_count x (y ∷ ys) =
    tallied (x.to == y.to) (x.port == y.port) (x.stamp == y.stamp) (int_eq x.value y.value) (x.port, x.value) y (arrived x.to x.stamp ys) (count x ys) refl (items_count x ys)

-- lists that hold each message to a component at a stamp as often make one bag
pub bag_same : (c s : ℕ) (xs ys : List Message) → ((x : Message) → x.to ≡ c → x.stamp ≡ s → count x xs ≡ count x ys) → bag_of c s xs ≡ bag_of c s ys
bag_same c s xs ys h =
    sort_same (items_of (arrived c s xs)) (items_of (arrived c s ys))
    (λ k.
    let x : Message = record { to = c; port = k.0; stamp = s; value = k.1 } in
    items_count x xs ∙ h x refl refl ∙ sym (items_count x ys))

-- sorting keeps the counts
insert_count : (k i : ℕ × ℤ) (js : Bag) → item_count k (insert_item i js) ≡ tally (item_eq k i) + item_count k js
insert_count k i [] = refl
insert_count k i (j ∷ js) =
    let ih = insert_count k i js in
    ⊎_elim (λ e. ap (item_count k) (insert_front i j js e)) (λ e. ap (item_count k) (insert_in i j js e) ∙ omega (arith, ih)) (cases_Bool (by_port i j))

pub sorted_count : (k : ℕ × ℤ) (is : Bag) → item_count k (sorted_bag is) ≡ item_count k is
sorted_count k [] = refl
sorted_count k (i ∷ is) = let ih = sorted_count k is in let e = insert_count k i (sorted_bag is) in omega (arith, ih, e)

one_tally : (a p b v : Bool) → a ≡ true → b ≡ true → (if a && p && b && v then 1 else 0) ≡ tally (p && v)
one_tally true true true true d e = refl
one_tally true true true false d e = refl
one_tally true false true v d e = refl
one_tally false p b v d e = absurd (true≢false (sym d))
one_tally true p false v d e = absurd (true≢false (sym e))

-- the messages of a bag are counted as its items are
pub messages_count : (x : Message) (c s : ℕ) (bag : Bag) → x.to ≡ c → x.stamp ≡ s → count x (messages_for c s bag) ≡ item_count (x.port, x.value) bag
messages_count x c s [] p q = refl
messages_count x c s (i ∷ is) p q =
    let ih = messages_count x c s is p q in
    let one : one_at x (record { to = c; port = i.0; stamp = s; value = i.1 }) ≡ tally (item_eq (x.port, x.value) i) =
    one_tally (x.to == c) (x.port == i.0) (x.stamp == s) (int_eq x.value i.1) (eq-eqb x.to c p) (eq-eqb x.stamp s q) in
    omega (arith, ih, one)
