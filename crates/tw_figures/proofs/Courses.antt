-- How a figure goes on.
use Rattle.std.proofs.Common.{◌≡◌, ◌∙◌, ℕ, zero, suc, ◌+◌, ◌-◌, ◌<◌, ◌≤◌, max, ℤ, pos, ◌+ℤ◌, ◌*ℤ◌, ◌≤ℤ◌, List, [], ◌∷◌, ◌++◌, Bool, true, false, cond, map, refl, sym, ap, subst, arith, append-nil}
use Rattle.std.specs.Prelude.{nat_le, nat_lt, int_lt}
use Rattle.std.specs.Int.{int_min, int_max}
use Rattle.std.specs.List.{AllByRecursion as Each, Contains}
use Rattle.std.proofs.Math.IntN.{+ℤ_assoc, +ℤ_idr, suc_ℤ-*ℤ, zero-*ℤ}
use Rattle.std.proofs.lemmas.Int.{ints}
use Rattle.std.proofs.lemmas.Bool.{cond-true, cond-false, le-leb, le-ltb, lt-leb, lt-ltb}
use Rattle.std.proofs.lemmas.List.{map-append}
use Rattle.std.proofs.lemmas.List.Elements.{filter-append, Contains-append_left, Contains-append_right}
use Rattle.tw_msgs.specs.declared.record.Record.{Record}
use Rattle.tw_vtime.specs.Stamps.{tick_of}
use Rattle.tw_theory.proofs.Elements.{each_weaker}
use Rattle.tw_figures.specs.Figures.{IsCourse, IsGreatest, IsLeast, IsNext, before, busy_at, from_on, last_of, one_if_some, sum_from, sum_over, up_to, value_at, value_of, values, values_from, words_after, words_at, words_before}
use Rattle.tw_figures.specs.declared.course.Course.{Course}
use Rattle.tw_figures.specs.declared.figure.Measure.{Measure}

-- ---- lists

pub each_more : {X : Type 0} (P : X → Type 0) (xs : List X) (x : X) → Each P xs → P x → Each P (xs ++ x ∷ [])
each_more P [] x h p = (p, tt)
each_more P (y ∷ ys) x h p = (h.0, each_more P ys x h.1 p)

last_end : {X : Type 0} (x : X) (xs : List X) (y : X) → last_of x (xs ++ y ∷ []) ≡ y
last_end x [] y = refl
last_end x (z ∷ zs) y = last_end z zs y

pub each_end : {X : Type 0} (P : X → Type 0) (xs : List X) (x : X) → Each P (xs ++ x ∷ []) → P x
each_end P [] x h = h.0
each_end P (y ∷ ys) x h = each_end P ys x h.1

-- ---- the words at a tick

pub words_end : (start : List ℤ) (moves : List Record) (r : Record) → words_after start (moves ++ r ∷ []) ≡ r.words
words_end start moves r = ap (last_of start) (map-append (λ x. x.words) moves (r ∷ [])) ∙ last_end start (map (λ x. x.words) moves) r.words

-- a transition of a later tick is not yet made
later_none : (t : ℕ) (moves : List Record) (r : Record) → t < tick_of r.stamp → up_to t (moves ++ r ∷ []) ≡ up_to t moves
later_none t moves r l =
    filter-append (λ x. nat_le (tick_of x.stamp) t) moves (r ∷ [])
    ∙ ap (λ l. up_to t moves ++ l) (cond-false (nat_le (tick_of r.stamp) t) (r ∷ []) [] (lt-leb (tick_of r.stamp) t l))
    ∙ append-nil (up_to t moves)

all_made : (t : ℕ) (moves : List Record) → Each (λ r. tick_of r.stamp ≤ t) moves → up_to t moves ≡ moves
all_made t [] h = refl
all_made t (r ∷ rs) h = cond-true (nat_le (tick_of r.stamp) t) _ _ (le-leb (tick_of r.stamp) t h.0) ∙ ap (λ l. r ∷ l) (all_made t rs h.1)

pub words_earlier : (start : List ℤ) (moves : List Record) (r : Record) (t : ℕ) → t < tick_of r.stamp → words_at start (moves ++ r ∷ []) t ≡ words_at start moves t
unfolding words_at
words_earlier start moves r t l = ap (words_after start) (later_none t moves r l)

pub words_since : (start : List ℤ) (moves : List Record) (t : ℕ) → Each (λ r. tick_of r.stamp ≤ t) moves → words_at start moves t ≡ words_after start moves
unfolding words_at
words_since start moves t h = ap (words_after start) (all_made t moves h)

-- ---- the records before a tick, and those from there on

-- one more that is not before it
pub before_same : (t : ℕ) (rs : List Record) (r : Record) → t ≤ tick_of r.stamp → before t (rs ++ r ∷ []) ≡ before t rs
before_same t rs r l =
    filter-append (λ x. nat_lt (tick_of x.stamp) t) rs (r ∷ [])
    ∙ ap (λ l. before t rs ++ l) (cond-false (nat_lt (tick_of r.stamp) t) (r ∷ []) [] (le-ltb (tick_of r.stamp) t l))
    ∙ append-nil (before t rs)

pub from_on_more : (t : ℕ) (rs : List Record) (r : Record) → t ≤ tick_of r.stamp → from_on t (rs ++ r ∷ []) ≡ from_on t rs ++ r ∷ []
from_on_more t rs r l =
    filter-append (λ x. nat_le t (tick_of x.stamp)) rs (r ∷ [])
    ∙ ap (λ l. from_on t rs ++ l) (cond-true (nat_le t (tick_of r.stamp)) (r ∷ []) [] (le-leb t (tick_of r.stamp) l))

-- one more that is before it
pub from_on_same : (t : ℕ) (rs : List Record) (r : Record) → tick_of r.stamp < t → from_on t (rs ++ r ∷ []) ≡ from_on t rs
from_on_same t rs r l =
    filter-append (λ x. nat_le t (tick_of x.stamp)) rs (r ∷ [])
    ∙ ap (λ l. from_on t rs ++ l) (cond-false (nat_le t (tick_of r.stamp)) (r ∷ []) [] (lt-leb t (tick_of r.stamp) l))
    ∙ append-nil (from_on t rs)

-- where all are before it
pub all_before : (t : ℕ) (rs : List Record) → Each (λ r. tick_of r.stamp < t) rs → before t rs ≡ rs
all_before t [] h = refl
all_before t (r ∷ rs) h = cond-true (nat_lt (tick_of r.stamp) t) _ _ (lt-ltb (tick_of r.stamp) t h.0) ∙ ap (λ l. r ∷ l) (all_before t rs h.1)

none_from : (t : ℕ) (rs : List Record) → Each (λ r. tick_of r.stamp < t) rs → from_on t rs ≡ []
none_from t [] h = refl
none_from t (r ∷ rs) h = cond-false (nat_le t (tick_of r.stamp)) _ _ (lt-leb t (tick_of r.stamp) h.0) ∙ none_from t rs h.1

-- ---- sums over ticks

pub sum_same : (n : ℕ) (f g : ℕ → ℤ) → ((t : ℕ) → t < n → f t ≡ g t) → sum_over n f ≡ sum_over n g
unfolding sum_over
sum_same zero f g h = refl
sum_same (suc n) f g h = λ i. sum_same n f g (λ t l. h t (omega arith)) i +ℤ h n (omega arith) i

-- a number that stands from n on
pub sum_stands : (n k : ℕ) (f : ℕ → ℤ) (v : ℤ) → ((t : ℕ) → n ≤ t → f t ≡ v) → sum_over (k + n) f ≡ sum_over n f +ℤ pos k *ℤ v
unfolding sum_over
sum_stands n zero f v h = ap (λ m. sum_over m f) (e) ∙ sym (+ℤ_idr (sum_over n f)) ∙ ap (λ x. sum_over n f +ℤ x) (sym (zero-*ℤ v))
  where
    e : zero + n ≡ n
    e = omega arith
sum_stands n (suc k) f v h =
    ap (λ m. sum_over m f) (up) ∙ ap (λ x. x +ℤ f (k + n)) (sum_stands n k f v h) ∙ ap (λ x. (sum_over n f +ℤ pos k *ℤ v) +ℤ x) (h (k + n) (omega arith))
    ∙ +ℤ_assoc (sum_over n f) (pos k *ℤ v) v ∙ ap (λ x. sum_over n f +ℤ x) (sym (suc_ℤ-*ℤ (pos k) v))
  where
    up : suc k + n ≡ suc (k + n)
    up = omega arith

-- ---- the course up to a later tick, with no transition between

module _ (from : ℕ) (start : List ℤ) (moves : List Record) (course : Course) (h : IsCourse from start moves course) (tick : ℕ) (l : course.since ≤ tick) where
  value_since : (t : ℕ) → course.since ≤ t → value_at course.measure start moves t ≡ course.last
  value_since t k =
      ap (value_of course.measure) (words_since start moves t (each_weaker (λ r. tick_of r.stamp ≤ course.since) (λ r. tick_of r.stamp ≤ t) (λ r p. omega arith) moves h.past)) ∙ sym h.last

  up : tick - course.since + (course.since - from) ≡ tick - from
  up = let begun = h.begun in omega (arith, begun)

  at_since : (t : ℕ) → course.since - from ≤ t → course.since ≤ from + t
  at_since t k = omega arith

  pub sum_on : course.sum +ℤ pos (tick - course.since) *ℤ course.last ≡ sum_from from (tick - from) (value_at course.measure start moves)
  sum_on =
      let value = λ (t : ℕ). value_at course.measure start moves (from + t) in
      ap (λ x. x +ℤ pos (tick - course.since) *ℤ course.last) h.sum
      ∙ sym (sum_stands (course.since - from) (tick - course.since) value course.last (λ t k. value_since (from + t) (at_since t k)))
      ∙ ap (λ n. sum_over n value) up

  pub busy_on : pos course.busy +ℤ pos (tick - course.since) *ℤ one_if_some course.last ≡ sum_from from (tick - from) (busy_at course.measure start moves)
  busy_on =
      let busy = λ (t : ℕ). busy_at course.measure start moves (from + t) in
      ap (λ x. x +ℤ pos (tick - course.since) *ℤ one_if_some course.last) h.busy
      ∙ sym (sum_stands (course.since - from) (tick - course.since) busy (one_if_some course.last) (λ t k. ap one_if_some (value_since (from + t) (at_since t k))))
      ∙ ap (λ n. sum_over n busy) up

-- ---- least and greatest

pub least_alone : (x : ℤ) → IsLeast x (x ∷ [])
least_alone x = record { one = (0, omega arith, refl); least = (omega (arith, ints), tt) }

pub greatest_alone : (x : ℤ) → IsGreatest x (x ∷ [])
greatest_alone x = record { one = (0, omega arith, refl); greatest = (omega (arith, ints), tt) }

last_in : (xs : List ℤ) (y : ℤ) → Contains (xs ++ y ∷ []) y
last_in xs y = Contains-append_right xs (y ∷ []) y (0, omega arith, refl)

pub least_more : (xs : List ℤ) (x y m : ℤ) → IsLeast x xs → m ≡ int_min x y → m ≤ℤ x → m ≤ℤ y → IsLeast m (xs ++ y ∷ [])
least_more xs x y m h is low low' = record {
  one = subst (Contains (xs ++ y ∷ [])) (sym is) (go (int_lt y x));
  least = each_more (λ z. m ≤ℤ z) xs y (each_weaker (λ z. x ≤ℤ z) (λ z. m ≤ℤ z) (λ z p. omega (arith, ints)) xs h.least) low';
}
  where
    go : (b : Bool) → Contains (xs ++ y ∷ []) (cond b y x)
    go true = last_in xs y
    go false = Contains-append_left xs (y ∷ []) x h.one

pub greatest_more : (xs : List ℤ) (x y m : ℤ) → IsGreatest x xs → m ≡ int_max x y → x ≤ℤ m → y ≤ℤ m → IsGreatest m (xs ++ y ∷ [])
greatest_more xs x y m h is low low' = record {
  one = subst (Contains (xs ++ y ∷ [])) (sym is) (go (int_lt y x));
  greatest = each_more (λ z. z ≤ℤ m) xs y (each_weaker (λ z. z ≤ℤ x) (λ z. z ≤ℤ m) (λ z p. omega (arith, ints)) xs h.greatest) low';
}
  where
    go : (b : Bool) → Contains (xs ++ y ∷ []) (cond b x y)
    go true = Contains-append_left xs (y ∷ []) x h.one
    go false = last_in xs y

-- ---- the course before any transition, and one more

nothing : (f : ℕ → ℤ) → pos 0 ≡ sum_over 0 f
unfolding sum_over
nothing f = refl

nothing_yet : (from : ℕ) (f : ℕ → ℤ) → pos 0 ≡ sum_from from (from - from) f
nothing_yet from f = let none : 0 ≡ from - from = omega arith in nothing (λ t. f (from + t)) ∙ ap (λ n. sum_from from n f) none

pub course_begins : (from : ℕ) (measure : Measure) (start : List ℤ) (v : ℤ) → v ≡ value_of measure start
    → IsCourse from start [] (record { measure = measure; least = v; greatest = v; last = v; since = from; sum = pos 0; busy = 0 })
course_begins from measure start v is = record {
  least = subst (λ x. IsLeast v (x ∷ [])) is (least_alone v);
  greatest = subst (λ x. IsGreatest v (x ∷ [])) is (greatest_alone v);
  last = is;
  begun = omega arith;
  past = tt;
  since = λ t l _. l;
  sum = nothing_yet from (value_at measure start []);
  busy = nothing_yet from (busy_at measure start []);
}

module _ (from : ℕ) (start : List ℤ) (moves : List Record) (r : Record) where
  values_more : (measure : Measure) → from ≤ tick_of r.stamp → values_from measure from start moves ++ value_of measure r.words ∷ [] ≡ values_from measure from start (moves ++ r ∷ [])
  values_more measure l =
      let said = λ (rs : List Record). map (λ x. x.words) rs in
      let later = from_on from moves in
      (λ i. value_of measure (words_before from start moves)
      ∷ (sym (map-append (value_of measure) (said later) (r.words ∷ [])) ∙ ap (map (value_of measure)) (sym (map-append (λ x. x.words) later (r ∷ [])))) i)
      ∙ (λ i. values measure (words_after start (sym (before_same from moves r l) i)) (sym (from_on_more from moves r l) i))

  -- a course that has come to the tick of a transition, with the values that it had
  pub course_goes_on : (old new : Course) (v : ℤ) → IsCourse from start moves old → old.since ≤ tick_of r.stamp → v ≡ value_of old.measure r.words
      → new.measure ≡ old.measure → new.since ≡ tick_of r.stamp → new.last ≡ v
      → new.least ≡ int_min old.least v → new.least ≤ℤ old.least → new.least ≤ℤ v
      → new.greatest ≡ int_max old.greatest v → old.greatest ≤ℤ new.greatest → v ≤ℤ new.greatest
      → new.sum ≡ sum_from from (tick_of r.stamp - from) (value_at old.measure start moves)
      → pos new.busy ≡ sum_from from (tick_of r.stamp - from) (busy_at old.measure start moves)
      → IsCourse from start (moves ++ r ∷ []) new
  course_goes_on old new v h l value same since last low low1 low2 high high1 high2 sum busy = record {
    least = subst (IsLeast new.least) all (least_more (values_from old.measure from start moves) old.least v new.least h.least low low1 low2);
    greatest = subst (IsGreatest new.greatest) all (greatest_more (values_from old.measure from start moves) old.greatest v new.greatest h.greatest high high1 high2);
    last = last ∙ value ∙ (λ i. value_of (sym same i) (sym (words_end start moves r) i));
    begun = let begun = h.begun in omega (arith, begun, since, l);
    past = each_more (λ x. tick_of x.stamp ≤ new.since) moves r (each_weaker (λ x. tick_of x.stamp ≤ old.since) (λ x. tick_of x.stamp ≤ new.since) (λ x p. omega arith) moves h.past) (omega arith);
    since = λ t _ k. (let end = each_end (λ x. tick_of x.stamp ≤ t) moves r k in omega (arith, end, since));
    sum = sum ∙ sum_same (tick_of r.stamp - from) (λ t. value_at old.measure start moves (from + t)) (λ t. value_at new.measure start (moves ++ r ∷ []) (from + t))
        (λ t k. λ i. value_of (sym same i) (sym (words_earlier start moves r (from + t) (omega arith)) i))
        ∙ ap (λ n. sum_from from (n - from) (value_at new.measure start (moves ++ r ∷ []))) (sym since);
    busy = busy ∙ sum_same (tick_of r.stamp - from) (λ t. busy_at old.measure start moves (from + t)) (λ t. busy_at new.measure start (moves ++ r ∷ []) (from + t))
        (λ t k. λ i. one_if_some (value_of (sym same i) (sym (words_earlier start moves r (from + t) (omega arith)) i)))
        ∙ ap (λ n. sum_from from (n - from) (busy_at new.measure start (moves ++ r ∷ []))) (sym since);
  }
    where
      all : values_from old.measure from start moves ++ v ∷ [] ≡ values_from new.measure from start (moves ++ r ∷ [])
      all = ap (λ x. values_from old.measure from start moves ++ x ∷ []) value
          ∙ values_more old.measure (let begun = h.begun in omega (arith, begun, l)) ∙ ap (λ m. values_from m from start (moves ++ r ∷ [])) (sym same)

  -- before the first tick there is nothing to tell but the value with which the figure comes to it
  values_settled : (measure : Measure) → Each (λ x. tick_of x.stamp < from) (moves ++ r ∷ []) → values_from measure from start (moves ++ r ∷ []) ≡ value_of measure r.words ∷ []
  values_settled measure early =
      (λ i. values measure (words_after start (all_before from (moves ++ r ∷ []) early i)) (none_from from (moves ++ r ∷ []) early i))
      ∙ ap (λ w. value_of measure w ∷ []) (words_end start moves r)

  pub course_settles : (old : Course) (v : ℤ) → IsCourse from start moves old → tick_of r.stamp < old.since → IsNext moves r → v ≡ value_of old.measure r.words
      → IsCourse from start (moves ++ r ∷ []) (record old { least = v; greatest = v; last = v })
  course_settles old v h early next value = record {
    least = subst (IsLeast v) alone (least_alone v);
    greatest = subst (IsGreatest v) alone (greatest_alone v);
    last = value ∙ ap (value_of old.measure) (sym (words_end start moves r));
    begun = h.begun;
    past = each_weaker (λ x. tick_of x.stamp < from) (λ x. tick_of x.stamp ≤ old.since) (λ x p. omega (arith, first)) (moves ++ r ∷ []) all_early;
    since = λ t k _. omega (arith, first, k);
    sum = h.sum ∙ sum_same (old.since - from) (λ t. value_at old.measure start moves (from + t)) (λ t. value_at old.measure start (moves ++ r ∷ []) (from + t)) (λ t k. absurd (omega (arith, first, k)));
    busy = h.busy ∙ sum_same (old.since - from) (λ t. busy_at old.measure start moves (from + t)) (λ t. busy_at old.measure start (moves ++ r ∷ []) (from + t)) (λ t k. absurd (omega (arith, first, k)));
  }
    where
      -- no transition is at the first tick or later
      first : old.since ≡ from
      first =
          let later = h.since (max from (tick_of r.stamp)) (omega arith) (each_weaker (λ x. tick_of x.stamp ≤ tick_of r.stamp) (λ x. tick_of x.stamp ≤ max from (tick_of r.stamp)) (λ x p. omega arith) moves next) in
          let begun = h.begun in omega (arith, later, begun, early)

      all_early : Each (λ x. tick_of x.stamp < from) (moves ++ r ∷ [])
      all_early = each_more (λ x. tick_of x.stamp < from) moves r (each_weaker (λ x. tick_of x.stamp ≤ tick_of r.stamp) (λ x. tick_of x.stamp < from) (λ x p. omega (arith, first, early)) moves next) (omega (arith, first, early))

      alone : v ∷ [] ≡ values_from old.measure from start (moves ++ r ∷ [])
      alone = ap (λ x. x ∷ []) value ∙ sym (values_settled old.measure all_early)
