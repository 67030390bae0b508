-- What the loops over the lists keep.
use Rattle.std.proofs.Common.{◌≡◌, ◌≢◌, ℕ, zero, suc, ◌+◌, ◌-◌, ◌==◌, ◌<◌, ◌≤◌, true, List, [], ◌∷◌, ◌++◌, length, take, drop, Some, None, cond, refl, sym, ap, subst, ◌∙◌, arith, length-append, append_assoc, take-append-drop, take-take, drop-drop, length-take-le, take_all, take_at, drop_at}
use Rattle.std.proofs.lemmas.Bool.{eq-eqb, ne_eqb}
use Rattle.std.proofs.lemmas.List.{drop-append-le, drop-take, drop_all, take-append-le}
use Rattle.std.proofs.lemmas.Option.{same_Some}
use Rattle.tw_msgs.specs.Bags.{Bag}
use Rattle.tw_msgs.specs.Messages.{Sorted}
use Rattle.tw_msgs.specs.declared.message.Message.{Message}
use Rattle.tw_theory.specs.Bundles.{front, behind, items_of}
use Rattle.tw_theory.proofs.Steps.{front-behind}
use Rattle.tw_lists.specs.Lists.{Lists, consuming, first_consumed, first_of, front_consumed, restored}

pub front_other : (s : ℕ) (ms : List Message) (m : Message) → Some m ≡ first_of ms → m.stamp ≢ s → front s ms ≡ []
front_other s [] m first differs = absurd (cc)
front_other s (n ∷ ns) m first differs =
    let same : m ≡ n = cc in
    ap (λ t. cond t (n ∷ front s ns) []) (ne_eqb n.stamp s (λ e. differs (ap (λ x. x.stamp) same ∙ e)))

pub front_empty : (s : ℕ) (ms : List Message) → None ≡ first_of ms → front s ms ≡ []
front_empty s [] first = refl
front_empty s (n ∷ ns) first = absurd (cc)

pub sorted_drop : (n : ℕ) (xs ys : List Message) → Sorted (xs ++ ys) → Sorted (drop n xs ++ ys)
sorted_drop zero xs ys sorted = sorted
sorted_drop (suc n) [] ys sorted = sorted
sorted_drop (suc n) (x ∷ xs) ys sorted = sorted_drop n xs ys sorted.1

-- the last but n items of a list, one by one
pub record Tail {A : Type 0} (xs ys : List A) (k : ℕ) : Type 0 where
  pub some : take (length xs - k) xs ≢ []
  pub taken : take (length (take (length xs - k) xs) - 1) (take (length xs - k) xs) ≡ take (length xs - (k + 1)) xs
  pub dropped : drop (length (take (length xs - k) xs) - 1) (take (length xs - k) xs) ++ (drop (length xs - k) xs ++ ys) ≡ drop (length xs - (k + 1)) xs ++ ys

pub tail_is : {A : Type 0} (xs ys : List A) (k : ℕ) → k + 1 ≤ length xs → Tail xs ys k
tail_is {A} xs ys k within =
    let m = length xs - (k + 1) in
    let more : length xs - k ≡ m + 1 = omega (arith, within) in
    let a = take (length xs - k) xs in
    let long : length a ≡ length xs - k = length-take-le (length xs - k) xs (omega arith) in
    let less : length a - 1 ≡ m = omega (arith, long, more) in
    let rest = drop m xs in
    let last : drop (length a - 1) a ≡ take 1 rest = ap (λ n. drop n a) less ∙ ap (λ n. drop m (take n xs)) more ∙ drop-take m 1 xs in
    let behind : drop (length xs - k) xs ≡ drop 1 rest = ap (λ n. drop n xs) more ∙ sym (drop-drop 1 m xs) in
    record {
      some = λ none. omega (arith, ap length none, long, more);
      taken = ap (λ n. take n a) less ∙ take-take m (length xs - k) xs (omega (arith, more));
      dropped = (λ i. last i ++ (behind i ++ ys)) ∙ sym (append_assoc (take 1 rest) (drop 1 rest) ys) ∙ ap (λ l. l ++ ys) (take-append-drop 1 rest);
    }

pub restored_more : (c : Lists) (k : ℕ) → k + 1 ≤ length c.consumed → restored 1 (restored k c) ≡ restored (k + 1) c
restored_more c k within =
    let at = tail_is c.consumed c.pending k within in
    λ i. record { pending = at.dropped i; consumed = at.taken i; sent = c.sent; outgoing = c.outgoing; waiting = c.waiting; owed = c.owed; room = c.room; spare = c.spare }

pub restored_sorted : (c : Lists) (k n : ℕ) → k < n → n ≤ length c.consumed → Sorted (drop (length c.consumed - n) c.consumed ++ c.pending) → Sorted (drop (length (restored k c).consumed - 1) (restored k c).consumed ++ (restored k c).pending)
restored_sorted c k n less within sorted =
    let at = tail_is c.consumed c.pending k (omega (arith, less, within)) in
    let on : (length c.consumed - n) + (n - (k + 1)) ≡ length c.consumed - (k + 1) = omega (arith, less, within) in
    subst (λ ms. Sorted ms) (sym at.dropped)
    (subst (λ l. Sorted (l ++ c.pending)) (drop-drop (n - (k + 1)) (length c.consumed - n) c.consumed ∙ ap (λ j. drop j c.consumed) on)
    (sorted_drop (n - (k + 1)) (drop (length c.consumed - n) c.consumed) c.pending sorted))

pub items_length : (ms : List Message) → length (items_of ms) ≡ length ms
items_length [] = refl
items_length (m ∷ ms) = ap suc (items_length ms)

-- what was consumed as a bag can be restored
pub record BagBack (s n : ℕ) (c : Lists) : Type 0 where
  pub within : n ≤ length (front_consumed s c).consumed
  pub sorted : Sorted (drop (length (front_consumed s c).consumed - n) (front_consumed s c).consumed ++ (front_consumed s c).pending)
  pub same : restored n (front_consumed s c) ≡ c

pub bag_back : (s n : ℕ) (c : Lists) → n ≡ length (front s c.pending) → Sorted c.pending → BagBack s n c
bag_back s n c n_is sorted =
    let f = front s c.pending in
    let more = length-append c.consumed f in
    let k : length (c.consumed ++ f) - n ≡ length c.consumed = omega (arith, more, n_is) in
    let dropped : drop (length (c.consumed ++ f) - n) (c.consumed ++ f) ≡ f = ap (λ j. drop j (c.consumed ++ f)) k ∙ drop_at c.consumed f (length c.consumed) refl in
    let pending = ap (λ l. l ++ behind s c.pending) dropped ∙ front-behind s c.pending in
    record {
      within = omega (arith, more, n_is);
      sorted = subst (λ l. Sorted l) (sym pending) sorted;
      same = λ i. record { pending = pending i; consumed = (ap (λ j. take j (c.consumed ++ f)) k ∙ take_at c.consumed f (length c.consumed) refl) i; sent = c.sent; outgoing = c.outgoing; waiting = c.waiting; owed = c.owed; room = c.room; spare = c.spare };
    }

-- ---- messages consumed one by one into a bag

pub record BagOn (s : ℕ) (old now : Lists) (bag : Bag) : Type 0 where
  pub same : front_consumed s now ≡ front_consumed s old
  pub bag_is : bag ++ items_of (front s now.pending) ≡ items_of (front s old.pending)
  pub back : restored (length bag) now ≡ old
  pub within : length bag ≤ length now.consumed

pub bag_begun : (s : ℕ) (old : Lists) (bag : Bag) → bag ≡ [] → BagOn s old old bag
bag_begun s old bag none =
    let all : length old.consumed - length bag ≡ length old.consumed = omega (arith, ap length none) in
    record {
      same = refl;
      bag_is = ap (λ b. b ++ items_of (front s old.pending)) none;
      back = λ i. record old {
        pending = (ap (λ k. drop k old.consumed ++ old.pending) all ∙ ap (λ l. l ++ old.pending) (drop_all (length old.consumed) old.consumed (omega arith))) i;
        consumed = (ap (λ k. take k old.consumed) all ∙ take_all (length old.consumed) old.consumed (omega arith)) i;
      };
      within = omega (arith, ap length none);
    }

-- one more
pub bag_on : (s : ℕ) (old now later : Lists) (bag more : Bag) (m : Message) → Some m ≡ first_of now.pending → m.stamp ≡ s → later ≡ first_consumed now → more ≡ bag ++ (m.port, m.value) ∷ [] → BagOn s old now bag → BagOn s old later more
bag_on s old now later bag more m first here later_is more_is on = go now.pending refl first
  where
    go : (ps : List Message) → now.pending ≡ ps → Some m ≡ first_of ps → BagOn s old later more
    go [] e is = absurd (cc is)
    go (n ∷ ns) e is =
        let same : m ≡ n = same_Some m n is in
        let due : (n.stamp == s) ≡ true = eq-eqb n.stamp s (sym (ap (λ x. x.stamp) same) ∙ here) in
        let k = length bag in
        let c = now.consumed in
        let left = length c - k in
        let more_len : length more ≡ k + 1 = omega (arith, ap length more_is, length-append bag ((m.port, m.value) ∷ [])) in
        let left_is : length (c ++ n ∷ []) - length more ≡ left = omega (arith, more_len, length-append c (n ∷ [])) in
        let front_is : front s now.pending ≡ n ∷ front s ns = ap (front s) e ∙ ap (λ b. cond b (n ∷ front s ns) []) due in
        let behind_is : behind s now.pending ≡ behind s ns = ap (behind s) e ∙ ap (λ b. cond b (behind s ns) (n ∷ ns)) due in
        let consumed = ap (λ j. take j (c ++ n ∷ [])) left_is ∙ take-append-le left c (n ∷ []) (omega arith) in
        let pending = ap (λ j. drop j (c ++ n ∷ []) ++ ns) left_is ∙ ap (λ l. l ++ ns) (drop-append-le left c (n ∷ []) (omega arith)) ∙ append_assoc (drop left c) (n ∷ []) ns ∙ ap (λ l. drop left c ++ l) (sym e) in
        subst (λ l. BagOn s old l more) (sym (later_is ∙ ap (consuming now) e))
        (record {
          same = (λ i. record now { pending = sym behind_is i; consumed = (append_assoc c (n ∷ []) (front s ns) ∙ ap (λ f. c ++ f) (sym front_is)) i }) ∙ on.same;
          bag_is = (λ i. more_is i ++ items_of (front s ns)) ∙ append_assoc bag ((m.port, m.value) ∷ []) (items_of (front s ns))
              ∙ ap (λ x. bag ++ (x.port, x.value) ∷ items_of (front s ns)) same ∙ ap (λ f. bag ++ items_of f) (sym front_is) ∙ on.bag_is;
          back = (λ i. record now { pending = pending i; consumed = consumed i }) ∙ on.back;
          within = omega (arith, more_len, length-append c (n ∷ []), on.within);
        })
