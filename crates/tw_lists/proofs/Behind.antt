-- A list in order, read from its end, and a message looked for there.
use Rattle.std.proofs.Common.{◌≡◌, ℕ, ◌+◌, ◌<◌, ◌≤◌, Bool, true, false, ◌||◌, List, [], ◌∷◌, ◌++◌, length, map, reverse, Option, Some, None, refl, sym, ap, subst, ◌∙◌, inl, inr, arith, append-nil, length-append}
use Rattle.std.proofs.lemmas.Bool.{cases_Bool}
use Rattle.std.proofs.lemmas.List.{append_assoc, map-append}
use Rattle.tw_pool.specs.Lists.{list_at, item_of, first_of, next_of, backward, AreDistinct}
use Rattle.tw_pool.proofs.ListsByIndex.{item_is, prev_is, last_of, last_none, backward_at}
use Rattle.tw_msgs.specs.Messages.{same_message, has, Sorted}
use Rattle.tw_msgs.specs.declared.message.Message.{Message}
use Rattle.tw_msgs.specs.declared.message.Item.{Item}
use Rattle.tw_msgs.proofs.Messages.{same_message_is, stamps_rise}
use Rattle.tw_msgs.proofs.MessageLists.{has-append}
use Rattle.tw_lists.specs.Lists.{Nodes, message_at}

-- the last k nodes of a list were read, and none is of m; the one before them comes next
pub record WalkedBack (m : Message) (l : Nodes) (k : ℕ) (at : Option ℕ) : Type 0 where
  pub front : Nodes
  pub walked : Nodes
  pub split : l ≡ front ++ walked
  pub count : length walked ≡ k
  pub at_is : at ≡ first_of (reverse front)
  pub lacks : has m (map message_at walked) ≡ false

pub begun : (m : Message) (lists : List Nodes) (number : ℕ) (at : Option ℕ) → at ≡ first_of (list_at (backward lists) number) → WalkedBack m (list_at lists number) 0 at
begun m lists number at is =
    record {
      front = list_at lists number;
      walked = [];
      split = sym (append-nil (list_at lists number));
      count = refl;
      at_is = is ∙ ap first_of (backward_at lists number);
      lacks = refl;
    }

-- where all were read
pub walked_all : (m : Message) (l : Nodes) (at : Option ℕ) → WalkedBack m l (length l) at → has m (map message_at l) ≡ false
walked_all m l at w = go w.front (omega (arith, ap length w.split, length-append w.front w.walked, w.count)) w.split
  where
    go : (front : Nodes) → length front ≡ 0 → l ≡ front ++ w.walked → has m (map message_at l) ≡ false
    go [] none split = ap (λ x. has m (map message_at x)) split ∙ w.lacks
    go (e ∷ front) none split = absurd (omega (arith, none))

pub walked_out : (m : Message) (l : Nodes) (k : ℕ) → WalkedBack m l k None → has m (map message_at l) ≡ false
walked_out m l k w =
    let front : w.front ≡ [] = last_none (w.front ∷ []) 0 (sym w.at_is) in
    ap (λ x. has m (map message_at x)) (w.split ∙ ap (λ f. f ++ w.walked) front) ∙ w.lacks

-- the next one
pub record Next (m : Message) (lists : List Nodes) (number k index : ℕ) : Type 0 where
  pub item : Item
  pub got : item_of index lists ≡ Some item
  pub found : same_message m item.message ≡ true → has m (map message_at (list_at lists number)) ≡ true
  pub past : Sorted (map message_at (list_at lists number)) → item.message.stamp < m.stamp → has m (map message_at (list_at lists number)) ≡ false
  pub on : same_message m item.message ≡ false → WalkedBack m (list_at lists number) (k + 1) (next_of index (backward lists))

-- what stands before a node of a list in order has stamps up to its own
stamps_before : (x : Message) (a : List Message) (y : Message) (b : List Message) → Sorted (x ∷ a ++ y ∷ b) → x.stamp ≤ y.stamp
stamps_before x [] y b sorted = stamps_rise x y sorted.0
stamps_before x (z ∷ a) y b sorted =
    let first = stamps_rise x z sorted.0 in
    let rest = stamps_before z a y b sorted.1 in
    omega (arith, first, rest)

other : (m x : Message) → x.stamp < m.stamp → same_message m x ≡ false
other m x less =
    elim (cases_Bool (same_message m x)) [
      | inl is ↦ let stamps = ap (λ n. n.stamp) (same_message_is m x is) in absurd (omega (arith, less, stamps))
      | inr not ↦ not
    ]

earlier_lacks : (m y : Message) (a b : List Message) → Sorted (a ++ y ∷ b) → y.stamp < m.stamp → has m a ≡ false
earlier_lacks m y [] b sorted late = refl
earlier_lacks m y (x ∷ a) b sorted late =
    ap (λ t. t || has m a) (other m x (let up = stamps_before x a y b sorted in omega (arith, up, late))) ∙ earlier_lacks m y a b sorted.1 late

pub next_back : (m : Message) (lists : List Nodes) (number k index : ℕ) → AreDistinct lists → number < length lists → WalkedBack m (list_at lists number) k (Some index) → Next m lists number k index
next_back m lists number k index distinct within w =
    let at = last_of (w.front ∷ []) 0 index (sym w.at_is) in
    let l = list_at lists number in
    let split : l ≡ at.before ++ (index, at.item) ∷ w.walked = w.split ∙ ap (λ f. f ++ w.walked) at.split ∙ append_assoc at.before ((index, at.item) ∷ []) w.walked in
    let messages : map message_at l ≡ map message_at at.before ++ at.item.message ∷ map message_at w.walked = ap (map message_at) split ∙ map-append message_at at.before ((index, at.item) ∷ w.walked) in
    let parts : has m (map message_at l) ≡ (has m (map message_at at.before) || (same_message m at.item.message || has m (map message_at w.walked))) =
    ap (has m) messages ∙ has-append m (map message_at at.before) (at.item.message ∷ map message_at w.walked) in
    record {
      item = at.item;
      got = item_is lists index number at.item at.before w.walked distinct within split;
      found = λ same. parts ∙ ap (λ b. has m (map message_at at.before) || (b || has m (map message_at w.walked))) same ∙ or_true (has m (map message_at at.before));
      past = λ sorted late.
          parts
          ∙ ap (λ b. b || (same_message m at.item.message || has m (map message_at w.walked))) (earlier_lacks m at.item.message (map message_at at.before) (map message_at w.walked) (subst Sorted messages sorted) late)
          ∙ ap (λ b. b || has m (map message_at w.walked)) (other m at.item.message late)
          ∙ w.lacks;
      on = λ differs. record {
        front = at.before;
        walked = (index, at.item) ∷ w.walked;
        split = split;
        count = omega (arith, w.count);
        at_is = prev_is lists number index at.item at.before w.walked distinct within split;
        lacks = ap (λ b. b || has m (map message_at w.walked)) differs ∙ w.lacks;
      };
    }
  where
    or_true : (b : Bool) → (b || true) ≡ true
    or_true true = refl
    or_true false = refl
