-- What a finder knows of a list, as the list loses nodes at its end.
use Rattle.std.proofs.Common.{◌≡◌, ℕ, ◌+◌, ◌-◌, ◌<◌, ◌≤◌, true, false, List, [], ◌∷◌, ◌++◌, length, reverse, take, drop, Option, Some, None, cond, refl, sym, ap, subst, ◌∙◌, inl, inr, arith, append-nil, append_assoc, length-append, length-take}
use Rattle.std.proofs.lemmas.Bool.{cases_Bool, cond-true, cond-false}
use Rattle.std.proofs.lemmas.Option.{same_Some}
use Rattle.std.proofs.Math.Seq.{take-append_seam, take-append-add, drop-append_seam}
use Rattle.std.specs.HashMap.{get, HashMap}
use Rattle.tw_pool.specs.Lists.{list_at, item_of, first_of, next_of, backward, AreDistinct}
use Rattle.tw_pool.proofs.ListsByIndex.{item_is, prev_is, last_of, last_none, backward_at}
use Rattle.tw_msgs.specs.Messages.{same_message}
use Rattle.tw_msgs.specs.declared.message.Message.{Message}
use Rattle.tw_msgs.specs.declared.message.Item.{Item}
use Rattle.tw_msgs.proofs.Messages.{same_message_is, same_message-refl}
use Rattle.tw_vtime.specs.Stamps.{is_overdue}
use Rattle.tw_lists.specs.Falling.{AreOverdue, IsLastTimely}
use Rattle.tw_lists.specs.Finders.{Finds, Knows, equal_in, key_of, same_key}
use Rattle.tw_lists.specs.Lists.{Nodes}
use Rattle.tw_lists.specs.declared.finder.Key.{Key}
use Rattle.tw_lists.specs.declared.finder.Equals.{Equals}
use Rattle.tw_lists.proofs.Learning.{one_more, same_keys, equal_pushed, equal_beside, leaving}

-- ---- The last node leaves

-- the last node was not known yet
pub last_late : {S : Type 0} (known : HashMap Key Equals S) (late : ℕ) (nodes : Nodes) (node : ℕ × Item) → 1 ≤ late → Finds known late (nodes ++ node ∷ []) → Finds known (late - 1) nodes
last_late known late nodes node some finds =
    let n = length nodes - length finds.front in
    let long : length nodes + 1 ≡ length finds.front + late = omega (arith, length-append nodes (node ∷ []), ap length finds.split, length-append finds.front finds.back, finds.late_is) in
    let count : length nodes ≡ length finds.front + n = omega (arith, long, some) in
    record {
      front = finds.front;
      back = take n finds.back;
      split = sym (take-append_seam nodes (node ∷ []))
          ∙ ap (take (length nodes)) finds.split
          ∙ ap (λ k. take k (finds.front ++ finds.back)) count
          ∙ take-append-add finds.front finds.back n;
      late_is = omega (arith, length-take n finds.back, long, some, finds.late_is);
      knows = finds.knows;
    }

-- where no node is late, all are known
pub all_known : {S : Type 0} (known : HashMap Key Equals S) (late : ℕ) (nodes : Nodes) → late < 1 → Finds known late nodes → Knows known nodes
all_known known late nodes none finds = go finds.back finds.late_is finds.split
  where
    go : (back : Nodes) → length back ≡ late → nodes ≡ finds.front ++ back → Knows known nodes
    go [] count split = subst (Knows known) (sym (split ∙ append-nil finds.front)) finds.knows
    go (e ∷ back) count split = absurd (omega (arith, none, count))

pub finds_all : {S : Type 0} (known : HashMap Key Equals S) (late : ℕ) (nodes : Nodes) → late < 1 → Knows known nodes → Finds known late nodes
finds_all known late nodes none knows =
    record {
      front = nodes;
      back = [];
      split = sym (append-nil nodes);
      late_is = omega (arith, none);
      knows = knows;
    }

-- what is known of the message of the last node
pub last_known : {S : Type 0} (known : HashMap Key Equals S) (nodes : Nodes) (node : ℕ × Item) (m : Message) → node.1.message ≡ m → Knows known (nodes ++ node ∷ []) → get same_key known (key_of m) ≡ Some (one_more node.0 (equal_in m nodes))
last_known known nodes node m is knows =
    let same : same_message m node.1.message ≡ true = ap (same_message m) is ∙ same_message-refl m in
    knows m ∙ equal_pushed m nodes node.0 node.1 same

-- the nodes of a message are one at least
counted : (m : Message) (nodes : Nodes) (e : Equals) → equal_in m nodes ≡ Some e → 1 ≤ e.count
counted m nodes e is = let at = leaving m nodes e is in omega (arith, at.count)

-- of one node none is left
pub left_none : (m : Message) (nodes : Nodes) (index : ℕ) (e : Equals) → e.count < 2 → Some e ≡ Some (one_more index (equal_in m nodes)) → equal_in m nodes ≡ None
left_none m nodes index e few is = go (equal_in m nodes) refl
  where
    go : (o : Option Equals) → equal_in m nodes ≡ o → equal_in m nodes ≡ None
    go None none = none
    go (Some before) there =
        let same = same_Some e (one_more index (Some before)) (is ∙ ap (λ o. Some (one_more index o)) there) in
        let some = counted m nodes before there in
        absurd (omega (arith, few, some, ap (λ x. x.count) same))

-- of more nodes the first is left, and one less
pub left_some : (m : Message) (nodes : Nodes) (index : ℕ) (e : Equals) → 2 ≤ e.count → Some e ≡ Some (one_more index (equal_in m nodes)) → equal_in m nodes ≡ Some (record { first = e.first; count = e.count - 1 })
left_some m nodes index e many is = go (equal_in m nodes) refl
  where
    go : (o : Option Equals) → equal_in m nodes ≡ o → equal_in m nodes ≡ Some (record { first = e.first; count = e.count - 1 })
    go None none =
        let same = same_Some e (one_more index None) (is ∙ ap (λ o. Some (one_more index o)) none) in
        absurd (omega (arith, many, ap (λ x. x.count) same))
    go (Some before) there =
        let same = same_Some e (one_more index (Some before)) (is ∙ ap (λ o. Some (one_more index o)) there) in
        let count : before.count ≡ e.count - 1 = omega (arith, ap (λ x. x.count) same) in
        there
        ∙ ap (λ n. Some (record { first = before.first; count = n })) count
        ∙ ap (λ x. Some (record { first = x.first; count = e.count - 1 })) (sym same)

-- the map has what is left of the message
pub last_left : {S : Type 0} (known new : HashMap Key Equals S) (nodes : Nodes) (node : ℕ × Item) (m : Message) → node.1.message ≡ m → Knows known (nodes ++ node ∷ [])
    → ((q : Key) → get same_key new q ≡ cond (same_key (key_of m) q) (equal_in m nodes) (get same_key known q)) → Knows new nodes
last_left known new nodes node m here knows updates q =
    elim (cases_Bool (same_message q m)) [
      | inl is ↦
          updates (key_of q) ∙ cond-true (same_key (key_of m) (key_of q)) _ _ (same_keys m q ∙ is)
          ∙ ap (λ x. equal_in x nodes) (sym (same_message_is q m is))
      | inr not ↦
          updates (key_of q) ∙ cond-false (same_key (key_of m) (key_of q)) _ _ (same_keys m q ∙ not)
          ∙ knows q ∙ equal_beside q nodes node.0 node.1 (ap (same_message q) here ∙ not)
    ]

-- ---- The last nodes leave, one by one

-- the last k nodes of a list were sent before s and have left; the one before them comes next
pub record LastLeft {S : Type 0} (known : HashMap Key Equals S) (late s : ℕ) (l : Nodes) (k : ℕ) (at : Option ℕ) : Type 0 where
  pub front : Nodes
  pub walked : Nodes
  pub split : l ≡ front ++ walked
  pub count : length walked ≡ k
  pub at_is : at ≡ first_of (reverse front)
  pub finds : Finds known late front
  pub overdue : AreOverdue s walked

pub none_left : {S : Type 0} (known : HashMap Key Equals S) (late s : ℕ) (lists : List Nodes) (number : ℕ) (at : Option ℕ) → at ≡ first_of (list_at (backward lists) number) → Finds known late (list_at lists number) → LastLeft known late s (list_at lists number) 0 at
none_left known late s lists number at is finds =
    record {
      front = list_at lists number;
      walked = [];
      split = sym (append-nil (list_at lists number));
      count = refl;
      at_is = is ∙ ap first_of (backward_at lists number);
      finds = finds;
      overdue = tt;
    }

-- what is answered after k nodes
pub record Left {S : Type 0} (known : HashMap Key Equals S) (late s : ℕ) (l : Nodes) (k : ℕ) : Type 0 where
  pub within : k ≤ length l
  pub finds : Finds known late (take (length l - k) l)
  pub overdue : AreOverdue s (drop (length l - k) l)
  pub last : IsLastTimely s (take (length l - k) l)

left_by : {S : Type 0} (known : HashMap Key Equals S) (late s : ℕ) (l : Nodes) (k : ℕ) (at : Option ℕ) (w : LastLeft known late s l k at) → IsLastTimely s w.front → Left known late s l k
left_by known late s l k at w timely =
    let long = ap length w.split ∙ length-append w.front w.walked in
    let before : length l - k ≡ length w.front = omega (arith, long, w.count) in
    let taken : take (length l - k) l ≡ w.front = ap (λ n. take n l) before ∙ ap (take (length w.front)) w.split ∙ take-append_seam w.front w.walked in
    let dropped : drop (length l - k) l ≡ w.walked = ap (λ n. drop n l) before ∙ ap (drop (length w.front)) w.split ∙ drop-append_seam w.front w.walked in
    record {
      within = omega (arith, long, w.count);
      finds = subst (Finds known late) (sym taken) w.finds;
      overdue = subst (AreOverdue s) (sym dropped) w.overdue;
      last = subst (IsLastTimely s) (sym taken) timely;
    }

-- where all have left
pub left_all : {S : Type 0} (known : HashMap Key Equals S) (late s : ℕ) (l : Nodes) (k : ℕ) (at : Option ℕ) → length l ≤ k → LastLeft known late s l k at → Left known late s l k
left_all known late s l k at all w = left_by known late s l k at w (go w.front (omega (arith, ap length w.split, length-append w.front w.walked, w.count, all)))
  where
    go : (front : Nodes) → length front ≡ 0 → IsLastTimely s front
    go [] none = tt
    go (e ∷ front) none = absurd (omega (arith, none))

pub left_out : {S : Type 0} (known : HashMap Key Equals S) (late s : ℕ) (l : Nodes) (k : ℕ) → LastLeft known late s l k None → Left known late s l k
left_out known late s l k w = left_by known late s l k None w (subst (IsLastTimely s) (sym (last_none (w.front ∷ []) 0 (sym w.at_is))) tt)

last_timely : (s : ℕ) (nodes : Nodes) (node : ℕ × Item) → is_overdue node.1.message.stamp s ≡ false → IsLastTimely s (nodes ++ node ∷ [])
last_timely s [] node is = is
last_timely s (e ∷ []) node is = is
last_timely s (e ∷ next ∷ nodes) node is = last_timely s (next ∷ nodes) node is

-- the next one
pub record LastStep {S : Type 0} (known : HashMap Key Equals S) (late s : ℕ) (lists : List Nodes) (number k index : ℕ) : Type 0 where
  pub item : Item
  pub before : Nodes
  pub got : item_of index lists ≡ Some item
  pub finds : Finds known late (before ++ (index, item) ∷ [])
  pub done : is_overdue item.message.stamp s ≡ false → Left known late s (list_at lists number) k
  pub on : (new : HashMap Key Equals S) (later : ℕ) → is_overdue item.message.stamp s ≡ true → Finds new later before → LastLeft new later s (list_at lists number) (k + 1) (next_of index (backward lists))

pub last_step : {S : Type 0} (known : HashMap Key Equals S) (late s : ℕ) (lists : List Nodes) (number k index : ℕ) → AreDistinct lists → number < length lists → LastLeft known late s (list_at lists number) k (Some index) → LastStep known late s lists number k index
last_step known late s lists number k index distinct within w =
    let at = last_of (w.front ∷ []) 0 index (sym w.at_is) in
    let split : list_at lists number ≡ at.before ++ (index, at.item) ∷ w.walked = w.split ∙ ap (λ f. f ++ w.walked) at.split ∙ append_assoc at.before ((index, at.item) ∷ []) w.walked in
    record {
      item = at.item;
      before = at.before;
      got = item_is lists index number at.item at.before w.walked distinct within split;
      finds = subst (Finds known late) at.split w.finds;
      done = λ timely. left_by known late s (list_at lists number) k (Some index) w (subst (IsLastTimely s) (sym at.split) (last_timely s at.before (index, at.item) timely));
      on = λ new later due finds. record {
        front = at.before;
        walked = (index, at.item) ∷ w.walked;
        split = split;
        count = omega (arith, w.count);
        at_is = prev_is lists number index at.item at.before w.walked distinct within split;
        finds = finds;
        overdue = (due, w.overdue);
      };
    }
