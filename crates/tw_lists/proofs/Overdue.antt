-- Owed nodes that were sent before a stamp, read from the end and from the front.
use Rattle.std.proofs.Common.{◌≡◌, ℕ, ◌+◌, ◌-◌, ◌<◌, ◌≤◌, true, false, List, [], ◌∷◌, ◌++◌, length, map, reverse, Option, Some, None, IfSome, cond, refl, sym, ap, subst, ◌∙◌, arith, append-nil, append_assoc, length-append}
use Rattle.std.proofs.lemmas.Bool.{cond-false, ltb-false, le-ltb}
use Rattle.std.proofs.lemmas.Option.{same_Some}
use Rattle.std.proofs.lemmas.List.{map-append, nil_from_length}
use Rattle.tw_pool.specs.Lists.{list_at, item_of, IsLive, first_of, next_of, backward, AreDistinct}
use Rattle.tw_pool.proofs.ListsByIndex.{item_is, item_live, next_is, prev_is, last_of, backward_at}
use Rattle.tw_msgs.specs.declared.message.Message.{Message}
use Rattle.tw_msgs.specs.declared.message.Item.{Item}
use Rattle.tw_vtime.specs.Stamps.{is_overdue}
use Rattle.tw_theory.specs.Bundles.{overdue}
use Rattle.tw_lists.specs.Falling.{AreUpTo, IsFalling, NoneBefore}
use Rattle.tw_lists.specs.Lists.{Nodes, message_at}
use Rattle.tw_lists.specs.Nodes.{overdue_nodes}
use Rattle.tw_lists.proofs.Owing.{ended_owed, overdue-append, overdue_messages}

-- ---- Where the stamps fall

-- what is not overdue at a stamp is not at a later one
timely_above : (s x y : ℕ) → y ≤ x → is_overdue y s ≡ false → is_overdue x s ≡ false
timely_above s x y up timely = let far = ltb-false (y - 1) s timely in le-ltb (x - 1) s (omega (arith, up, far))

up_to_there : (s : ℕ) (a : Nodes) (node : ℕ × Item) (b : Nodes) → AreUpTo s (a ++ node ∷ b) → node.1.message.stamp ≤ s
up_to_there s [] node b up = up.0
up_to_there s (e ∷ a) node b up = up_to_there s a node b up.1

-- none is overdue up to one that is not
pub timely_up_to : (s : ℕ) (a : Nodes) (node : ℕ × Item) (b : Nodes) → IsFalling (a ++ node ∷ b) → is_overdue node.1.message.stamp s ≡ false → overdue_nodes s (a ++ node ∷ []) ≡ []
timely_up_to s [] node b falling timely = cond-false (is_overdue node.1.message.stamp s) _ _ timely
timely_up_to s (e ∷ a) node b falling timely =
    cond-false (is_overdue e.1.message.stamp s) _ _ (timely_above s e.1.message.stamp node.1.message.stamp (up_to_there e.1.message.stamp a node b falling.0) timely)
    ∙ timely_up_to s a node b falling.1 timely

-- ---- From the end

-- the last k nodes were read: the first of them, and the one before it
pub record ReadBack (l : Nodes) (k : ℕ) (first before : Option ℕ) : Type 0 where
  pub front : Nodes
  pub read : Nodes
  pub split : l ≡ front ++ read
  pub count : length read ≡ k
  pub first_is : first ≡ first_of read
  pub before_is : before ≡ first_of (reverse front)

pub back_begun : (lists : List Nodes) (number : ℕ) (before : Option ℕ) → before ≡ first_of (list_at (backward lists) number) → ReadBack (list_at lists number) 0 None before
back_begun lists number before is =
    record {
      front = list_at lists number;
      read = [];
      split = sym (append-nil (list_at lists number));
      count = refl;
      first_is = refl;
      before_is = is ∙ ap first_of (backward_at lists number);
    }

-- the next one
pub record BackStep (s : ℕ) (lists : List Nodes) (number k index : ℕ) (first : Option ℕ) : Type 0 where
  pub item : Item
  pub got : item_of index lists ≡ Some item
  pub timely : IsFalling (list_at lists number) → is_overdue item.message.stamp s ≡ false → NoneBefore s first (list_at lists number)
  pub on : ReadBack (list_at lists number) (k + 1) (Some index) (next_of index (backward lists))

pub back_step : (s : ℕ) (lists : List Nodes) (number k index : ℕ) (first : Option ℕ) → AreDistinct lists → number < length lists → ReadBack (list_at lists number) k first (Some index) → BackStep s lists number k index first
back_step s lists number k index first distinct within w =
    let at = last_of (w.front ∷ []) 0 index (sym w.before_is) in
    let split : list_at lists number ≡ at.before ++ (index, at.item) ∷ w.read = w.split ∙ ap (λ f. f ++ w.read) at.split ∙ append_assoc at.before ((index, at.item) ∷ []) w.read in
    record {
      item = at.item;
      got = item_is lists index number at.item at.before w.read distinct within split;
      timely = λ falling late. record {
        seen = w.front;
        rest = w.read;
        split = w.split;
        at_is = w.first_is;
        none = ap (overdue_nodes s) at.split ∙ timely_up_to s at.before (index, at.item) w.read (subst IsFalling split falling) late;
      };
      on = record {
        front = at.before;
        read = (index, at.item) ∷ w.read;
        split = split;
        count = omega (arith, w.count);
        first_is = refl;
        before_is = prev_is lists number index at.item at.before w.read distinct within split;
      };
    }

-- ---- From the front

-- the overdue ones were read of those before `at`, and there are not more than so many turns left
pub record ReadOn (s : ℕ) (l : Nodes) (k : ℕ) (at : Option ℕ) (messages : List Message) : Type 0 where
  pub seen : Nodes
  pub rest : Nodes
  pub split : l ≡ seen ++ rest
  pub far : length rest + k ≤ length l
  pub at_is : at ≡ first_of rest
  pub all : messages ≡ overdue s (map message_at seen)

pub on_begun : (s : ℕ) (l : Nodes) (at : Option ℕ) → NoneBefore s at l → ReadOn s l 0 at []
on_begun s l at w =
    record {
      seen = w.seen;
      rest = w.rest;
      split = w.split;
      far = omega (arith, ap length w.split, length-append w.seen w.rest);
      at_is = w.at_is;
      all = sym (ap (map message_at) w.none) ∙ (overdue_messages s w.seen).0;
    }

pub on_live : (s : ℕ) (lists : List Nodes) (number k : ℕ) (at : Option ℕ) (messages : List Message) → AreDistinct lists → number < length lists → ReadOn s (list_at lists number) k at messages → IfSome at (λ index. IsLive index lists)
on_live s lists number k at messages distinct within w = subst (λ o. IfSome o (λ index. IsLive index lists)) (sym w.at_is) (go w.rest w.split)
  where
    go : (rest : Nodes) → list_at lists number ≡ w.seen ++ rest → IfSome (first_of rest) (λ index. IsLive index lists)
    go [] split = tt
    go (e ∷ rest) split = item_live lists e.0 e.1 (item_is lists e.0 number e.1 w.seen rest distinct within split)

-- the next one
pub record OnStep (s : ℕ) (lists : List Nodes) (number k index : ℕ) (messages : List Message) : Type 0 where
  pub item : Item
  pub got : item_of index lists ≡ Some item
  pub due : is_overdue item.message.stamp s ≡ true → ReadOn s (list_at lists number) (k + 1) (next_of index lists) (messages ++ item.message ∷ [])
  pub early : is_overdue item.message.stamp s ≡ false → ReadOn s (list_at lists number) (k + 1) (next_of index lists) messages

pub on_step : (s : ℕ) (lists : List Nodes) (number k index : ℕ) (messages : List Message) → AreDistinct lists → number < length lists → ReadOn s (list_at lists number) k (Some index) messages → OnStep s lists number k index messages
on_step s lists number k index messages distinct within w = go w.rest w.at_is w.split w.far
  where
    l : Nodes
    l = list_at lists number

    go : (rest : Nodes) → Some index ≡ first_of rest → l ≡ w.seen ++ rest → length rest + k ≤ length l → OnStep s lists number k index messages
    go [] is split far = absurd (cc is)
    go (e ∷ rest) is split far =
        let same : e.0 ≡ index = sym (same_Some index e.0 is) in
        let node : ℕ × Item = (index, e.1) in
        let place : l ≡ w.seen ++ node ∷ rest = split ∙ ap (λ j. w.seen ++ (j, e.1) ∷ rest) same in
        let messages_is : map message_at (overdue_nodes s w.seen) ≡ messages = (overdue_messages s w.seen).0 ∙ sym w.all in
        let parts : overdue s (map message_at (w.seen ++ node ∷ [])) ≡ messages ++ map message_at (overdue_nodes s (node ∷ [])) =
        sym (overdue_messages s (w.seen ++ node ∷ [])).0
        ∙ ap (map message_at) (overdue-append s w.seen (node ∷ [])).0
        ∙ map-append message_at (overdue_nodes s w.seen) (overdue_nodes s (node ∷ []))
        ∙ ap (λ x. x ++ map message_at (overdue_nodes s (node ∷ []))) messages_is in
        let further : (more : List Message) → more ≡ overdue s (map message_at (w.seen ++ node ∷ [])) → ReadOn s l (k + 1) (next_of index lists) more =
        λ more all. record {
          seen = w.seen ++ node ∷ [];
          rest = rest;
          split = place ∙ sym (append_assoc w.seen (node ∷ []) rest);
          far = omega (arith, far);
          at_is = next_is lists number index e.1 w.seen rest distinct within place;
          all = all;
        } in
        record {
          item = e.1;
          got = item_is lists index number e.1 w.seen rest distinct within place;
          due = λ t. further (messages ++ e.1.message ∷ []) (sym (parts ∙ ap (λ b. messages ++ map message_at (cond b (node ∷ []) [])) t));
          early = λ f. further messages (sym (parts ∙ ap (λ b. messages ++ map message_at (cond b (node ∷ []) [])) f ∙ append-nil messages));
        }

-- all was read where nothing is left
on_whole : (s : ℕ) (l : Nodes) (k : ℕ) (at : Option ℕ) (messages : List Message) → (w : ReadOn s l k at messages) → w.rest ≡ [] → messages ≡ overdue s (map message_at l)
on_whole s l k at messages w none = w.all ∙ ap (λ x. overdue s (map message_at x)) (sym (w.split ∙ ap (λ r. w.seen ++ r) none ∙ append-nil w.seen))

pub on_past : (s : ℕ) (l : Nodes) (k : ℕ) (at : Option ℕ) (messages : List Message) → length l ≤ k → ReadOn s l k at messages → messages ≡ overdue s (map message_at l)
on_past s l k at messages past w = on_whole s l k at messages w (nil_from_length w.rest (omega (arith, past, w.far)))

pub on_ended : (s : ℕ) (l : Nodes) (k : ℕ) (at : Option ℕ) (messages : List Message) → at ≡ None → ReadOn s l k at messages → messages ≡ overdue s (map message_at l)
on_ended s l k at messages none w = on_whole s l k at messages w (ended_owed w.rest 0 (sym none ∙ w.at_is)).now
