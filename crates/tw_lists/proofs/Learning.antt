-- What a finder knows of a list, as the list grows and loses the first node of a message.
use Rattle.std.proofs.Common.{◌≡◌, ℕ, ◌+◌, ◌-◌, ◌==◌, ◌<◌, ◌≤◌, Bool, true, false, List, [], ◌∷◌, ◌++◌, length, map, drop, Option, Some, None, Result, Ok, Err, OnOk, OnErr, cond, refl, sym, ap, ◌∙◌, inl, inr, arith, append-nil, append_assoc, length-append}
use Rattle.std.proofs.lemmas.Bool.{cases_Bool, eq-eqb, ne_eqb, cond-true, cond-false}
use Rattle.std.proofs.lemmas.List.{map-append}
use Rattle.std.proofs.lemmas.Option.{same_Some}
use Rattle.std.specs.HashMap.{get, HashMap}
use Rattle.tw_pool.specs.Lists.{list_at, item_of, first_of, next_of, without as without_node, AreDistinct, Lacks}
use Rattle.tw_pool.proofs.ListsByIndex.{item_is, next_is}
use Rattle.tw_pool.proofs.ListsSeen.{lacks_left}
use Rattle.tw_msgs.specs.Counting.{total, one_at}
use Rattle.tw_msgs.specs.Messages.{same_message}
use Rattle.tw_msgs.specs.declared.message.Message.{Message}
use Rattle.tw_msgs.specs.declared.message.Item.{Item}
use Rattle.tw_msgs.proofs.Messages.{same_message_is, same_fields-is}
use Rattle.tw_msgs.proofs.Totals.{total-append}
use Rattle.tw_lists.specs.Finders.{Finds, Knows, behind, equal_in, key_of, same_key}
use Rattle.tw_lists.specs.Lists.{Nodes, message_at}
use Rattle.tw_lists.specs.Nodes.{index_of}
use Rattle.tw_lists.proofs.Finding.{found_at}
use Rattle.tw_lists.proofs.Comings.{less}
use Rattle.tw_lists.specs.declared.finder.Key.{Key}
use Rattle.tw_lists.specs.declared.finder.Equals.{Equals}

-- the keys of two messages are the same where the messages are
pub same_keys : (x m : Message) → same_key (key_of x) (key_of m) ≡ same_message m x
same_keys x m = same_fields-is x m

-- ---- One more node

-- with one more node of a message behind what is known
abbrev pub one_more : ℕ → Option Equals → Equals
one_more index None = record { first = index; count = 1 }
one_more index (Some e) = record { first = e.first; count = e.count + 1 }

pub equal_there : (m : Message) (node : ℕ × Item) (nodes : Nodes) → same_message m node.1.message ≡ true → equal_in m (node ∷ nodes) ≡ Some (record { first = node.0; count = 1 + total (one_at m) (map message_at nodes) })
equal_there m node nodes is = cond-true (same_message m node.1.message) _ _ is

pub equal_behind : (m : Message) (node : ℕ × Item) (nodes : Nodes) → same_message m node.1.message ≡ false → equal_in m (node ∷ nodes) ≡ equal_in m nodes
equal_behind m node nodes not = cond-false (same_message m node.1.message) _ _ not

pub equal_pushed : (m : Message) (nodes : Nodes) (index : ℕ) (item : Item) → same_message m item.message ≡ true → equal_in m (nodes ++ (index, item) ∷ []) ≡ Some (one_more index (equal_in m nodes))
equal_pushed m [] index item same = equal_there m (index, item) [] same
equal_pushed m (e ∷ nodes) index item same =
    elim (cases_Bool (same_message m e.1.message)) [
      | inl is ↦
          let weighed : one_at m item.message ≡ 1 = cond-true (same_message m item.message) 1 0 same in
          let count : 1 + total (one_at m) (map message_at (nodes ++ (index, item) ∷ [])) ≡ 1 + total (one_at m) (map message_at nodes) + 1 =
          (let joined = ap (total (one_at m)) (map-append message_at nodes ((index, item) ∷ [])) ∙ total-append (one_at m) (map message_at nodes) (item.message ∷ []) in omega (arith, joined, weighed)) in
          equal_there m e (nodes ++ (index, item) ∷ []) is
          ∙ ap (λ n. Some (record { first = e.0; count = n })) count
          ∙ sym (ap (λ o. Some (one_more index o)) (equal_there m e nodes is))
      | inr not ↦
          equal_behind m e (nodes ++ (index, item) ∷ []) not ∙ equal_pushed m nodes index item same ∙ sym (ap (λ o. Some (one_more index o)) (equal_behind m e nodes not))
    ]

pub equal_beside : (m : Message) (nodes : Nodes) (index : ℕ) (item : Item) → same_message m item.message ≡ false → equal_in m (nodes ++ (index, item) ∷ []) ≡ equal_in m nodes
equal_beside m [] index item other = equal_behind m (index, item) [] other
equal_beside m (e ∷ nodes) index item other =
    elim (cases_Bool (same_message m e.1.message)) [
      | inl is ↦
          let weighed : one_at m item.message ≡ 0 = cond-false (same_message m item.message) 1 0 other in
          let count : 1 + total (one_at m) (map message_at (nodes ++ (index, item) ∷ [])) ≡ 1 + total (one_at m) (map message_at nodes) =
          (let joined = ap (total (one_at m)) (map-append message_at nodes ((index, item) ∷ [])) ∙ total-append (one_at m) (map message_at nodes) (item.message ∷ []) in omega (arith, joined, weighed)) in
          equal_there m e (nodes ++ (index, item) ∷ []) is
          ∙ ap (λ n. Some (record { first = e.0; count = n })) count
          ∙ sym (equal_there m e nodes is)
      | inr not ↦ equal_behind m e (nodes ++ (index, item) ∷ []) not ∙ equal_beside m nodes index item other ∙ sym (equal_behind m e nodes not)
    ]

pub knows_more : {S : Type 0} (known new : HashMap Key Equals S) (nodes : Nodes) (index : ℕ) (item : Item) → Knows known nodes
    → ((q : Key) → get same_key new q ≡ cond (same_key (key_of item.message) q) (Some (one_more index (get same_key known (key_of item.message)))) (get same_key known q))
    → Knows new (nodes ++ (index, item) ∷ [])
knows_more known new nodes index item knows updates m =
    elim (cases_Bool (same_message m item.message)) [
      | inl is ↦
          let same = same_message_is m item.message is in
          updates (key_of m) ∙ cond-true (same_key (key_of item.message) (key_of m)) _ _ (same_keys item.message m ∙ is)
          ∙ ap (λ x. Some (one_more index (get same_key known (key_of x)))) (sym same)
          ∙ ap (λ o. Some (one_more index o)) (knows m)
          ∙ sym (equal_pushed m nodes index item is)
      | inr not ↦
          updates (key_of m) ∙ cond-false (same_key (key_of item.message) (key_of m)) _ _ (same_keys item.message m ∙ not)
          ∙ knows m ∙ sym (equal_beside m nodes index item not)
    ]

-- ---- What was looked up

pub equal_index : (m : Message) (nodes : Nodes) (e : Equals) → equal_in m nodes ≡ Some e → index_of m nodes ≡ Some e.first
equal_index m [] e is = absurd (cc is)
equal_index m (node ∷ nodes) e is =
    elim (cases_Bool (same_message m node.1.message)) [
      | inl same ↦
          let one : Some (record { first = node.0; count = 1 + total (one_at m) (map message_at nodes) }) ≡ Some e = sym (equal_there m node nodes same) ∙ is in
          cond-true (same_message m node.1.message) _ _ same ∙ ap (λ x. Some x.first) (same_Some _ e one)
      | inr other ↦ cond-false (same_message m node.1.message) _ _ other ∙ equal_index m nodes e (sym (equal_behind m node nodes other) ∙ is)
    ]

pub none_index : (m : Message) (nodes : Nodes) → equal_in m nodes ≡ None → index_of m nodes ≡ None
none_index m [] is = refl
none_index m (node ∷ nodes) is =
    elim (cases_Bool (same_message m node.1.message)) [
      | inl same ↦ let one = sym (equal_there m node nodes same) ∙ is in absurd (cc one)
      | inr other ↦ cond-false (same_message m node.1.message) _ _ other ∙ none_index m nodes (sym (equal_behind m node nodes other) ∙ is)
    ]

pub index_in_front : (m : Message) (front back : Nodes) (index : ℕ) → index_of m front ≡ Some index → index_of m (front ++ back) ≡ Some index
index_in_front m [] back index is = absurd (cc is)
index_in_front m (node ∷ front) back index is =
    elim (cases_Bool (same_message m node.1.message)) [
      | inl same ↦ cond-true (same_message m node.1.message) _ _ same ∙ sym (cond-true (same_message m node.1.message) _ _ same) ∙ is
      | inr other ↦ cond-false (same_message m node.1.message) _ _ other ∙ index_in_front m front back index (sym (cond-false (same_message m node.1.message) _ _ other) ∙ is)
    ]

-- the first is the one that is known
pub first_known : {S : Type 0} (known : HashMap Key Equals S) (late : ℕ) (nodes : Nodes) (m : Message) (e : Equals) → Finds known late nodes → get same_key known (key_of m) ≡ Some e → index_of m nodes ≡ Some e.first
first_known known late nodes m e finds got =
    ap (index_of m) finds.split ∙ index_in_front m finds.front finds.back e.first (equal_index m finds.front e (sym (finds.knows m) ∙ got))

-- there is none, where all is known
pub none_known : {S : Type 0} (known : HashMap Key Equals S) (nodes : Nodes) (m : Message) → Finds known 0 nodes → get same_key known (key_of m) ≡ None → index_of m nodes ≡ None
none_known known nodes m finds got = go finds.back finds.late_is finds.split
  where
    go : (back : Nodes) → length back ≡ 0 → nodes ≡ finds.front ++ back → index_of m nodes ≡ None
    go [] none split = ap (index_of m) (split ∙ append-nil finds.front) ∙ none_index m finds.front (sym (finds.knows m) ∙ got)
    go (e ∷ back) none split = absurd (omega (arith, none))

-- ---- Late nodes are learned

-- the first of the late nodes comes next
pub record FindsAt {S : Type 0} (known : HashMap Key Equals S) (late : ℕ) (nodes : Nodes) (at : Option ℕ) : Type 0 where
  pub front : Nodes
  pub back : Nodes
  pub split : nodes ≡ front ++ back
  pub late_is : length back ≡ late
  pub knows : Knows known front
  pub at_is : at ≡ first_of back

pub finds_from : {S : Type 0} (known : HashMap Key Equals S) (late : ℕ) (nodes : Nodes) (at : Option ℕ) → Finds known late nodes → at ≡ first_of (drop (length nodes - late) nodes) → FindsAt known late nodes at
finds_from known late nodes at finds is =
    let before : length nodes - late ≡ length finds.front = omega (arith, ap length finds.split, length-append finds.front finds.back, finds.late_is) in
    let rest : drop (length nodes - late) nodes ≡ finds.back = ap (λ n. drop n nodes) before ∙ ap (drop (length finds.front)) finds.split ∙ drop_front finds.front finds.back in
    record { front = finds.front; back = finds.back; split = finds.split; late_is = finds.late_is; knows = finds.knows; at_is = is ∙ ap first_of rest }
  where
    drop_front : (xs ys : Nodes) → drop (length xs) (xs ++ ys) ≡ ys
    drop_front [] ys = refl
    drop_front (x ∷ xs) ys = drop_front xs ys

pub finds_as : {S : Type 0} (known : HashMap Key Equals S) (late : ℕ) (nodes : Nodes) (at : Option ℕ) → FindsAt known late nodes at → Finds known late nodes
finds_as known late nodes at w = record { front = w.front; back = w.back; split = w.split; late_is = w.late_is; knows = w.knows }

pub record LearnStep {S : Type 0} (known : HashMap Key Equals S) (late : ℕ) (lists : List Nodes) (number index : ℕ) : Type 0 where
  pub item : Item
  pub front : Nodes
  pub got : item_of index lists ≡ Some item
  pub some : 1 ≤ late
  pub knows : Knows known front
  pub same : (new : HashMap Key Equals S) → Knows new front → Finds new late (list_at lists number)
  pub more : (new : HashMap Key Equals S) → Knows new (front ++ (index, item) ∷ []) → FindsAt new (late - 1) (list_at lists number) (next_of index lists)

pub learn_step : {S : Type 0} (known : HashMap Key Equals S) (late : ℕ) (lists : List Nodes) (number index : ℕ) → AreDistinct lists → number < length lists → FindsAt known late (list_at lists number) (Some index) → LearnStep known late lists number index
learn_step {S} known late lists number index distinct within w = go w.back w.at_is w.split w.late_is
  where
    go : (back : Nodes) → Some index ≡ first_of back → list_at lists number ≡ w.front ++ back → length back ≡ late → LearnStep known late lists number index
    go [] is split count = absurd (cc is)
    go (e ∷ rest) is split count =
        let same : e.0 ≡ index = sym (same_Some index e.0 is) in
        let here : list_at lists number ≡ w.front ++ (index, e.1) ∷ rest = split ∙ ap (λ k. w.front ++ (k, e.1) ∷ rest) same in
        record {
          item = e.1;
          front = w.front;
          got = item_is lists index number e.1 w.front rest distinct within here;
          some = omega (arith, count);
          knows = w.knows;
          same = λ new knows. record { front = w.front; back = e ∷ rest; split = split; late_is = count; knows = knows };
          more = λ new knows. record {
            front = w.front ++ (index, e.1) ∷ [];
            back = rest;
            split = here ∙ sym (append_assoc w.front ((index, e.1) ∷ []) rest);
            late_is = omega (arith, count);
            knows = knows;
            at_is = next_is lists number index e.1 w.front rest distinct within here;
          };
        }

-- ---- The next node of a message

-- what is ahead has what is looked for
pub record Ahead (m : Message) (l : Nodes) (index k : ℕ) (at : Option ℕ) : Type 0 where
  pub seen : Nodes
  pub rest : Nodes
  pub split : l ≡ seen ++ rest
  pub far : length rest + k ≤ length l
  pub at_is : at ≡ first_of rest
  pub still : index_of m (behind index l) ≡ index_of m rest

behind_is : (index : ℕ) (item : Item) (a b : Nodes) → Lacks (Some index) a → behind index (a ++ (index, item) ∷ b) ≡ b
behind_is index item [] b lacks = cond-true (index == index) _ _ (eq-eqb index index refl)
behind_is index item (e ∷ a) b lacks = cond-false (e.0 == index) _ _ (ne_eqb e.0 index (λ same. lacks.0 (ap Some same))) ∙ behind_is index item a b lacks.1

pub ahead_of : (m : Message) (lists : List Nodes) (number index : ℕ) → AreDistinct lists → number < length lists → index_of m (list_at lists number) ≡ Some index → Ahead m (list_at lists number) index 0 (next_of index lists)
ahead_of m lists number index distinct within is =
    let at = found_at m (list_at lists number) index is in
    let alone = distinct number at.before index at.item at.behind at.split in
    record {
      seen = at.before ++ (index, at.item) ∷ [];
      rest = at.behind;
      split = at.split ∙ sym (append_assoc at.before ((index, at.item) ∷ []) at.behind);
      far = omega (arith, ap length at.split, length-append at.before ((index, at.item) ∷ at.behind));
      at_is = next_is lists number index at.item at.before at.behind distinct within at.split;
      still = ap (index_of m) (ap (behind index) at.split ∙ behind_is index at.item at.before at.behind (lacks_left (Some index) at.before at.behind alone.0));
    }

pub record AheadStep (m : Message) (lists : List Nodes) (number index k next : ℕ) : Type 0 where
  pub item : Item
  pub got : item_of next lists ≡ Some item
  pub here : same_message m item.message ≡ true → index_of m (behind index (list_at lists number)) ≡ Some next
  pub on : same_message m item.message ≡ false → Ahead m (list_at lists number) index (k + 1) (next_of next lists)

pub ahead_step : (m : Message) (lists : List Nodes) (number index k next : ℕ) → AreDistinct lists → number < length lists → Ahead m (list_at lists number) index k (Some next) → AheadStep m lists number index k next
ahead_step m lists number index k next distinct within w = go w.rest w.at_is w.split w.far w.still
  where
    l : Nodes
    l = list_at lists number

    go : (rest : Nodes) → Some next ≡ first_of rest → l ≡ w.seen ++ rest → length rest + k ≤ length l → index_of m (behind index l) ≡ index_of m rest → AheadStep m lists number index k next
    go [] is split far still = absurd (cc is)
    go (e ∷ rest) is split far still =
        let same : e.0 ≡ next = sym (same_Some next e.0 is) in
        let place : l ≡ w.seen ++ (next, e.1) ∷ rest = split ∙ ap (λ j. w.seen ++ (j, e.1) ∷ rest) same in
        record {
          item = e.1;
          got = item_is lists next number e.1 w.seen rest distinct within place;
          here = λ t. still ∙ cond-true (same_message m e.1.message) _ _ t ∙ ap Some same;
          on = λ f. record {
            seen = w.seen ++ (next, e.1) ∷ [];
            rest = rest;
            split = place ∙ sym (append_assoc w.seen ((next, e.1) ∷ []) rest);
            far = omega (arith, far);
            at_is = next_is lists number next e.1 w.seen rest distinct within place;
            still = still ∙ cond-false (same_message m e.1.message) _ _ f;
          };
        }

pub ahead_none : (m : Message) (l : Nodes) (index k : ℕ) → Ahead m l index k None → index_of m (behind index l) ≡ None
ahead_none m l index k w = go w.rest w.at_is w.still
  where
    go : (rest : Nodes) → None ≡ first_of rest → index_of m (behind index l) ≡ index_of m rest → index_of m (behind index l) ≡ None
    go [] is still = still
    go (e ∷ rest) is still = absurd (cc is)

pub ahead_end : (m : Message) (l : Nodes) (index : ℕ) (at : Option ℕ) → Ahead m l index (length l) at → index_of m (behind index l) ≡ None
ahead_end m l index at w = go w.rest w.far w.still
  where
    go : (rest : Nodes) → length rest + length l ≤ length l → index_of m (behind index l) ≡ index_of m rest → index_of m (behind index l) ≡ None
    go [] far still = still
    go (e ∷ rest) far still = absurd (omega (arith, far))

-- ---- The first node of a message leaves

pub index_past : (m : Message) (front back : Nodes) → index_of m front ≡ None → index_of m (front ++ back) ≡ index_of m back
index_past m [] back none = refl
index_past m (node ∷ front) back none =
    elim (cases_Bool (same_message m node.1.message)) [
      | inl same ↦ let some = sym (cond-true (same_message m node.1.message) _ _ same) ∙ none in absurd (cc some)
      | inr other ↦ cond-false (same_message m node.1.message) _ _ other ∙ index_past m front back (sym (cond-false (same_message m node.1.message) _ _ other) ∙ none)
    ]

-- of what is known the first node of m leaves: b has the others
pub record Leaving (m : Message) (front : Nodes) (e : Equals) : Type 0 where
  pub a : Nodes
  pub item : Item
  pub b : Nodes
  pub split : front ≡ a ++ (e.first, item) ∷ b
  pub count : e.count ≡ 1 + total (one_at m) (map message_at b)
  pub mine : equal_in m (a ++ b) ≡ equal_in m b
  pub totals : (q : Message) → same_message q m ≡ false → total (one_at q) (map message_at (a ++ b)) ≡ total (one_at q) (map message_at front)
  pub others : (q : Message) → same_message q m ≡ false → equal_in q (a ++ b) ≡ equal_in q front

pub leaving : (m : Message) (front : Nodes) (e : Equals) → equal_in m front ≡ Some e → Leaving m front e
leaving m [] e is = absurd (cc is)
leaving m (node ∷ rest) e is = go (λ i. leaving m rest e i) (same_message m node.1.message) refl
  where
    go : (equal_in m rest ≡ Some e → Leaving m rest e) → (t : Bool) → same_message m node.1.message ≡ t → Leaving m (node ∷ rest) e
    go later true same =
        let one : record { first = node.0; count = 1 + total (one_at m) (map message_at rest) } ≡ e = same_Some _ e (sym (equal_there m node rest same) ∙ is) in
        let other : (q : Message) → same_message q m ≡ false → same_message q node.1.message ≡ false = λ q differs. ap (same_message q) (sym (same_message_is m node.1.message same)) ∙ differs in
        record {
          a = [];
          item = node.1;
          b = rest;
          split = ap (λ x. (x.first, node.1) ∷ rest) one;
          count = sym (ap (λ x. x.count) one);
          mine = refl;
          totals = λ q differs. let none = cond-false {A = ℕ} (same_message q node.1.message) 1 0 (other q differs) in omega (arith, none);
          others = λ q differs. sym (equal_behind q node rest (other q differs));
        }
    go later false differs =
        let more = later (sym (equal_behind m node rest differs) ∙ is) in
        record {
          a = node ∷ more.a;
          item = more.item;
          b = more.b;
          split = ap (λ l. node ∷ l) more.split;
          count = more.count;
          mine = equal_behind m node (more.a ++ more.b) differs ∙ more.mine;
          totals = λ q apart. ap (λ n. one_at q node.1.message + n) (more.totals q apart);
          others = λ q apart.
              elim (cases_Bool (same_message q node.1.message)) [
                | inl here ↦
                    equal_there q node (more.a ++ more.b) here
                    ∙ ap (λ n. Some (record { first = node.0; count = 1 + n })) (more.totals q apart)
                    ∙ sym (equal_there q node rest here)
                | inr not ↦ equal_behind q node (more.a ++ more.b) not ∙ more.others q apart ∙ sym (equal_behind q node rest not)
              ];
        }

-- none of a message, where the count is zero, and else the first of them and their count
pub equal_none : (m : Message) (nodes : Nodes) → total (one_at m) (map message_at nodes) ≡ 0 → equal_in m nodes ≡ None
equal_none m [] none = refl
equal_none m (node ∷ nodes) none =
    elim (cases_Bool (same_message m node.1.message)) [
      | inl same ↦ let one = cond-true {A = ℕ} (same_message m node.1.message) 1 0 same in absurd (omega (arith, one, none))
      | inr other ↦ equal_behind m node nodes other ∙ equal_none m nodes (omega (arith, none))
    ]

pub equal_some : (m : Message) (nodes : Nodes) (first : ℕ) → index_of m nodes ≡ Some first → equal_in m nodes ≡ Some (record { first = first; count = total (one_at m) (map message_at nodes) })
equal_some m [] first is = absurd (cc is)
equal_some m (node ∷ nodes) first is =
    elim (cases_Bool (same_message m node.1.message)) [
      | inl same ↦
          let one = cond-true {A = ℕ} (same_message m node.1.message) 1 0 same in
          let here : node.0 ≡ first = same_Some node.0 first (sym (cond-true (same_message m node.1.message) _ _ same) ∙ is) in
          let count : 1 + total (one_at m) (map message_at nodes) ≡ total (one_at m) (map message_at (node ∷ nodes)) = omega (arith, one) in
          equal_there m node nodes same ∙ ap (λ k. Some (record { first = k; count = 1 + total (one_at m) (map message_at nodes) })) here ∙ ap (λ n. Some (record { first = first; count = n })) count
      | inr other ↦
          let one = cond-false {A = ℕ} (same_message m node.1.message) 1 0 other in
          let count : total (one_at m) (map message_at nodes) ≡ total (one_at m) (map message_at (node ∷ nodes)) = omega (arith, one) in
          equal_behind m node nodes other
          ∙ equal_some m nodes first (sym (cond-false (same_message m node.1.message) _ _ other) ∙ is)
          ∙ ap (λ n. Some (record { first = first; count = n })) count
    ]

pub index_there : (m : Message) (nodes : Nodes) → 1 ≤ total (one_at m) (map message_at nodes) → index_of m nodes ≡ None → ⊥
index_there m [] some none = omega (arith, some)
index_there m (node ∷ nodes) some none =
    elim (cases_Bool (same_message m node.1.message)) [
      | inl same ↦ let one = sym (cond-true (same_message m node.1.message) _ _ same) ∙ none in cc one
      | inr other ↦
          let weight = cond-false {A = ℕ} (same_message m node.1.message) 1 0 other in
          index_there m nodes (omega (arith, some, weight)) (sym (cond-false (same_message m node.1.message) _ _ other) ∙ none)
    ]

-- a late node leaves
pub record LeftLate {S : Type 0} (known : HashMap Key Equals S) (late : ℕ) (nodes : Nodes) : Type 0 where
  pub some : 1 ≤ late
  pub finds : Finds known (late - 1) nodes

pub left_late : {S : Type 0} (known : HashMap Key Equals S) (late : ℕ) (lists : List Nodes) (number index : ℕ) (m : Message) → AreDistinct lists → number < length lists → Finds known late (list_at lists number)
    → index_of m (list_at lists number) ≡ Some index → get same_key known (key_of m) ≡ None → LeftLate known late (list_at (without_node index lists) number)
left_late known late lists number index m distinct within finds first got =
    let none = none_index m finds.front (sym (finds.knows m) ∙ got) in
    let at = found_at m finds.back index (sym (index_past m finds.front finds.back none) ∙ sym (ap (index_of m) finds.split) ∙ first) in
    let split : list_at lists number ≡ (finds.front ++ at.before) ++ (index, at.item) ∷ at.behind =
    finds.split ∙ ap (λ b. finds.front ++ b) at.split ∙ sym (append_assoc finds.front at.before ((index, at.item) ∷ at.behind)) in
    let left = (less lists (without_node index lists) number index at.item (finds.front ++ at.before) at.behind within distinct split refl).left in
    let long = ap length at.split ∙ length-append at.before ((index, at.item) ∷ at.behind) in
    record {
      some = omega (arith, long, finds.late_is);
      finds = record {
        front = finds.front;
        back = at.before ++ at.behind;
        split = left ∙ append_assoc finds.front at.before at.behind;
        late_is = omega (arith, long, finds.late_is, length-append at.before at.behind);
        knows = finds.knows;
      };
    }

-- a known node leaves, and the map has what is left of its message
pub left_known : {S : Type 0} (known new : HashMap Key Equals S) (late : ℕ) (lists : List Nodes) (number : ℕ) (m : Message) (e : Equals) → AreDistinct lists → number < length lists
    → (finds : Finds known late (list_at lists number)) (at : Leaving m finds.front e)
    → ((q : Key) → get same_key new q ≡ cond (same_key (key_of m) q) (equal_in m at.b) (get same_key known q)) → Finds new late (list_at (without_node e.first lists) number)
left_known known new late lists number m e distinct within finds at updates =
    let split : list_at lists number ≡ at.a ++ (e.first, at.item) ∷ (at.b ++ finds.back) =
    finds.split ∙ ap (λ f. f ++ finds.back) at.split ∙ append_assoc at.a ((e.first, at.item) ∷ at.b) finds.back in
    let left = (less lists (without_node e.first lists) number e.first at.item at.a (at.b ++ finds.back) within distinct split refl).left in
    record {
      front = at.a ++ at.b;
      back = finds.back;
      split = left ∙ sym (append_assoc at.a at.b finds.back);
      late_is = finds.late_is;
      knows = λ q.
          elim (cases_Bool (same_message q m)) [
            | inl is ↦
                updates (key_of q) ∙ cond-true (same_key (key_of m) (key_of q)) _ _ (same_keys m q ∙ is)
                ∙ sym at.mine ∙ ap (λ x. equal_in x (at.a ++ at.b)) (sym (same_message_is q m is))
            | inr not ↦
                updates (key_of q) ∙ cond-false (same_key (key_of m) (key_of q)) _ _ (same_keys m q ∙ not)
                ∙ finds.knows q ∙ sym (at.others q not)
          ];
    }

-- behind the first known node of a message are the others
pub behind_known : {S : Type 0} (known : HashMap Key Equals S) (late : ℕ) (lists : List Nodes) (number : ℕ) (m : Message) (e : Equals) → AreDistinct lists → number < length lists
    → (finds : Finds known late (list_at lists number)) (at : Leaving m finds.front e) → behind e.first (list_at lists number) ≡ at.b ++ finds.back
behind_known known late lists number m e distinct within finds at =
    let split : list_at lists number ≡ at.a ++ (e.first, at.item) ∷ (at.b ++ finds.back) =
    finds.split ∙ ap (λ f. f ++ finds.back) at.split ∙ append_assoc at.a ((e.first, at.item) ∷ at.b) finds.back in
    let alone = distinct number at.a e.first at.item (at.b ++ finds.back) split in
    ap (behind e.first) split ∙ behind_is e.first at.item at.a (at.b ++ finds.back) (lacks_left (Some e.first) at.a (at.b ++ finds.back) alone.0)

-- the next node of a message, where it has more than one
pub next_known : (m : Message) (b back : Nodes) (next : Option ℕ) → 1 ≤ total (one_at m) (map message_at b) → next ≡ index_of m (b ++ back) → next ≡ index_of m b
next_known m b back next some is = go (index_of m b) refl
  where
    go : (o : Option ℕ) → index_of m b ≡ o → next ≡ index_of m b
    go None none = absurd (index_there m b some none)
    go (Some first) there = is ∙ index_in_front m b back first there ∙ sym there

pub by_ok : {A B P Q : Type 0} (r : Result A B) → OnOk r P → OnErr r Q → (Q → P) → P
by_ok (Ok a) ok err from = ok
by_ok (Err b) ok err from = from err
