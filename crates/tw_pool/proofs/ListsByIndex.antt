-- What the words on a pool's lists say of one index: its item, its neighbors, and the lists after it has moved. Callers cite these.
use Rattle.std.proofs.Common.{◌≡◌, ◌≢◌, ℕ, zero, suc, ◌==◌, ◌<◌, Bool, true, false, List, [], ◌∷◌, ◌++◌, length, reverse, set, drop, Option, Some, None, is_some, IfSome, cond, refl, sym, ap, subst, ◌∙◌, inl, inr, arith, append-nil, append_assoc}
use Rattle.std.proofs.lemmas.Bool.{cases_eq, eq-eqb, ne_eqb}
use Rattle.std.proofs.lemmas.List.{length-set, get_or-set_same, get_or-set_other, reverse-append, reverse-reverse, length-map}
use Rattle.std.specs.Map.{lookup, remove_entry}
use Rattle.tw_pool.specs.Lists.{list_at, item_of, IsLive, first_of, after_in, before_in, next_of, backward, without, without_first, with_item_last, with_item_before, Lacks, AreDistinct}
use Rattle.tw_pool.proofs.ListsSeen.{lacks_left, lacks_right, lacks_append, stands_in, lookup_lacks, lookup_found, without_found, inserted_found}

module _ {T : Type 0} where
  -- a list read in the other direction
  pub backward_at : (lists : List (List (ℕ × T))) (number : ℕ) → list_at (backward lists) number ≡ reverse (list_at lists number)
  backward_at [] number = refl
  backward_at (l ∷ lists) zero = refl
  backward_at (l ∷ lists) (suc number) = backward_at lists number

  pub lacks-reverse : (at : Option ℕ) (l : List (ℕ × T)) → Lacks at l → Lacks at (reverse l)
  lacks-reverse at [] lacks = tt
  lacks-reverse at (e ∷ l) lacks =
      subst (λ xs. Lacks at xs) (sym (reverse-append (e ∷ []) l)) (lacks_append at (reverse l) (e ∷ []) (lacks-reverse at l lacks.1) (lacks.0, tt))

  after_found : (index : ℕ) (a : List (ℕ × T)) (item : T) (b : List (ℕ × T)) → Lacks (Some index) a → after_in index (a ++ (index, item) ∷ b) ≡ first_of b
  after_found index [] item b lacks = rw (eq-eqb index index refl) refl
  after_found index (e ∷ a) item b lacks = rw (ne_eqb e.0 index (λ same. lacks.0 (ap Some same))) (after_found index a item b lacks.1)

  -- the index that comes after one whose place is known
  pub next_found : (index number : ℕ) (lists : List (List (ℕ × T))) (a : List (ℕ × T)) (item : T) (b : List (ℕ × T)) → number < length lists → list_at lists number ≡ a ++ (index, item) ∷ b → Lacks (Some index) a → ((k : ℕ) → k ≢ number → Lacks (Some index) (list_at lists k)) → next_of index lists ≡ first_of b
  next_found index number [] a item b within split lacks others = absurd (omega (arith, within))
  next_found index zero (l ∷ lists) a item b within split lacks others =
      rw (split, lookup_found index a item b lacks) (after_found index a item b lacks)
  next_found index (suc number) (l ∷ lists) a item b within split lacks others =
      rw (lookup_lacks index l (others 0 (λ e. absurd (omega arith))))
      (next_found index number lists a item b (omega (arith, within)) split lacks (λ k differs. others (suc k) (λ e. differs (omega (arith, e)))))

  -- ## Where an index stands, by its place among distinct indices

  -- the item under an index that stands in a list
  item_found : (index number : ℕ) (lists : List (List (ℕ × T))) (a : List (ℕ × T)) (item : T) (b : List (ℕ × T)) → number < length lists → list_at lists number ≡ a ++ (index, item) ∷ b → Lacks (Some index) a → ((k : ℕ) → k ≢ number → Lacks (Some index) (list_at lists k)) → item_of index lists ≡ Some item
  item_found index number [] a item b within split lacks others = absurd (omega (arith, within))
  item_found index zero (l ∷ lists) a item b within split lacks others =
      rw (split, lookup_found index a item b lacks) refl
  item_found index (suc number) (l ∷ lists) a item b within split lacks others =
      rw (lookup_lacks index l (others 0 (λ e. absurd (omega arith))))
      (item_found index number lists a item b (omega (arith, within)) split lacks (λ k differs. others (suc k) (λ e. differs (omega (arith, e)))))

  -- its item
  pub item_is : (lists : List (List (ℕ × T))) (index number : ℕ) (item : T) (a b : List (ℕ × T)) → AreDistinct lists → number < length lists → list_at lists number ≡ a ++ (index, item) ∷ b → item_of index lists ≡ Some item
  item_is lists index number item a b distinct within split =
      let alone = distinct number a index item b split in
      item_found index number lists a item b within split (lacks_left (Some index) a b alone.0) alone.1

  pub item_live : (lists : List (List (ℕ × T))) (index : ℕ) (item : T) → item_of index lists ≡ Some item → IsLive index lists
  item_live lists index item is = rw is refl

  -- the index after it
  pub next_is : (lists : List (List (ℕ × T))) (number index : ℕ) (item : T) (a b : List (ℕ × T)) → AreDistinct lists → number < length lists → list_at lists number ≡ a ++ (index, item) ∷ b → next_of index lists ≡ first_of b
  next_is lists number index item a b distinct within split =
      let alone = distinct number a index item b split in
      next_found index number lists a item b within split (lacks_left (Some index) a b alone.0) alone.1

  -- the index before it
  pub prev_is : (lists : List (List (ℕ × T))) (number index : ℕ) (item : T) (a b : List (ℕ × T)) → AreDistinct lists → number < length lists → list_at lists number ≡ a ++ (index, item) ∷ b → next_of index (backward lists) ≡ first_of (reverse a)
  prev_is lists number index item a b distinct within split =
      let alone = distinct number a index item b split in
      let turned : reverse (a ++ (index, item) ∷ b) ≡ reverse b ++ (index, item) ∷ reverse a =
      reverse-append a ((index, item) ∷ b)
      ∙ ap (λ xs. xs ++ reverse a) (reverse-append ((index, item) ∷ []) b)
      ∙ append_assoc (reverse b) ((index, item) ∷ []) (reverse a) in
      next_found index number (backward lists) (reverse b) item (reverse a) (omega (arith, within, length-map lists (reverse {A = ℕ × T})))
      (backward_at lists number ∙ ap reverse split ∙ turned)
      (lacks-reverse (Some index) b (lacks_right (Some index) a b alone.0))
      (λ k differs. rw (backward_at lists k) (lacks-reverse (Some index) (list_at lists k) (alone.1 k differs)))

  -- a node stands at the end of a list now, and no more between a and b
  pub record Moved (lists now : List (List (ℕ × T))) (from to index : ℕ) (item : T) (a b : List (ℕ × T)) : Type 0 where
    pub count : length now ≡ length lists
    pub left : list_at now from ≡ a ++ b
    pub came : list_at now to ≡ list_at lists to ++ (index, item) ∷ []
    pub others : (k : ℕ) → k ≢ from → k ≢ to → list_at now k ≡ list_at lists k

  pub moved : (lists now : List (List (ℕ × T))) (from to index : ℕ) (item : T) (a b : List (ℕ × T)) → to ≢ from → from < length lists → to < length lists → AreDistinct lists → list_at lists from ≡ a ++ (index, item) ∷ b → now ≡ with_item_last (without index lists) to (index, item) → Moved lists now from to index item a b
  moved lists now from to index item a b apart from_in to_in distinct split is =
      let alone = distinct from a index item b split in
      let mid = set lists from (a ++ b) in
      let last = list_at mid to ++ (index, item) ∷ [] in
      let gone : without index lists ≡ mid = without_found index from lists a item b from_in split (lacks_left (Some index) a b alone.0) alone.1 in
      let now_is : now ≡ set mid to last = is ∙ ap (λ ls. with_item_last ls to (index, item)) gone in
      record {
        count = ap length now_is ∙ length-set mid to last ∙ length-set lists from (a ++ b);
        left = ap (λ ls. list_at ls from) now_is ∙ get_or-set_other mid to from last [] (λ e. apart (sym e)) ∙ get_or-set_same lists from (a ++ b) [] from_in;
        came = ap (λ ls. list_at ls to) now_is ∙ get_or-set_same mid to last [] (omega (arith, to_in, length-set lists from (a ++ b))) ∙ ap (λ l. l ++ (index, item) ∷ []) (get_or-set_other lists from to (a ++ b) [] apart);
        others = λ k not_from not_to. ap (λ ls. list_at ls k) now_is ∙ get_or-set_other mid to k last [] not_to ∙ get_or-set_other lists from k (a ++ b) [] not_from;
      }

  -- another index
  pub lookup_other : (index other : ℕ) (item : T) (a b : List (ℕ × T)) → (index ≡ other → ⊥) → lookup (λ k. k == other) (a ++ (index, item) ∷ b) ≡ lookup (λ k. k == other) (a ++ b)
  lookup_other index other item [] b differs = rw (ne_eqb index other differs) refl
  lookup_other index other item (e ∷ a) b differs =
      ap (λ rest. cond (e.0 == other) (Some e.1) rest) (lookup_other index other item a b differs)

  -- the last of a list, as it is read backwards
  pub record Last (l : List (ℕ × T)) (index : ℕ) : Type 0 where
    pub item : T
    pub before : List (ℕ × T)
    pub split : l ≡ before ++ (index, item) ∷ []

  pub last_of : (lists : List (List (ℕ × T))) (number index : ℕ) → first_of (list_at (backward lists) number) ≡ Some index → Last (list_at lists number) index
  last_of lists number index first = go (reverse (list_at lists number)) refl
    where
      go : (r : List (ℕ × T)) → reverse (list_at lists number) ≡ r → Last (list_at lists number) index
      go [] is = let none = ap first_of (sym (backward_at lists number ∙ is)) ∙ first in absurd (cc)
      go (e ∷ r) is =
          let some : Some e.0 ≡ Some index = ap first_of (sym (backward_at lists number ∙ is)) ∙ first in
          let same : e.0 ≡ index = cc in
          record {
            item = e.1;
            before = reverse r;
            split = sym (reverse-reverse (list_at lists number)) ∙ ap reverse is ∙ reverse-append (e ∷ []) r ∙ ap (λ k. reverse r ++ (k, e.1) ∷ []) same;
          }

  pub last_none : (lists : List (List (ℕ × T))) (number : ℕ) → first_of (list_at (backward lists) number) ≡ None → list_at lists number ≡ []
  last_none lists number first = go (reverse (list_at lists number)) refl
    where
      go : (r : List (ℕ × T)) → reverse (list_at lists number) ≡ r → list_at lists number ≡ []
      go [] is = sym (reverse-reverse (list_at lists number)) ∙ ap reverse is
      go (e ∷ r) is = let some = ap first_of (sym (backward_at lists number ∙ is)) ∙ first in absurd (cc)

  -- the lists without the first index of one of them
  pub without_first_is : (lists : List (List (ℕ × T))) (number index : ℕ) → number < length lists → AreDistinct lists → first_of (list_at lists number) ≡ Some index → without index lists ≡ without_first lists number 1
  without_first_is lists number index within distinct first = go (list_at lists number) refl
    where
      go : (l : List (ℕ × T)) → list_at lists number ≡ l → without index lists ≡ without_first lists number 1
      go [] is = let none = ap first_of (sym is) ∙ first in absurd (cc)
      go (e ∷ l) is =
          let some : Some e.0 ≡ Some index = ap first_of (sym is) ∙ first in
          let same : e.0 ≡ index = cc in
          let split : list_at lists number ≡ (index, e.1) ∷ l = is ∙ ap (λ k. (k, e.1) ∷ l) same in
          let apart = distinct number [] index e.1 l split in
          without_found index number lists [] e.1 l within split tt apart.1 ∙ ap (λ x. set lists number (drop 1 x)) (sym is)

  -- an index that comes first is live
  pub first_live : (lists : List (List (ℕ × T))) (number index : ℕ) → number < length lists → first_of (list_at lists number) ≡ Some index → IsLive index lists
  first_live [] number index within first = absurd (omega (arith, within))
  first_live (l ∷ lists) number index within first =
      here (λ n inside is. first_live lists n index inside is) number within first (is_some (lookup (λ k. k == index) l)) refl
    where
      head : (m : List (ℕ × T)) → first_of m ≡ Some index → is_some (lookup (λ k. k == index) m) ≡ true
      head [] is = absurd (cc)
      head (e ∷ m) is = let same : e.0 ≡ index = cc in rw (eq-eqb e.0 index same) refl

      here : ((n : ℕ) → n < length lists → first_of (list_at lists n) ≡ Some index → IsLive index lists) → (n : ℕ) → n < length (l ∷ lists) → first_of (list_at (l ∷ lists) n) ≡ Some index → (b : Bool) → is_some (lookup (λ k. k == index) l) ≡ b → IsLive index (l ∷ lists)
      here rest n inside is true found = rw found found
      here rest zero inside is false found = let yes = head l is in absurd (cc)
      here rest (suc n) inside is false found = rw found (rest n (omega (arith, inside)) is)

  -- ## The ends of a list and the neighbors of an index are live

  pub live_at : (lists : List (List (ℕ × T))) (number index : ℕ) (item : T) (a b : List (ℕ × T)) → AreDistinct lists → number < length lists → list_at lists number ≡ a ++ (index, item) ∷ b → IsLive index lists
  live_at lists number index item a b distinct within split =
      item_live lists index item (item_is lists index number item a b distinct within split)

  behind_live : (lists : List (List (ℕ × T))) (number : ℕ) (a b : List (ℕ × T)) → AreDistinct lists → number < length lists → list_at lists number ≡ a ++ b → IfSome (first_of b) (λ index. IsLive index lists)
  behind_live lists number a [] distinct within split = tt
  behind_live lists number a (e ∷ b) distinct within split = live_at lists number e.0 e.1 a b distinct within split

  before_live : (lists : List (List (ℕ × T))) (number : ℕ) (r b : List (ℕ × T)) → AreDistinct lists → number < length lists → list_at lists number ≡ reverse r ++ b → IfSome (first_of r) (λ index. IsLive index lists)
  before_live lists number [] b distinct within split = tt
  before_live lists number (e ∷ r) b distinct within split =
      live_at lists number e.0 e.1 (reverse r) b distinct within
      (split ∙ ap (λ xs. xs ++ b) (reverse-append (e ∷ []) r) ∙ append_assoc (reverse r) (e ∷ []) b)

  pub first_is_live : (lists : List (List (ℕ × T))) (number : ℕ) → AreDistinct lists → number < length lists → IfSome (first_of (list_at lists number)) (λ index. IsLive index lists)
  first_is_live lists number distinct within = behind_live lists number [] (list_at lists number) distinct within refl

  pub last_is_live : (lists : List (List (ℕ × T))) (number : ℕ) → AreDistinct lists → number < length lists → IfSome (first_of (list_at (backward lists) number)) (λ index. IsLive index lists)
  last_is_live lists number distinct within =
      let l = list_at lists number in
      subst (λ xs. IfSome (first_of xs) (λ index. IsLive index lists)) (sym (backward_at lists number))
      (before_live lists number (reverse l) [] distinct within (sym (append-nil (reverse (reverse l)) ∙ reverse-reverse l)))

  pub next_is_live : (lists : List (List (ℕ × T))) (index : ℕ) → AreDistinct lists → IsLive index lists → IfSome (next_of index lists) (λ after. IsLive after lists)
  next_is_live lists index distinct live =
      let at = stands_in index lists live in
      let a = at.at.before in
      let b = at.at.behind in
      subst (λ o. IfSome o (λ after. IsLive after lists)) (sym (next_is lists at.number index at.at.item a b distinct at.within at.at.split))
      (behind_live lists at.number (a ++ (index, at.at.item) ∷ []) b distinct at.within (at.at.split ∙ sym (append_assoc a ((index, at.at.item) ∷ []) b)))

  pub prev_is_live : (lists : List (List (ℕ × T))) (index : ℕ) → AreDistinct lists → IsLive index lists → IfSome (next_of index (backward lists)) (λ before. IsLive before lists)
  prev_is_live lists index distinct live =
      let at = stands_in index lists live in
      let a = at.at.before in
      let b = at.at.behind in
      subst (λ o. IfSome o (λ before. IsLive before lists)) (sym (prev_is lists at.number index at.at.item a b distinct at.within at.at.split))
      (before_live lists at.number (reverse a) ((index, at.at.item) ∷ b) distinct at.within (at.at.split ∙ ap (λ xs. xs ++ (index, at.at.item) ∷ b) (sym (reverse-reverse a))))

  -- ## Items under other indices stay

  lookup-remove_other : (index other : ℕ) (l : List (ℕ × T)) → other ≢ index → lookup (λ k. k == other) (remove_entry (λ k. k == index) l) ≡ lookup (λ k. k == other) l
  lookup-remove_other index other [] differs = refl
  lookup-remove_other index other (e ∷ l) differs =
      elim (cases_eq e.0 index) [
        | inl same ↦
            ap (λ t. lookup (λ k. k == other) (cond t l (e ∷ remove_entry (λ k. k == index) l))) (eq-eqb e.0 index same)
            ∙ sym (ap (λ t. cond t (Some e.1) (lookup (λ k. k == other) l)) (ne_eqb e.0 other (λ is. differs (sym is ∙ same))))
        | inr apart ↦
            ap (λ t. lookup (λ k. k == other) (cond t l (e ∷ remove_entry (λ k. k == index) l))) (ne_eqb e.0 index apart)
            ∙ ap (λ rest. cond (e.0 == other) (Some e.1) rest) (lookup-remove_other index other l differs)
      ]

  lookup-before_other : (at other : ℕ) (entry : ℕ × T) (l : List (ℕ × T)) → entry.0 ≢ other → lookup (λ k. k == other) (before_in at entry l) ≡ lookup (λ k. k == other) l
  lookup-before_other at other entry [] differs = refl
  lookup-before_other at other entry (e ∷ l) differs =
      elim (cases_eq e.0 at) [
        | inl same ↦
            ap (λ t. lookup (λ k. k == other) (cond t (entry ∷ e ∷ l) (e ∷ before_in at entry l))) (eq-eqb e.0 at same)
            ∙ ap (λ t. cond t (Some entry.1) (lookup (λ k. k == other) (e ∷ l))) (ne_eqb entry.0 other differs)
        | inr apart ↦
            ap (λ t. lookup (λ k. k == other) (cond t (entry ∷ e ∷ l) (e ∷ before_in at entry l))) (ne_eqb e.0 at apart)
            ∙ ap (λ rest. cond (e.0 == other) (Some e.1) rest) (lookup-before_other at other entry l differs)
      ]

  pub item_of-without_other : (index other : ℕ) (lists : List (List (ℕ × T))) → other ≢ index → item_of other (without index lists) ≡ item_of other lists
  item_of-without_other index other [] differs = refl
  item_of-without_other index other (l ∷ lists) differs = λ i. cond (is_some (lookup-remove_other index other l differs i)) (lookup-remove_other index other l differs i) (item_of-without_other index other lists differs i)

  pub item_of-with_item_last_other : (other number : ℕ) (entry : ℕ × T) (lists : List (List (ℕ × T))) → entry.0 ≢ other → item_of other (with_item_last lists number entry) ≡ item_of other lists
  item_of-with_item_last_other other number entry [] differs = refl
  item_of-with_item_last_other other zero entry (l ∷ lists) differs =
      let same : lookup (λ k. k == other) (l ++ entry ∷ []) ≡ lookup (λ k. k == other) l = lookup_other entry.0 other entry.1 l [] differs ∙ ap (lookup (λ k. k == other)) (append-nil l) in
      λ i. cond (is_some (same i)) (same i) (item_of other lists)
  item_of-with_item_last_other other (suc number) entry (l ∷ lists) differs =
      λ i. cond (is_some (lookup (λ k. k == other) l)) (lookup (λ k. k == other) l) (item_of-with_item_last_other other number entry lists differs i)

  pub item_of-with_item_before_other : (at other : ℕ) (entry : ℕ × T) (lists : List (List (ℕ × T))) → entry.0 ≢ other → item_of other (with_item_before at entry lists) ≡ item_of other lists
  item_of-with_item_before_other at other entry [] differs = refl
  item_of-with_item_before_other at other entry (l ∷ lists) differs = λ i. cond (is_some (lookup-before_other at other entry l differs i)) (lookup-before_other at other entry l differs i) (item_of-with_item_before_other at other entry lists differs i)

  -- ## The item under an index that has come into a list

  pub item_of-with_item_last : (index number : ℕ) (item : T) (lists now : List (List (ℕ × T))) → number < length lists → now ≡ with_item_last lists number (index, item) → AreDistinct now → item_of index now ≡ Some item
  item_of-with_item_last index number item lists now within is distinct =
      let l = list_at lists number in
      let split : list_at now number ≡ l ++ (index, item) ∷ [] = ap (λ ls. list_at ls number) is ∙ get_or-set_same lists number (l ++ (index, item) ∷ []) [] within in
      let count = ap length is ∙ length-set lists number (l ++ (index, item) ∷ []) in
      item_is now index number item l [] distinct (omega (arith, within, count)) split

  pub item_of-with_item_before : (at index : ℕ) (item : T) (lists now : List (List (ℕ × T))) → AreDistinct lists → IsLive at lists → now ≡ with_item_before at (index, item) lists → AreDistinct now → item_of index now ≡ Some item
  item_of-with_item_before at index item lists now distinct live is distinct_now =
      let place = stands_in at lists live in
      let a = place.at.before in
      let b = place.at.behind in
      let alone = distinct place.number a at place.at.item b place.at.split in
      let l : List (ℕ × T) = a ++ (index, item) ∷ (at, place.at.item) ∷ b in
      let set_is = is ∙ inserted_found at (index, item) place.number lists a place.at.item b place.within place.at.split (lacks_left (Some at) a b alone.0) alone.1 in
      let split : list_at now place.number ≡ l = ap (λ ls. list_at ls place.number) set_is ∙ get_or-set_same lists place.number l [] place.within in
      let count = ap length set_is ∙ length-set lists place.number l in
      item_is now index place.number item a ((at, place.at.item) ∷ b) distinct_now (omega (arith, place.within, count)) split

  -- a move keeps each item under its index
  pub items_moved : (lists now : List (List (ℕ × T))) (index number : ℕ) (item : T) → item_of index lists ≡ Some item → number < length lists → now ≡ with_item_last (without index lists) number (index, item) → AreDistinct now → (each : ℕ) → item_of each now ≡ item_of each lists
  items_moved lists now index number item item_was within is distinct each =
      let rest = without index lists in
      elim (cases_eq each index) [
        | inl same ↦
            ap (λ k. item_of k now) same
            ∙ item_of-with_item_last index number item rest now (omega (arith, within, length-map lists (remove_entry (λ k. k == index)))) is distinct
            ∙ sym item_was ∙ ap (λ k. item_of k lists) (sym same)
        | inr differs ↦
            ap (item_of each) is ∙ item_of-with_item_last_other each number (index, item) rest (λ same. differs (sym same))
            ∙ item_of-without_other index each lists differs
      ]
