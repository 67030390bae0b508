-- The last nodes of a list move to the end of another one, one by one.
use Rattle.std.proofs.Common.{◌≡◌, ◌≢◌, ℕ, ◌+◌, ◌-◌, ◌<◌, ◌≤◌, List, [], ◌∷◌, ◌++◌, length, reverse, set, take, drop, Option, Some, None, refl, sym, ap, subst, ◌∙◌, arith, append-nil, append_assoc, take-append-drop, take-take, drop-drop, length-drop, take_all, drop_of_length-le, ext_get_or, inl, inr}
use Rattle.std.proofs.lemmas.Bool.{cases_eq}
use Rattle.std.proofs.lemmas.List.{drop-take, length-set, get_or-set_same, get_or-set_other, reverse-append}
use Rattle.tw_pool.specs.Lists.{list_at, item_of, IsLive, first_of, next_of, backward, without, with_item_last, with_last_moved, AreDistinct}
use Rattle.tw_pool.proofs.ListsByIndex.{moved, item_is, item_live, next_is, prev_is}

module _ {T : Type 0} where
  -- the (k+1)-th item from the end of a list
  pub record FromEnd (l : List (ℕ × T)) (k : ℕ) : Type 0 where
    pub index : ℕ
    pub item : T
    pub before : List (ℕ × T)
    pub behind : List (ℕ × T)
    pub split : l ≡ before ++ (index, item) ∷ behind
    pub taken : take (length l - k) l ≡ before ++ (index, item) ∷ []
    pub before_is : take (length l - (k + 1)) l ≡ before
    pub dropped : drop (length l - (k + 1)) l ≡ (index, item) ∷ behind
    pub behind_is : drop (length l - k) l ≡ behind

  pub from_end : (l : List (ℕ × T)) (k : ℕ) → k < length l → FromEnd l k
  from_end l k within = go (drop m l) refl
    where
      m : ℕ
      m = length l - (k + 1)

      go : (r : List (ℕ × T)) → drop m l ≡ r → FromEnd l k
      go [] is = absurd (omega (arith, within, ap length is, length-drop m l))
      go (e ∷ r) is =
          let more : length l - k ≡ m + 1 = omega (arith, within) in
          let head : take m l ++ take 1 (drop m l) ≡ take (m + 1) l =
          ap (λ x. x ++ take 1 (drop m l)) (sym (take-take m (m + 1) l (omega arith)))
          ∙ ap (λ x. take m (take (m + 1) l) ++ x) (sym (drop-take m 1 l))
          ∙ take-append-drop m (take (m + 1) l) in
          record {
            index = e.0;
            item = e.1;
            before = take m l;
            behind = r;
            split = sym (take-append-drop m l) ∙ ap (λ x. take m l ++ x) is;
            taken = ap (λ n. take n l) more ∙ sym head ∙ ap (λ x. take m l ++ take 1 x) is;
            before_is = refl;
            dropped = is;
            behind_is = ap (λ n. drop n l) more ∙ sym (drop-drop 1 m l) ∙ ap (drop 1) is;
          }

  -- one step of the walk backwards
  pub record Walked (lists : List (List (ℕ × T))) (from k : ℕ) (first before : Option ℕ) : Type 0 where
    pub first_is : first ≡ first_of (drop (length (list_at lists from) - k) (list_at lists from))
    pub before_is : before ≡ first_of (reverse (take (length (list_at lists from) - k) (list_at lists from)))

  -- so many of the last n nodes have moved, and the next one is known
  pub record Spliced (lists now : List (List (ℕ × T))) (from to n k : ℕ) (first : Option ℕ) : Type 0 where
    pub count : length now ≡ length lists
    pub left : list_at now from ≡ take (length (list_at lists from) - n) (list_at lists from) ++ drop k (drop (length (list_at lists from) - n) (list_at lists from))
    pub came : list_at now to ≡ list_at lists to ++ take k (drop (length (list_at lists from) - n) (list_at lists from))
    pub others : (j : ℕ) → j ≢ from → j ≢ to → list_at now j ≡ list_at lists j
    pub first_is : first ≡ first_of (drop k (drop (length (list_at lists from) - n) (list_at lists from)))

  -- the item after the first k, and those behind it
  record Next (t : List (ℕ × T)) (k index : ℕ) : Type 0 where
    pub item : T
    pub behind : List (ℕ × T)
    pub dropped : drop k t ≡ (index, item) ∷ behind
    pub behind_is : drop (k + 1) t ≡ behind
    pub taken : take (k + 1) t ≡ take k t ++ (index, item) ∷ []

  next_item : (t : List (ℕ × T)) (k index : ℕ) → Some index ≡ first_of (drop k t) → Next t k index
  next_item t k index first = go (drop k t) refl
    where
      head : take k t ++ take 1 (drop k t) ≡ take (k + 1) t
      head =
          ap (λ x. x ++ take 1 (drop k t)) (sym (take-take k (k + 1) t (omega arith)))
          ∙ ap (λ x. take k (take (k + 1) t) ++ x) (sym (drop-take k 1 t))
          ∙ take-append-drop k (take (k + 1) t)

      go : (r : List (ℕ × T)) → drop k t ≡ r → Next t k index
      go [] is = let none = first ∙ ap first_of is in absurd (cc)
      go (e ∷ r) is =
          let some : Some index ≡ Some e.0 = first ∙ ap first_of is in
          let same : e.0 ≡ index = cc in
          let here : e ∷ r ≡ (index, e.1) ∷ r = ap (λ j. (j, e.1) ∷ r) same in
          record {
            item = e.1;
            behind = r;
            dropped = is ∙ here;
            behind_is = sym (drop-drop 1 k t) ∙ ap (drop 1) is;
            taken = sym head ∙ ap (λ x. take k t ++ take 1 x) (is ∙ here);
          }

  walked_index : (lists : List (List (ℕ × T))) (from k index : ℕ) (first : Option ℕ) → k < length (list_at lists from) → Walked lists from k first (Some index) → (at : FromEnd (list_at lists from) k) → at.index ≡ index
  walked_index lists from k index first within walked at =
      let some : Some index ≡ Some at.index = walked.before_is ∙ ap (λ l. first_of (reverse l)) at.taken ∙ ap first_of (reverse-append at.before ((at.index, at.item) ∷ [])) in
      cc

  pub walk_live : (lists : List (List (ℕ × T))) (from k index : ℕ) (first : Option ℕ) → AreDistinct lists → from < length lists → k < length (list_at lists from) → Walked lists from k first (Some index) → IsLive index lists
  walk_live lists from k index first distinct from_in within walked =
      let at = from_end (list_at lists from) k within in
      subst (λ j. IsLive j lists) (walked_index lists from k index first within walked at)
      (item_live lists at.index at.item (item_is lists at.index from at.item at.before at.behind distinct from_in at.split))

  pub walk_step : (lists : List (List (ℕ × T))) (from k index : ℕ) (first before : Option ℕ) → AreDistinct lists → from < length lists → k < length (list_at lists from) → Walked lists from k first (Some index) → before ≡ next_of index (backward lists) → Walked lists from (k + 1) (Some index) before
  walk_step lists from k index first before distinct from_in within walked is =
      let at = from_end (list_at lists from) k within in
      let same = walked_index lists from k index first within walked at in
      record {
        first_is = sym (ap first_of at.dropped ∙ ap Some same);
        before_is =
            is ∙ ap (λ j. next_of j (backward lists)) (sym same)
            ∙ prev_is lists from at.index at.item at.before at.behind distinct from_in at.split
            ∙ ap (λ l. first_of (reverse l)) (sym at.before_is);
      }

  pub walk_never : (lists : List (List (ℕ × T))) (from k : ℕ) (first : Option ℕ) → k < length (list_at lists from) → Walked lists from k first None → ⊥
  walk_never lists from k first within walked =
      let at = from_end (list_at lists from) k within in
      let some : None ≡ Some at.index = walked.before_is ∙ ap (λ l. first_of (reverse l)) at.taken ∙ ap first_of (reverse-append at.before ((at.index, at.item) ∷ [])) in
      absurd (cc)

  pub splice_live : (lists now : List (List (ℕ × T))) (from to n k index : ℕ) → AreDistinct now → from < length lists → Spliced lists now from to n k (Some index) → IsLive index now
  splice_live lists now from to n k index distinct from_in s =
      let l = list_at lists from in
      let t = drop (length l - n) l in
      let at = next_item t k index s.first_is in
      let a = take (length l - n) l in
      item_live now index at.item
      (item_is now index from at.item a at.behind distinct (omega (arith, from_in, s.count)) (s.left ∙ ap (λ x. a ++ x) at.dropped))

  pub splice_step : (lists now new : List (List (ℕ × T))) (from to n k index : ℕ) (first : Option ℕ) → to ≢ from → from < length lists → to < length lists → AreDistinct now → Spliced lists now from to n k (Some index)
      → ((item : T) → item_of index now ≡ Some item → new ≡ with_item_last (without index now) to (index, item)) → first ≡ next_of index now → Spliced lists new from to n (k + 1) first
  splice_step lists now new from to n k index first apart from_in to_in distinct s relinked next =
      let l = list_at lists from in
      let t = drop (length l - n) l in
      let a = take (length l - n) l in
      let at = next_item t k index s.first_is in
      let within : from < length now = omega (arith, from_in, s.count) in
      let split : list_at now from ≡ a ++ (index, at.item) ∷ at.behind = s.left ∙ ap (λ x. a ++ x) at.dropped in
      let move = moved now new from to index at.item a at.behind apart within (omega (arith, to_in, s.count)) distinct split (relinked at.item (item_is now index from at.item a at.behind distinct within split)) in
      record {
        count = move.count ∙ s.count;
        left = move.left ∙ ap (λ x. a ++ x) (sym at.behind_is);
        came = move.came ∙ ap (λ x. x ++ (index, at.item) ∷ []) s.came ∙ append_assoc (list_at lists to) (take k t) ((index, at.item) ∷ []) ∙ ap (λ x. list_at lists to ++ x) (sym at.taken);
        others = λ j f t. move.others j f t ∙ s.others j f t;
        first_is = next ∙ next_is now from index at.item a at.behind distinct within split ∙ ap first_of (sym at.behind_is);
      }

  pub splice_never : (lists now : List (List (ℕ × T))) (from to n k : ℕ) → k < n → n ≤ length (list_at lists from) → Spliced lists now from to n k None → ⊥
  splice_never lists now from to n k less within s = go (drop k t) refl
    where
      t : List (ℕ × T)
      t = drop (length (list_at lists from) - n) (list_at lists from)

      go : (r : List (ℕ × T)) → drop k t ≡ r → ⊥
      go [] is = absurd (omega (arith, less, within, ap length is, length-drop k t, length-drop (length (list_at lists from) - n) (list_at lists from)))
      go (e ∷ r) is = let some : None ≡ Some e.0 = s.first_is ∙ ap first_of is in absurd (cc)

  pub splice_done : (lists now : List (List (ℕ × T))) (from to n k : ℕ) (first : Option ℕ) → to ≢ from → from < length lists → to < length lists → n ≤ length (list_at lists from) → n ≤ k → Spliced lists now from to n k first → now ≡ with_last_moved lists from n to
  splice_done lists now from to n k first apart from_in to_in within done s =
      let l = list_at lists from in
      let a = take (length l - n) l in
      let t = drop (length l - n) l in
      let long : length t ≤ k = omega (arith, length-drop (length l - n) l, within, done) in
      let left : list_at now from ≡ a = s.left ∙ ap (λ x. a ++ x) (drop_all long) ∙ append-nil a in
      let came : list_at now to ≡ list_at lists to ++ t = s.came ∙ ap (λ x. list_at lists to ++ x) (take_all k t long) in
      let mid = set lists from a in
      let last = list_at mid to ++ t in
      ext_get_or [] now (set mid to last) (s.count ∙ sym (length-set mid to last ∙ length-set lists from a))
      (λ j inside.
      elim (cases_eq j to) [
        | inl eq ↦ subst (λ x. list_at now x ≡ list_at (set mid to last) x) (sym eq)
            (came ∙ ap (λ x. x ++ t) (sym (get_or-set_other lists from to a [] apart)) ∙ sym (get_or-set_same mid to last [] (omega (arith, to_in, length-set lists from a))))
        | inr not_to ↦ elim (cases_eq j from) [
          | inl eq ↦ subst (λ x. list_at now x ≡ list_at (set mid to last) x) (sym eq)
              (left ∙ sym (get_or-set_other mid to from last [] (λ e. apart (sym e)) ∙ get_or-set_same lists from a [] from_in))
          | inr not_from ↦ s.others j not_from not_to ∙ sym (get_or-set_other mid to j last [] not_to ∙ get_or-set_other lists from j a [] not_from)
        ]
      ])
    where
      drop_all : length (drop (length (list_at lists from) - n) (list_at lists from)) ≤ k → drop k (drop (length (list_at lists from) - n) (list_at lists from)) ≡ []
      drop_all long = drop_of_length-le (drop (length (list_at lists from) - n) (list_at lists from)) long
