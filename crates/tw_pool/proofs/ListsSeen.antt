-- The lists that a pool is seen as: which indices they have, and what an index that comes or goes makes of them.
use Rattle.std.proofs.Common.{◌≡◌, ◌≢◌, ℕ, zero, suc, ◌==◌, ◌<◌, Bool, true, false, List, [], ◌∷◌, ◌++◌, length, set, Option, Some, None, is_some, refl, sym, ap, inl, inr, arith}
use Rattle.std.proofs.lemmas.Bool.{cases_eq, eq-eqb, ne_eqb}
use Rattle.std.specs.Map.{lookup, remove_entry}
use Rattle.tw_pool.specs.Lists.{list_at, item_of, without, before_in, with_item_before, Lacks}
use Rattle.tw_pool.specs.Links.{first_or, last_or, HasDistinct}

module _ {T : Type 0} where
  pub lacks_none : (l : List (ℕ × T)) → Lacks None l
  lacks_none [] = tt
  lacks_none (e ∷ l) = ((λ same. cc), lacks_none l)

  pub lacks_left : (at : Option ℕ) (a b : List (ℕ × T)) → Lacks at (a ++ b) → Lacks at a
  lacks_left at [] b lacks = tt
  lacks_left at (e ∷ a) b lacks = (lacks.0, lacks_left at a b lacks.1)

  pub lacks_right : (at : Option ℕ) (a b : List (ℕ × T)) → Lacks at (a ++ b) → Lacks at b
  lacks_right at [] b lacks = lacks
  lacks_right at (e ∷ a) b lacks = lacks_right at a b lacks.1

  pub lacks_append : (at : Option ℕ) (a b : List (ℕ × T)) → Lacks at a → Lacks at b → Lacks at (a ++ b)
  lacks_append at [] b left right = right
  lacks_append at (e ∷ a) b left right = (left.0, lacks_append at a b left.1 right)

  pub distinct_left : (a b : List (ℕ × T)) → HasDistinct (a ++ b) → HasDistinct a
  distinct_left [] b distinct = tt
  distinct_left (e ∷ a) b distinct = (lacks_left (Some e.0) a b distinct.0, distinct_left a b distinct.1)

  pub distinct_right : (a b : List (ℕ × T)) → HasDistinct (a ++ b) → HasDistinct b
  distinct_right [] b distinct = distinct
  distinct_right (e ∷ a) b distinct = distinct_right a b distinct.1

  pub lacks_before : (a : List (ℕ × T)) (e : ℕ × T) (b : List (ℕ × T)) → HasDistinct (a ++ e ∷ b) → Lacks (Some e.0) a
  lacks_before [] e b distinct = tt
  lacks_before (f ∷ a) e b distinct =
      ((λ same. (lacks_right (Some f.0) a (e ∷ b) distinct.0).0 (sym same)), lacks_before a e b distinct.1)

  pub distinct_out : (a : List (ℕ × T)) (e : ℕ × T) (b : List (ℕ × T)) → HasDistinct (a ++ e ∷ b) → HasDistinct (a ++ b)
  distinct_out [] e b distinct = distinct.1
  distinct_out (f ∷ a) e b distinct = (
    lacks_append (Some f.0) a b (lacks_left (Some f.0) a (e ∷ b) distinct.0) (lacks_right (Some f.0) a (e ∷ b) distinct.0).1,
    distinct_out a e b distinct.1,
  )

  pub distinct_in : (a : List (ℕ × T)) (e : ℕ × T) (b : List (ℕ × T)) → HasDistinct (a ++ b) → Lacks (Some e.0) (a ++ b) → HasDistinct (a ++ e ∷ b)
  distinct_in [] e b distinct lacks = (lacks, distinct)
  distinct_in (f ∷ a) e b distinct lacks = (
    lacks_append (Some f.0) a (e ∷ b) (lacks_left (Some f.0) a b distinct.0) ((λ same. lacks.0 (sym same)), lacks_right (Some f.0) a b distinct.0),
    distinct_in a e b distinct.1 lacks.1,
  )

  pub last_lacks : (prev : Option ℕ) (a b : List (ℕ × T)) → Lacks prev b → HasDistinct (a ++ b) → Lacks (last_or prev a) b
  last_lacks prev [] b lacks distinct = lacks
  last_lacks prev (e ∷ a) b lacks distinct = last_lacks (Some e.0) a b (lacks_right (Some e.0) a b distinct.0) distinct.1

  pub first_lacks : (a b : List (ℕ × T)) → HasDistinct (a ++ b) → Lacks (first_or b None) a
  first_lacks a [] distinct = lacks_none a
  first_lacks a (e ∷ b) distinct = lacks_before a e b distinct

  -- ## An index found

  -- an index, where it stands in a list
  pub record Stands (index : ℕ) (l : List (ℕ × T)) : Type 0 where
    pub before : List (ℕ × T)
    pub item : T
    pub behind : List (ℕ × T)
    pub split : l ≡ before ++ (index, item) ∷ behind
    pub found : lookup (λ k. k == index) l ≡ Some item

  pub stands : (index : ℕ) (l : List (ℕ × T)) → is_some (lookup (λ k. k == index) l) ≡ true → Stands index l
  stands index [] found = absurd (cc)
  stands index (e ∷ l) found =
      elim (cases_eq e.0 index) [
        | inl same ↦ record {
          before = [];
          item = e.1;
          behind = l;
          split = ap (λ k. (k, e.1) ∷ l) same;
          found = rw (eq-eqb e.0 index same) refl;
        }
        | inr differs ↦
            let later = stands index l (rw (ne_eqb e.0 index differs) at found) in
            record {
              before = e ∷ later.before;
              item = later.item;
              behind = later.behind;
              split = ap (λ xs. e ∷ xs) later.split;
              found = rw (ne_eqb e.0 index differs) later.found;
            }
      ]

  -- an index, where it stands among the lists
  pub record StandsIn (index : ℕ) (lists : List (List (ℕ × T))) : Type 0 where
    pub number : ℕ
    pub within : number < length lists
    pub at : Stands index (list_at lists number)
    pub item : item_of index lists ≡ Some at.item

  pub stands_in : (index : ℕ) (lists : List (List (ℕ × T))) → is_some (item_of index lists) ≡ true → StandsIn index lists
  stands_in index [] found = absurd (cc)
  stands_in index (l ∷ lists) found =
      here (λ found. stands_in index lists found) (is_some (lookup (λ k. k == index) l)) refl
    where
      here : (is_some (item_of index lists) ≡ true → StandsIn index lists) → (b : Bool) → is_some (lookup (λ k. k == index) l) ≡ b → StandsIn index (l ∷ lists)
      here rest true is =
          let at = stands index l is in
          record { number = 0; within = omega arith; at = at; item = rw is at.found }
      here rest false is =
          let later = rest (rw is at found) in
          record { number = suc later.number; within = omega (arith, later.within); at = later.at; item = rw is later.item }

  pub lookup_lacks : (index : ℕ) (l : List (ℕ × T)) → Lacks (Some index) l → lookup (λ k. k == index) l ≡ None
  lookup_lacks index [] lacks = refl
  lookup_lacks index (e ∷ l) lacks = rw (ne_eqb e.0 index (λ same. lacks.0 (ap Some same))) (lookup_lacks index l lacks.1)

  pub lookup_found : (index : ℕ) (a : List (ℕ × T)) (item : T) (b : List (ℕ × T)) → Lacks (Some index) a → lookup (λ k. k == index) (a ++ (index, item) ∷ b) ≡ Some item
  lookup_found index [] item b lacks = rw (eq-eqb index index refl) refl
  lookup_found index (e ∷ a) item b lacks = rw (ne_eqb e.0 index (λ same. lacks.0 (ap Some same))) (lookup_found index a item b lacks.1)

  pub remove_lacks : (index : ℕ) (l : List (ℕ × T)) → Lacks (Some index) l → remove_entry (λ k. k == index) l ≡ l
  remove_lacks index [] lacks = refl
  remove_lacks index (e ∷ l) lacks = rw (ne_eqb e.0 index (λ same. lacks.0 (ap Some same))) (ap (λ xs. e ∷ xs) (remove_lacks index l lacks.1))

  pub remove_found : (index : ℕ) (a : List (ℕ × T)) (item : T) (b : List (ℕ × T)) → Lacks (Some index) a → remove_entry (λ k. k == index) (a ++ (index, item) ∷ b) ≡ a ++ b
  remove_found index [] item b lacks = rw (eq-eqb index index refl) refl
  remove_found index (e ∷ a) item b lacks = rw (ne_eqb e.0 index (λ same. lacks.0 (ap Some same))) (ap (λ xs. e ∷ xs) (remove_found index a item b lacks.1))

  pub without_lacks : (index : ℕ) (lists : List (List (ℕ × T))) → ((k : ℕ) → Lacks (Some index) (list_at lists k)) → without index lists ≡ lists
  without_lacks index [] lacks = refl
  without_lacks index (l ∷ lists) lacks =
      rw (remove_lacks index l (lacks 0)) (ap (λ xs. l ∷ xs) (without_lacks index lists (λ k. lacks (suc k))))

  pub without_found : (index number : ℕ) (lists : List (List (ℕ × T))) (a : List (ℕ × T)) (item : T) (b : List (ℕ × T)) → number < length lists → list_at lists number ≡ a ++ (index, item) ∷ b → Lacks (Some index) a → ((k : ℕ) → k ≢ number → Lacks (Some index) (list_at lists k)) → without index lists ≡ set lists number (a ++ b)
  without_found index number [] a item b within split lacks others = absurd (omega (arith, within))
  without_found index zero (l ∷ lists) a item b within split lacks others =
      rw (split, remove_found index a item b lacks) (ap (λ xs. (a ++ b) ∷ xs) (without_lacks index lists (λ k. others (suc k) (λ e. absurd (omega arith)))))
  without_found index (suc number) (l ∷ lists) a item b within split lacks others =
      rw (remove_lacks index l (others 0 (λ e. absurd (omega arith))))
      (ap (λ xs. l ∷ xs) (without_found index number lists a item b (omega (arith, within)) split lacks (λ k differs. others (suc k) (λ e. differs (omega (arith, e))))))

  pub before_lacks : (at : ℕ) (entry : ℕ × T) (l : List (ℕ × T)) → Lacks (Some at) l → before_in at entry l ≡ l
  before_lacks at entry [] lacks = refl
  before_lacks at entry (e ∷ l) lacks = rw (ne_eqb e.0 at (λ same. lacks.0 (ap Some same))) (ap (λ xs. e ∷ xs) (before_lacks at entry l lacks.1))

  pub before_found : (at : ℕ) (entry : ℕ × T) (a : List (ℕ × T)) (item : T) (b : List (ℕ × T)) → Lacks (Some at) a → before_in at entry (a ++ (at, item) ∷ b) ≡ a ++ entry ∷ (at, item) ∷ b
  before_found at entry [] item b lacks = rw (eq-eqb at at refl) refl
  before_found at entry (e ∷ a) item b lacks = rw (ne_eqb e.0 at (λ same. lacks.0 (ap Some same))) (ap (λ xs. e ∷ xs) (before_found at entry a item b lacks.1))

  pub inserted_lacks : (at : ℕ) (entry : ℕ × T) (lists : List (List (ℕ × T))) → ((k : ℕ) → Lacks (Some at) (list_at lists k)) → with_item_before at entry lists ≡ lists
  inserted_lacks at entry [] lacks = refl
  inserted_lacks at entry (l ∷ lists) lacks =
      rw (before_lacks at entry l (lacks 0)) (ap (λ xs. l ∷ xs) (inserted_lacks at entry lists (λ k. lacks (suc k))))

  pub inserted_found : (at : ℕ) (entry : ℕ × T) (number : ℕ) (lists : List (List (ℕ × T))) (a : List (ℕ × T)) (item : T) (b : List (ℕ × T)) → number < length lists → list_at lists number ≡ a ++ (at, item) ∷ b → Lacks (Some at) a → ((k : ℕ) → k ≢ number → Lacks (Some at) (list_at lists k)) → with_item_before at entry lists ≡ set lists number (a ++ entry ∷ (at, item) ∷ b)
  inserted_found at entry number [] a item b within split lacks others = absurd (omega (arith, within))
  inserted_found at entry zero (l ∷ lists) a item b within split lacks others =
      rw (split, before_found at entry a item b lacks) (ap (λ xs. (a ++ entry ∷ (at, item) ∷ b) ∷ xs) (inserted_lacks at entry lists (λ k. others (suc k) (λ e. absurd (omega arith)))))
  inserted_found at entry (suc number) (l ∷ lists) a item b within split lacks others =
      rw (before_lacks at entry l (others 0 (λ e. absurd (omega arith))))
      (ap (λ xs. l ∷ xs) (inserted_found at entry number lists a item b (omega (arith, within)) split lacks (λ k differs. others (suc k) (λ e. differs (omega (arith, e))))))

  -- the item of a list's first or only copy of an index is what the lists have under it
  pub item_free : (index : ℕ) (lists : List (List (ℕ × T))) → ((k : ℕ) → Lacks (Some index) (list_at lists k)) → item_of index lists ≡ None
  item_free index [] lacks = refl
  item_free index (l ∷ lists) lacks = rw (lookup_lacks index l (lacks 0)) (item_free index lists (λ k. lacks (suc k)))
