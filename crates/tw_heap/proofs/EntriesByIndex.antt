-- What the words on a heap's entries say of one index, and of the messages, as an entry comes or goes. Callers cite these.
use Rattle.std.proofs.Common.{◌≡◌, ◌≢◌, ℕ, ◌<◌, ◌≤◌, ◌==◌, Bool, true, false, List, [], ◌∷◌, map, Some, None, IfSome, cond, refl, sym, ap, subst, ◌∙◌, inl, inr, arith}
use Rattle.std.proofs.lemmas.Bool.{cases_eq, eq-eqb, ne_eqb}
use Rattle.tw_msgs.specs.declared.message.Message.{Message}
use Rattle.tw_msgs.specs.Messages.{place, Sorted, IsBeforeFirst, at_or_before, same_message, without as without_message}
use Rattle.tw_msgs.proofs.Messages.{place-first, at_or_before-refl, at_or_before-trans, at_or_before-antisymm, same_message_is, same_message_from}
use Rattle.tw_heap.specs.declared.entries.Entry.{Entry}
use Rattle.tw_heap.specs.Order.{insert_by}
use Rattle.tw_heap.specs.Entries.{is_before, message_of, entry_of, without, first_of, IsRising, AreDistinct, AreBelow}
use Rattle.tw_heap.proofs.EntryOrder.{before-at_or_before, not_before-at_or_before}

-- ## An entry among others

-- an entry past another one that is before it, and right before one that is not
pub insert-past : (e y : Entry) (ys : List Entry) → is_before y e ≡ true → insert_by is_before e (y ∷ ys) ≡ y ∷ insert_by is_before e ys
insert-past e y ys is = ap (λ t. cond t (y ∷ insert_by is_before e ys) (e ∷ y ∷ ys)) is

pub insert-here : (e y : Entry) (ys : List Entry) → is_before y e ≡ false → insert_by is_before e (y ∷ ys) ≡ e ∷ y ∷ ys
insert-here e y ys is = ap (λ t. cond t (y ∷ insert_by is_before e ys) (e ∷ y ∷ ys)) is

-- the entry under the first index, and under another one
pub entry_of-first : (e : Entry) (es : List Entry) → entry_of e.index (e ∷ es) ≡ Some e
entry_of-first e es = ap (λ t. cond t (Some e) (entry_of e.index es)) (eq-eqb e.index e.index refl)

pub entry_of-behind : (index : ℕ) (e : Entry) (es : List Entry) → e.index ≢ index → entry_of index (e ∷ es) ≡ entry_of index es
entry_of-behind index e es differs = ap (λ t. cond t (Some e) (entry_of index es)) (ne_eqb e.index index differs)

pub without-first : (e : Entry) (es : List Entry) → without e.index (e ∷ es) ≡ es
without-first e es = ap (λ t. cond t es (e ∷ without e.index es)) (eq-eqb e.index e.index refl)

pub without-behind : (index : ℕ) (e : Entry) (es : List Entry) → e.index ≢ index → without index (e ∷ es) ≡ e ∷ without index es
without-behind index e es differs = ap (λ t. cond t es (e ∷ without index es)) (ne_eqb e.index index differs)

-- an index that is not under a list's entries is not that of the first, nor under those behind it
pub vacant-first : (index : ℕ) (e : Entry) (es : List Entry) → entry_of index (e ∷ es) ≡ None → e.index ≢ index
vacant-first index e es vacant same = let some = ap (λ t. cond t (Some e) (entry_of index es)) (sym (eq-eqb e.index index same)) ∙ vacant in absurd (cc)

pub vacant-behind : (index : ℕ) (e : Entry) (es : List Entry) → entry_of index (e ∷ es) ≡ None → entry_of index es ≡ None
vacant-behind index e es vacant = sym (entry_of-behind index e es (vacant-first index e es vacant)) ∙ vacant

-- the first entry stands under its index
pub first_of-there : (es : List Entry) → IfSome (first_of es) (λ e. entry_of e.index es ≡ Some e)
first_of-there [] = tt
first_of-there (e ∷ es) = entry_of-first e es

-- ## An entry goes

-- under each other index there is what there was
pub entry_of-without_other : (index other : ℕ) (es : List Entry) → other ≢ index → entry_of other (without index es) ≡ entry_of other es
entry_of-without_other index other [] differs = refl
entry_of-without_other index other (e ∷ es) differs =
    elim (cases_eq e.index index) [
      | inl same ↦
          ap (λ t. entry_of other (cond t es (e ∷ without index es))) (eq-eqb e.index index same)
          ∙ sym (entry_of-behind other e es (λ is. differs (sym is ∙ same)))
      | inr apart ↦
          ap (entry_of other) (without-behind index e es apart)
          ∙ ap (λ r. cond (e.index == other) (Some e) r) (entry_of-without_other index other es differs)
    ]

-- a message at or before the first of a list in order is at or before each
leads-entry : (m : Message) (index : ℕ) (e : Entry) (es : List Entry) → IsBeforeFirst m (map message_of es) → Sorted (map message_of es) → entry_of index es ≡ Some e → at_or_before m e.key ≡ true
leads-entry m index e [] leads sorted found = absurd (cc)
leads-entry m index e (y ∷ ys) leads sorted found =
    elim (cases_eq y.index index) [
      | inl same ↦
          let is : Some y ≡ Some e = sym (ap (λ t. cond t (Some y) (entry_of index ys)) (eq-eqb y.index index same)) ∙ found in
          let equal : y ≡ e = cc in
          subst (λ x. at_or_before m x.key ≡ true) equal leads
      | inr apart ↦ at_or_before-trans m y.key e.key leads (leads-entry y.key index e ys sorted.0 sorted.1 (sym (entry_of-behind index y ys apart) ∙ found))
    ]

-- of equal messages it makes no difference which one goes
equal-first : (m : Message) (index : ℕ) (e : Entry) (es : List Entry) → m ≡ e.key → IsBeforeFirst m (map message_of es) → Sorted (map message_of es) → entry_of index es ≡ Some e → e.key ∷ without_message e.key (map message_of es) ≡ map message_of es
equal-first m index e [] same leads sorted found = absurd (cc)
equal-first m index e (y ∷ ys) same leads sorted found =
    let below : at_or_before e.key y.key ≡ true = subst (λ k. at_or_before k y.key ≡ true) same leads in
    let above : at_or_before y.key e.key ≡ true = leads-entry y.key index e (y ∷ ys) (at_or_before-refl y.key) sorted found in
    let equal : e.key ≡ y.key = at_or_before-antisymm e.key y.key below above in
    ap (λ t. e.key ∷ cond t (map message_of ys) (y.key ∷ without_message e.key (map message_of ys))) (same_message_from e.key y.key equal)
    ∙ ap (λ k. k ∷ map message_of ys) equal

-- the messages are those that were there, without the first that equals its message
pub messages-without : (index : ℕ) (e : Entry) (es : List Entry) → Sorted (map message_of es) → entry_of index es ≡ Some e → map message_of (without index es) ≡ without_message e.key (map message_of es)
messages-without index e [] sorted found = absurd (cc)
messages-without index e (y ∷ ys) sorted found =
    elim (cases_eq y.index index) [
      | inl same ↦
          let is : Some y ≡ Some e = sym (ap (λ t. cond t (Some y) (entry_of index ys)) (eq-eqb y.index index same)) ∙ found in
          let equal : y ≡ e = cc in
          ap (λ t. map message_of (cond t ys (y ∷ without index ys))) (eq-eqb y.index index same)
          ∙ sym (ap (λ t. cond t (map message_of ys) (y.key ∷ without_message e.key (map message_of ys))) (same_message_from e.key y.key (ap (λ x. x.key) (sym equal))))
      | inr apart ↦
          let later = sym (entry_of-behind index y ys apart) ∙ found in
          ap (map message_of) (without-behind index y ys apart)
          ∙ ap (λ ms. y.key ∷ ms) (messages-without index e ys sorted.1 later)
          ∙ go later (same_message e.key y.key) refl
    ]
  where
    go : entry_of index ys ≡ Some e → (b : Bool) → same_message e.key y.key ≡ b → y.key ∷ without_message e.key (map message_of ys) ≡ without_message e.key (y.key ∷ map message_of ys)
    go later false is = sym (ap (λ t. cond t (map message_of ys) (y.key ∷ without_message e.key (map message_of ys))) is)
    go later true is =
        let same : e.key ≡ y.key = same_message_is e.key y.key is in
        ap (λ k. k ∷ without_message e.key (map message_of ys)) (sym same)
        ∙ equal-first y.key index e ys (sym same) sorted.0 sorted.1 later
        ∙ sym (ap (λ t. cond t (map message_of ys) (y.key ∷ without_message e.key (map message_of ys))) is)

-- ## An entry comes

-- under its own index there is the entry
pub entry_of-insert : (e : Entry) (es : List Entry) → entry_of e.index es ≡ None → entry_of e.index (insert_by is_before e es) ≡ Some e
entry_of-insert e [] vacant = entry_of-first e []
entry_of-insert e (y ∷ ys) vacant = go (entry_of-insert e ys (vacant-behind e.index y ys vacant)) (is_before y e) refl
  where
    go : entry_of e.index (insert_by is_before e ys) ≡ Some e → (b : Bool) → is_before y e ≡ b → entry_of e.index (insert_by is_before e (y ∷ ys)) ≡ Some e
    go rest false is = ap (entry_of e.index) (insert-here e y ys is) ∙ entry_of-first e (y ∷ ys)
    go rest true is = ap (entry_of e.index) (insert-past e y ys is) ∙ entry_of-behind e.index y (insert_by is_before e ys) (vacant-first e.index y ys vacant) ∙ rest

-- under each other index there is what there was
pub entry_of-insert_other : (index : ℕ) (e : Entry) (es : List Entry) → e.index ≢ index → entry_of index (insert_by is_before e es) ≡ entry_of index es
entry_of-insert_other index e [] differs = entry_of-behind index e [] differs
entry_of-insert_other index e (y ∷ ys) differs = go (entry_of-insert_other index e ys differs) (is_before y e) refl
  where
    go : entry_of index (insert_by is_before e ys) ≡ entry_of index ys → (b : Bool) → is_before y e ≡ b → entry_of index (insert_by is_before e (y ∷ ys)) ≡ entry_of index (y ∷ ys)
    go rest false is = ap (entry_of index) (insert-here e y ys is) ∙ entry_of-behind index e (y ∷ ys) differs
    go rest true is = ap (entry_of index) (insert-past e y ys is) ∙ ap (λ r. cond (y.index == index) (Some y) r) rest

-- the messages are those that were there, with its message at its place
pub messages-insert : (e : Entry) (es : List Entry) → Sorted (map message_of es) → map message_of (insert_by is_before e es) ≡ place e.key (map message_of es)
messages-insert e [] sorted = refl
messages-insert e (y ∷ ys) sorted = go (messages-insert e ys sorted.1) (is_before y e) refl
  where
    -- y comes first either way
    past : (b : Bool) → at_or_before e.key y.key ≡ b → map message_of (insert_by is_before e ys) ≡ place e.key (map message_of ys) → is_before y e ≡ true → y.key ∷ map message_of (insert_by is_before e ys) ≡ place e.key (y.key ∷ map message_of ys)
    past false is rest before = ap (λ ms. y.key ∷ ms) rest ∙ sym (ap (λ t. cond t (e.key ∷ y.key ∷ map message_of ys) (y.key ∷ place e.key (map message_of ys))) is)
    past true is rest before =
        let same : e.key ≡ y.key = at_or_before-antisymm e.key y.key is (before-at_or_before y e before) in
        let leads : IsBeforeFirst e.key (map message_of ys) = subst (λ m. IsBeforeFirst m (map message_of ys)) (sym same) sorted.0 in
        ap (λ ms. y.key ∷ ms) (rest ∙ place-first e.key (map message_of ys) leads)
        ∙ (λ i. sym same i ∷ same i ∷ map message_of ys)
        ∙ sym (ap (λ t. cond t (e.key ∷ y.key ∷ map message_of ys) (y.key ∷ place e.key (map message_of ys))) is)

    go : map message_of (insert_by is_before e ys) ≡ place e.key (map message_of ys) → (b : Bool) → is_before y e ≡ b → map message_of (insert_by is_before e (y ∷ ys)) ≡ place e.key (map message_of (y ∷ ys))
    go rest true is = ap (map message_of) (insert-past e y ys is) ∙ past (at_or_before e.key y.key) refl rest is
    go rest false is =
        ap (map message_of) (insert-here e y ys is)
        ∙ sym (ap (λ t. cond t (e.key ∷ y.key ∷ map message_of ys) (y.key ∷ place e.key (map message_of ys))) (not_before-at_or_before y e is))

-- ## What holds of all entries

pub rising-Sorted : (es : List Entry) → IsRising es → Sorted (map message_of es)
rising-Sorted [] rising = tt
rising-Sorted (e ∷ []) rising = (tt, tt)
rising-Sorted (e ∷ y ∷ ys) rising = (before-at_or_before e y rising.0, rising-Sorted (y ∷ ys) rising.1)

pub distinct-insert : (e : Entry) (es : List Entry) → entry_of e.index es ≡ None → AreDistinct es → AreDistinct (insert_by is_before e es)
distinct-insert e [] vacant distinct = (refl, tt)
distinct-insert e (y ∷ ys) vacant distinct = go (distinct-insert e ys (vacant-behind e.index y ys vacant) distinct.1) (is_before y e) refl
  where
    go : AreDistinct (insert_by is_before e ys) → (b : Bool) → is_before y e ≡ b → AreDistinct (insert_by is_before e (y ∷ ys))
    go rest false is = subst (λ l. AreDistinct l) (sym (insert-here e y ys is)) (vacant, distinct)
    go rest true is =
        subst (λ l. AreDistinct l) (sym (insert-past e y ys is))
        (entry_of-insert_other y.index e ys (λ same. vacant-first e.index y ys vacant (sym same)) ∙ distinct.0, rest)

pub below-insert : (e : Entry) (es : List Entry) (top : ℕ) → e.index < top → AreBelow es top → AreBelow (insert_by is_before e es) top
below-insert e [] top inside below = (inside, tt)
below-insert e (y ∷ ys) top inside below = go (below-insert e ys top inside below.1) (is_before y e) refl
  where
    go : AreBelow (insert_by is_before e ys) top → (b : Bool) → is_before y e ≡ b → AreBelow (insert_by is_before e (y ∷ ys)) top
    go rest false is = subst (λ l. AreBelow l top) (sym (insert-here e y ys is)) (inside, below)
    go rest true is = subst (λ l. AreBelow l top) (sym (insert-past e y ys is)) (below.0, rest)

pub below-more : (es : List Entry) (top more : ℕ) → top ≤ more → AreBelow es top → AreBelow es more
below-more [] top more less below = tt
below-more (e ∷ es) top more less below = (omega (arith, below.0, less), below-more es top more less below.1)

-- the entries behind the first
pub record Behind (es : List Entry) (e : Entry) : Type 0 where
  pub rest : List Entry
  pub split : es ≡ e ∷ rest

pub behind_first : (es : List Entry) (e : Entry) → Some e ≡ first_of es → Behind es e
behind_first [] e is = absurd (cc)
behind_first (x ∷ es) e is = let same : x ≡ e = cc in record { rest = es; split = ap (λ y. y ∷ es) same }
