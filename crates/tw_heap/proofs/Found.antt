-- What a message looked for finds: the entry at a place is the one under its index, and a message at no place is in no list.
use Rattle.std.proofs.Common.{◌≡◌, ◌≢◌, ℕ, zero, suc, ◌<◌, Bool, true, false, ◌||◌, List, [], ◌∷◌, length, map, Some, cond, refl, sym, ap, ◌∙◌, inl, inr, arith}
use Rattle.std.proofs.lemmas.Bool.{cases_Bool, cases_eq}
use Rattle.tw_msgs.specs.declared.message.Message.{Message}
use Rattle.tw_msgs.specs.Messages.{has, same_message}
use Rattle.tw_msgs.proofs.Messages.{same_message_is}
use Rattle.tw_heap.specs.declared.entries.Entry.{Entry}
use Rattle.tw_heap.specs.Order.{insert_by, sort_by}
use Rattle.tw_heap.specs.Entries.{is_before, entry_of, message_of, AreDistinct}
use Rattle.tw_heap.specs.Heap.{at}
use Rattle.tw_heap.proofs.EntriesByIndex.{entry_of-first, entry_of-behind, entry_of-insert, entry_of-insert_other}
use Rattle.tw_heap.proofs.EntriesRise.{vacant-sorted}

entry_at : (es : List Entry) → AreDistinct es → (k : ℕ) → k < length es → entry_of (at es k).index es ≡ Some (at es k)
entry_at [] distinct k inside = absurd (omega (arith, inside))
entry_at (e ∷ es) distinct zero inside = entry_of-first e es
entry_at (e ∷ es) distinct (suc k) inside =
    let there = entry_at es distinct.1 k (omega (arith, inside)) in
    entry_of-behind (at es k).index e es (λ same. let none = sym (ap (λ i. entry_of i es) same ∙ there) ∙ distinct.0 in cc none) ∙ there

entry_sorted : (index : ℕ) (found : Entry) (es : List Entry) → AreDistinct es → entry_of index es ≡ Some found → entry_of index (sort_by is_before es) ≡ Some found
entry_sorted index found [] distinct is = absurd (cc is)
entry_sorted index found (e ∷ es) distinct is =
    elim (cases_eq e.index index) [
      | inl same ↦
          let one : Some e ≡ Some found = sym (entry_of-first e es) ∙ ap (λ i. entry_of i (e ∷ es)) same ∙ is in
          ap (λ i. entry_of i (insert_by is_before e (sort_by is_before es))) (sym same)
          ∙ entry_of-insert e (sort_by is_before es) (vacant-sorted e.index es distinct.0) ∙ one
      | inr differs ↦
          entry_of-insert_other index e (sort_by is_before es) differs
          ∙ entry_sorted index found es distinct.1 (sym (entry_of-behind index e es differs) ∙ is)
    ]

-- the entry at a place stands under its index
pub placed_entry : (es : List Entry) → AreDistinct es → (k : ℕ) → k < length es → entry_of (at es k).index (sort_by is_before es) ≡ Some (at es k)
placed_entry es distinct k inside = entry_sorted (at es k).index (at es k) es distinct (entry_at es distinct k inside)

not_same : (m n : Message) → n ≢ m → same_message m n ≡ false
not_same m n differs = elim (cases_Bool (same_message m n)) [
  | inl is ↦ absurd (differs (sym (same_message_is m n is)))
  | inr not ↦ not
]

lacks_insert : (m : Message) (e : Entry) (es : List Entry) → same_message m e.key ≡ false → has m (map message_of es) ≡ false → has m (map message_of (insert_by is_before e es)) ≡ false
lacks_insert m e [] here none = ap (λ b. b || false) here
lacks_insert m e (x ∷ es) here none = go (λ n. lacks_insert m e es here n) (is_before x e) refl (same_message m x.key) refl
  where
    go : (has m (map message_of es) ≡ false → has m (map message_of (insert_by is_before e es)) ≡ false) → (b : Bool) → is_before x e ≡ b → (t : Bool) → same_message m x.key ≡ t → has m (map message_of (insert_by is_before e (x ∷ es))) ≡ false
    go rest b first true is = let found = sym (ap (λ t. t || has m (map message_of es)) is) ∙ none in absurd (cc found)
    go rest true first false is =
        ap (λ b. has m (map message_of (cond b (x ∷ insert_by is_before e es) (e ∷ x ∷ es)))) first
        ∙ ap (λ t. t || has m (map message_of (insert_by is_before e es))) is
        ∙ rest (sym (ap (λ t. t || has m (map message_of es)) is) ∙ none)
    go rest false first false is =
        ap (λ b. has m (map message_of (cond b (x ∷ insert_by is_before e es) (e ∷ x ∷ es)))) first
        ∙ ap (λ t. t || has m (map message_of (x ∷ es))) here
        ∙ none

-- a message that no place has is none of the list
pub lacks : (m : Message) (es : List Entry) → ((k : ℕ) → k < length es → (at es k).key ≢ m) → has m (map message_of (sort_by is_before es)) ≡ false
lacks m [] none = refl
lacks m (e ∷ es) none =
    lacks_insert m e (sort_by is_before es) (not_same m e.key (none 0 (omega arith)))
    (lacks m es (λ k inside. none (suc k) (omega (arith, inside))))
