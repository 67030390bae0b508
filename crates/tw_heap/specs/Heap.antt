-- How an `EventHeap` lies in its two vectors, as a binary heap. No public clause cites this module.
use Rattle.std.specs.Prelude.{◌≡◌, ◌≢◌, ◌⊎◌, ℕ, ◌+◌, ◌<◌, false, List, length, slice_index_or, pos}
use Rattle.tw_heap.specs.declared.entries.Entry.{Entry}
use Rattle.tw_heap.specs.Entries.{is_before}

abbrev pub no_entry : Entry
no_entry = record { key = record { stamp = 0; port = 0; value = pos 0; to = 0 }; index = 0 }

-- the entry at a place
abbrev pub at : List Entry → ℕ → Entry
at es k = slice_index_or es k no_entry

-- the second place is right below the first
abbrev pub IsChild : ℕ → ℕ → Type 0
IsChild parent child = (child ≡ parent + parent + 1) ⊎ (child ≡ parent + parent + 2)

-- the entry at the first place is not before the one at the second
abbrev pub InOrder : List Entry → ℕ → ℕ → Type 0
InOrder es parent child = is_before (at es child) (at es parent) ≡ false

-- no entry is before its parent
abbrev pub IsHeap : List Entry → Type 0
IsHeap es = (p c : ℕ) → IsChild p c → c < length es → InOrder es p c

-- the same, but for the entry at k, which may be before its parent
pub record IsHeapAbove (es : List Entry) (k : ℕ) : Type 0 where
  pub others : (p c : ℕ) → IsChild p c → c < length es → c ≢ k → InOrder es p c
  pub around : (p c : ℕ) → IsChild p k → IsChild k c → c < length es → InOrder es p c

-- the same, but for the entry at k, which its children may be before
pub record IsHeapBelow (es : List Entry) (k : ℕ) : Type 0 where
  pub others : (p c : ℕ) → IsChild p c → c < length es → p ≢ k → InOrder es p c
  pub around : (p c : ℕ) → IsChild p k → IsChild k c → c < length es → InOrder es p c

-- the same, but for the entry at k, which may be before its parent, and its children before it
pub record IsHeapAround (es : List Entry) (k : ℕ) : Type 0 where
  pub others : (p c : ℕ) → IsChild p c → c < length es → c ≢ k → p ≢ k → InOrder es p c
  pub around : (p c : ℕ) → IsChild p k → IsChild k c → c < length es → InOrder es p c

-- each entry's place is kept under its index
abbrev pub IsPlaced : List Entry → List ℕ → Type 0
IsPlaced es places =
    (k : ℕ) → k < length es → ((at es k).index < length places) × (slice_index_or places (at es k).index 0 ≡ k)

-- what an `EventHeap` keeps
pub record IsKept (es : List Entry) (places : List ℕ) : Type 0 where
  pub placed : IsPlaced es places
  pub heap : IsHeap es
