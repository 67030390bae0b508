-- The rule of a board's two words: the word 0 is the number of the greatest stamp that the publisher has posted, the word 1 the
-- greatest count, 0 before any. No end has seen a greater one.
--     IsKept s      the board keeps the rule
--     HasSeenGvt v n w, HasFoundGvt v n w, HasPostedGvt k v w      a step of an end that knows v: it found n (posted k), and then knows w
--     HasSeenCommitted, HasFoundCommitted, HasPostedCommitted      the same at the word 1
use Rattle.std.specs.Prelude.{◌≡◌, ℕ, ◌≤◌, max, Bool, true, false, length, slice_index}
use mathlib.Core.Option.{some}
use lib.ListN.{get_elem?}
use Rattle.atomic_table.specs.Table.{State, Me}
use Rattle.tw_vtime.specs.Stamps.{IsStamp}
use Rattle.tw_theory.specs.Board.{Numbers, AtMost}
use Rattle.tw_board.specs.declared.rule.View.{View}

abbrev pub view : Bool → ℕ → ℕ → ℕ → ℕ → View
view posts gvt committed told_gvt told_committed = record { posts = posts; gvt = gvt; committed = committed; told_gvt = told_gvt; told_committed = told_committed }

-- a reader that has seen these
abbrev pub reader : ℕ → ℕ → View
reader gvt committed = view false gvt committed 0 0

-- what an end has posted or seen, and what it was told of
abbrev pub seen_by : View → Numbers
seen_by v = (v.gvt, v.committed)

abbrev pub told_to : View → Numbers
told_to v = (v.told_gvt, v.told_committed)

-- what an end knows is not above the words. The one publisher has the seat 0, and knows them exactly
pub record Fits (words : Numbers) (seat : ℕ) (v : View) : Type 0 where
  pub seen : AtMost (seen_by v) words
  pub told : AtMost (told_to v) words
  pub exact : v.posts ≡ true → (seat ≡ 0) × (v.gvt ≡ words.0) × (v.committed ≡ words.1)

abbrev pub words_of : State ℕ View → Numbers
words_of s = (slice_index s.words 0, slice_index s.words 1)

-- there are two words, the first is a stamp's number, and what each end knows fits them
pub record IsKept (s : State ℕ View) : Type 0 where
  pub two : length s.words ≡ 2
  pub is_stamp : IsStamp (slice_index s.words 0)
  pub fits : (seat : ℕ) (v : View) → get_elem? s.views seat ≡ some v → Fits (words_of s) seat v

-- a reader's load: it sees no less than before
abbrev pub HasSeenGvt : Me ℕ View → ℕ → Me ℕ View → Type 0
HasSeenGvt v n w = (w.0 ≡ record v.0 { gvt = n }) × (v.0.gvt ≤ n) × IsStamp n

abbrev pub HasSeenCommitted : Me ℕ View → ℕ → Me ℕ View → Type 0
HasSeenCommitted v n w = (w.0 ≡ record v.0 { committed = n }) × (v.0.committed ≤ n)

-- the publisher's load: it finds what was posted, which is not below what it was told of
abbrev pub HasFoundGvt : Me ℕ View → ℕ → Me ℕ View → Type 0
HasFoundGvt v n w = (w.0 ≡ v.0) × (n ≡ v.0.gvt) × (v.0.told_gvt ≤ n) × IsStamp n

abbrev pub HasFoundCommitted : Me ℕ View → ℕ → Me ℕ View → Type 0
HasFoundCommitted v n w = (w.0 ≡ v.0) × (n ≡ v.0.committed) × (v.0.told_committed ≤ n)

-- a post of the number k
abbrev pub HasPostedGvt : ℕ → Me ℕ View → Me ℕ View → Type 0
HasPostedGvt k v w = w.0 ≡ record v.0 { gvt = max v.0.gvt k }

abbrev pub HasPostedCommitted : ℕ → Me ℕ View → Me ℕ View → Type 0
HasPostedCommitted k v w = w.0 ≡ record v.0 { committed = max v.0.committed k }
