-- What contracts see of mailboxes.
use Rattle.std.specs.Prelude.{ℕ, ⊤, ◌≡◌, ◌+◌, ◌<◌, ◌≤◌, ◌==◌, List, [], length, min, slice_index_or, sum_by, Option, None, Some, if◌then◌else◌}
use Rattle.tw_msgs.specs.declared.message.Item.{Item}
use Rattle.tw_theory.specs.Bundles.{least_stamp}

pub record Mail : Type 0 where
  -- the items of each mailbox, in order
  pub boxes : List (List Item)
  -- the mailbox and the place that an item has just left
  pub taken : Option (ℕ × ℕ)

-- these mailboxes, of which no place is kept free
abbrev pub mail : List (List Item) → Mail
mail boxes = record { boxes = boxes; taken = None }

-- these mailboxes, where an item has just left this place of this mailbox
abbrev pub mail_after : ℕ → ℕ → List (List Item) → Mail
mail_after to place boxes = record { boxes = boxes; taken = Some (to, place) }

-- one mailbox: its items in order, and for how many more there is room before and behind them
pub record Held : Type 0 where
  pub items : List Item
  pub before : ℕ
  pub behind : ℕ

abbrev pub HasRoom : Held → Type 0
HasRoom box = 0 < box.before + box.behind

-- a mailbox of no items
abbrev pub nothing : Held
nothing = record { items = []; before = 0; behind = 0 }

-- the mailbox that an item has just left has room for it
abbrev pub HasPlace : List Held → Option (ℕ × ℕ) → Type 0
HasPlace boxes None = ⊤
HasPlace boxes (Some t) = (t.0 < length boxes) × (t.1 ≤ length (slice_index_or boxes t.0 nothing).items) × HasRoom (slice_index_or boxes t.0 nothing)

-- ---- the least stamp of a mailbox, as it is kept

-- how many items are of this stamp
abbrev pub count_at : ℕ → List Item → ℕ
count_at s items = sum_by (λ i. if i.message.stamp == s then 1 else 0) items

-- if n is not 0, s is the least stamp of the items, and at least n have it
abbrev pub IsLeastOf : ℕ → ℕ → List Item → Type 0
IsLeastOf s n items = 0 < n → (s ≡ least_stamp items) × (n ≤ count_at s items)

-- the second list has an item of stamp s more than the first
pub record IsWith (s : ℕ) (items more : List Item) : Type 0 where
  pub least : least_stamp more ≡ min s (least_stamp items)
  pub count : (t : ℕ) → count_at t more ≡ count_at t items + (if s == t then 1 else 0)
