-- Parts of a JSON value.
use Rattle.std.specs.Prelude.{ℕ, List, Bool, true, ◌&&◌, nat_le}
use Rattle.serde_json.specs.Data.{Items, Members, no_members, member}
use Rattle.serde_json.specs.Events.{items_len}
use Rattle.tw_machine_file.specs.Names.{is_among}

-- whether each member has one of these names
abbrev pub are_among : List (List ℕ) → Members → Bool
are_among names no_members = true
are_among names (member name d ms) = is_among names name && are_among names ms

-- 1 to so many items
abbrev pub is_long : ℕ → Items → Bool
is_long most items = nat_le 1 (items_len items) && nat_le (items_len items) most
