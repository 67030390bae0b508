-- The components of a network that are shown.
--     parted only      the names in a list that commas part
--     shown_of names only      whether each component is shown: all, or those of the names in a list; none where a name there is no component's
--     is_shown shown c      whether the component of a number is
--     of_shown shown records      the records of those that are
use Rattle.std.specs.Prelude.{◌==◌, ℕ, List, Bool, true, false, Option, Some, None, filter, length, map, replicate, slice_index_or, if◌then◌else◌}
use Rattle.std.specs.List.{list_all, list_any, slice_split}
use Rattle.std.specs.Str.{bytes_eq}
use Rattle.tw_msgs.specs.declared.record.Record.{Record}

-- 44 is a comma
abbrev pub parted : List ℕ → List (List ℕ)
parted only = slice_split (λ b. b == 44) only

abbrev pub is_among : List (List ℕ) → List ℕ → Bool
is_among names name = list_any (λ one. bytes_eq one name) names

abbrev pub shown_among : List (List ℕ) → List (List ℕ) → Option (List Bool)
shown_among names wanted = if list_all (is_among names) wanted then Some (map (is_among wanted) names) else None

abbrev pub shown_of : List (List ℕ) → Option (List ℕ) → Option (List Bool)
shown_of names None = Some (replicate (length names) true)
shown_of names (Some only) = shown_among names (parted only)

abbrev pub is_shown : List Bool → ℕ → Bool
is_shown shown c = slice_index_or shown c false

abbrev pub of_shown : List Bool → List Record → List Record
of_shown shown records = filter (λ r. is_shown shown r.component) records
