-- Columns that become one trace, a record at a time. No public clause cites this module.
--     head_before line rs      the stamp of the first of these records, where it is before the line; else the end
--     to_take line left      how many of the records that are left are before the line
--     IsMerging line columns left taken      of these columns, these records were taken so far, and those are left
--     IsReady line left heads len capacity      the heads of what is left are known, and there is room for all that is to be taken
use Rattle.std.specs.Prelude.{ℕ, ◌+◌, ◌≡◌, ◌≤◌, ◌++◌, List, [], ◌∷◌, length, map, nat_lt, if◌then◌else◌}
use Rattle.std.specs.List.{AllByRecursion as Each}
use Rattle.tw_fossils.specs.Columns.{IsColumn}
use Rattle.tw_msgs.specs.Counting.{total}
use Rattle.tw_msgs.specs.declared.record.Record.{Record}
use Rattle.tw_theory.specs.Executive.{column_of}
use Rattle.tw_theory.specs.Traces.{Precedes, IsTrace, before, of_component}
use Rattle.tw_vtime.specs.Stamps.{never}

abbrev pub head_before : ℕ → List Record → ℕ
head_before line [] = never
head_before line (r ∷ rs) = if nat_lt r.stamp line then r.stamp else never

abbrev pub to_take : ℕ → List (List Record) → ℕ
to_take line left = total (λ rs. length (before line rs)) left

pub record IsMerging (line : ℕ) (columns left : List (List Record)) (taken : List Record) : Type 0 where
  pub ordered : IsTrace taken
  pub parts : (c : ℕ) → of_component c taken ++ before line (column_of left c) ≡ before line (column_of columns c)
  pub own : (c : ℕ) → IsColumn c (column_of left c)
  pub later : (c : ℕ) → Each (λ y. Each (λ x. Precedes x y) taken) (column_of left c)

pub record IsReady (line : ℕ) (left : List (List Record)) (heads : List ℕ) (len capacity : ℕ) : Type 0 where
  pub heads_are : heads ≡ map (head_before line) left
  pub room : len + to_take line left ≤ capacity
