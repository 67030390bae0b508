-- Figures: numbers that the words of a component's state tell, and how they went.
--     value_of measure words      the number that a figure tells of a state
--     transitions rs      the records of transitions among these
--     before t rs, from_on t rs      those at the ticks before t, and those at t or later
--     words_at start moves t      the words of the state after all transitions of a tick up to t: the state in which the component is until the next tick
--     value_at measure start moves t, busy_at measure start moves t      the figure in that state, and 1 where it is not 0
--     words_before from start moves      the words of the state in which the component comes to a tick
--     values measure start moves      all values that it had, at the start and after each transition
--     values_from measure from start moves      all values that it had from a tick on: the one with which it came to that tick, and those after each transition from there on
--     sum_over n of      the sum of a number of each tick, over the ticks before n
--     sum_from from n of      the same over n ticks, of which `from` is the first
--     IsLeast x xs, IsGreatest x xs      x is one of them, and none is less or greater
--     IsNext records r      no record is of a later tick than the record that comes next
--     IsSteady rs      no record is of a later tick than one behind it, and none stands at the end of time
--     IsCourse from start moves course      how a figure went from a tick on, over the ticks before its last transition
use Rattle.std.specs.Prelude.{◌≡◌, ◌≢◌, ◌≤◌, ◌++◌, ◌+◌, ◌-◌, ◌≤ℤ◌, ◌+ℤ◌, ℕ, zero, suc, ℤ, pos, List, [], ◌∷◌, Bool, true, false, length, map, filter, nat_le, nat_lt, if◌then◌else◌, slice_index_or}
use Rattle.std.specs.List.{AllByRecursion as Each, Contains}
use Rattle.std.specs.Ordering.{int_eq}
use Rattle.tw_msgs.specs.declared.record.Record.{Record}
use Rattle.tw_msgs.specs.declared.record_kind.RecordKind.TheVariants.{Out, Int, Ext, Con}
use Rattle.tw_vtime.specs.Stamps.{never, tick_of}
use Rattle.tw_figures.specs.declared.course.Course.{Course}
use Rattle.tw_figures.specs.declared.figure.Measure.{Measure}
use Rattle.tw_figures.specs.declared.figure.Measure.TheVariants.{Word, Beyond}

abbrev pub value_of : Measure → List ℤ → ℤ
value_of (Word place) words = slice_index_or words place (pos 0)
value_of (Beyond count) words = pos (length words - count)

abbrev pub is_transition : Record → Bool
is_transition r = elim r.kind [ Out ↦ false | Int ↦ true | Ext ↦ true | Con ↦ true ]

abbrev pub transitions : List Record → List Record
transitions records = filter is_transition records

abbrev pub before : ℕ → List Record → List Record
before t records = filter (λ r. nat_lt (tick_of r.stamp) t) records

abbrev pub from_on : ℕ → List Record → List Record
from_on t records = filter (λ r. nat_le t (tick_of r.stamp)) records

-- the last of a list behind x
abbrev pub last_of : {X : Type 0} → X → List X → X
last_of x [] = x
last_of x (y ∷ ys) = last_of y ys

abbrev pub words_after : List ℤ → List Record → List ℤ
words_after start moves = last_of start (map (λ r. r.words) moves)

abbrev pub up_to : ℕ → List Record → List Record
up_to t moves = filter (λ r. nat_le (tick_of r.stamp) t) moves

unfoldable pub words_at : List ℤ → List Record → ℕ → List ℤ
words_at start moves t = words_after start (up_to t moves)

abbrev pub value_at : Measure → List ℤ → List Record → ℕ → ℤ
value_at measure start moves t = value_of measure (words_at start moves t)

abbrev pub one_if_some : ℤ → ℤ
one_if_some value = if int_eq value (pos 0) then pos 0 else pos 1

abbrev pub busy_at : Measure → List ℤ → List Record → ℕ → ℤ
busy_at measure start moves t = one_if_some (value_at measure start moves t)

abbrev pub values : Measure → List ℤ → List Record → List ℤ
values measure start moves = map (value_of measure) (start ∷ map (λ r. r.words) moves)

abbrev pub words_before : ℕ → List ℤ → List Record → List ℤ
words_before from start moves = words_after start (before from moves)

-- a value that it leaves at the first tick itself is one of them
abbrev pub values_from : Measure → ℕ → List ℤ → List Record → List ℤ
values_from measure from start moves = values measure (words_before from start moves) (from_on from moves)

unfoldable pub sum_over : ℕ → (ℕ → ℤ) → ℤ
sum_over zero of = pos 0
sum_over (suc n) of = sum_over n of +ℤ of n

abbrev pub sum_from : ℕ → ℕ → (ℕ → ℤ) → ℤ
sum_from from n of = sum_over n (λ t. of (from + t))

pub record IsLeast (x : ℤ) (xs : List ℤ) : Type 0 where
  pub one : Contains xs x
  pub least : Each (λ y. x ≤ℤ y) xs

pub record IsGreatest (x : ℤ) (xs : List ℤ) : Type 0 where
  pub one : Contains xs x
  pub greatest : Each (λ y. y ≤ℤ x) xs

-- no record is of a later tick than the next one
abbrev pub IsNext : List Record → Record → Type 0
IsNext records r = Each (λ x. tick_of x.stamp ≤ tick_of r.stamp) records

-- so no record is of a later tick than one behind it, and none stands at the end of time
pub record IsSteady (rs : List Record) : Type 0 where
  pub each : (front back : List Record) (r : Record) → rs ≡ front ++ r ∷ back → IsNext front r × (r.stamp ≢ never)

-- `since` is the tick of its last transition, or `from` where there is none from there on: the least tick not before `from` that none of them passes
pub record IsCourse (from : ℕ) (start : List ℤ) (moves : List Record) (course : Course) : Type 0 where
  pub least : IsLeast course.least (values_from course.measure from start moves)
  pub greatest : IsGreatest course.greatest (values_from course.measure from start moves)
  pub last : course.last ≡ value_of course.measure (words_after start moves)
  pub begun : from ≤ course.since
  pub past : Each (λ r. tick_of r.stamp ≤ course.since) moves
  pub since : (t : ℕ) → from ≤ t → Each (λ r. tick_of r.stamp ≤ t) moves → course.since ≤ t
  pub sum : course.sum ≡ sum_from from (course.since - from) (value_at course.measure start moves)
  pub busy : pos course.busy ≡ sum_from from (course.since - from) (busy_at course.measure start moves)
