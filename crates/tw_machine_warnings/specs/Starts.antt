-- What starts by itself: a machine by its first wait, a timer by `first` or by `start`.
--     has_first c      there is a first wait, or a first tick, that is not negative
--     never_runs d before      a timer of a machine never runs
use Rattle.std.specs.Prelude.{◌-◌, [], ℕ, pos, negsuc, List, Bool, true, false, not, ◌||◌, length, Option, Some, None, slice_get}
use Rattle.tw_machine_text.specs.Letters.{own_names}
use Rattle.tw_machine_declaration.specs.Seen.{Declaration, Declares, Name, Timers, together}
use Rattle.tw_machine_declaration.specs.declared.declaration.Constant.{Constant}
use Rattle.tw_machine_declaration.specs.declared.declaration.Constant.TheVariants as c
use Rattle.tw_machine_declaration.specs.declared.declaration.Timer.{Timer}
use Rattle.tw_machine_warnings.specs.declared.deeds.Doing.TheVariants as doing
use Rattle.tw_machine_warnings.specs.Texts.{does_machine}

-- as far as its number stands in the machine
abbrev pub may_wait : Constant → Bool
may_wait (c.Number (pos n)) = true
may_wait (c.Number (negsuc n)) = false
may_wait (c.Parameter k) = true

abbrev pub has_first : Option Constant → Bool
has_first (Some c) = may_wait c
has_first None = false

-- how many timers are before one, by the name that stands for that
abbrev pub counted : Declares → ℕ
counted (together ts) = length ts
counted _ = 0

abbrev pub counted_by : Option Name → ℕ
counted_by (Some n) = counted n.1
counted_by None = 0

abbrev pub timers_before : List Name → ℕ → ℕ
timers_before names before = counted_by (slice_get names (before - own_names))

-- the timers of a machine, in the order of the file
abbrev pub each_timer : Option Timers → List Timer
each_timer (Some ts) = ts.each
each_timer None = []

abbrev pub runs_first : Option Timer → Bool
runs_first (Some t) = has_first t.first
runs_first None = false

-- a timer runs from the start on
abbrev pub runs_at_start : Declaration → ℕ → Bool
runs_at_start d before = runs_first (slice_get (each_timer d.timers) (timers_before d.names before))

-- nothing starts it
abbrev pub never_runs : Declaration → ℕ → Bool
never_runs d before = not (runs_at_start d before || does_machine (doing.Starts before) d)
