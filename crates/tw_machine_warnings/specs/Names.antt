-- What is odd about the names that a machine declares.
--     name_warnings place d k names      of these names, of which the first has number k in the machine's texts
--     index_warnings place t k names      of the places of these names in one text
use Rattle.std.specs.Prelude.{◌+◌, ◌==◌, ◌++◌, [], ◌∷◌, ℕ, ℤ, pos, negsuc, List, Bool, true, false, not, ◌||◌, codes, length, Option, Some, None, unwrap_or, if◌then◌else◌}
use Rattle.std.specs.List.{list_any}
use Rattle.tw_machine_text.specs.Letters.{functions}
use Rattle.tw_machine_text.specs.Text.{position}
use Rattle.tw_machine_declaration.specs.Seen.{Declaration, Declares, Name, parameter, list_parameter, register, registers, queue, queues, table, list_table, observation, procedure, timer, timer_array, fixed, field, number as plain_number, together, greatest, due, next}
use Rattle.tw_machine_declaration.specs.declared.declaration.Timer.{Timer}
use Rattle.tw_machine_declaration.specs.declared.declaration.Constant.{Constant}
use Rattle.tw_machine_declaration.specs.declared.declaration.Constant.TheVariants as c
use Rattle.tw_machine_warnings.specs.declared.deeds.Doing.TheVariants as doing
use Rattle.tw_machine_warnings.specs.declared.sought.Called.{Called}
use Rattle.tw_machine_warnings.specs.declared.sought.Sought.TheVariants as s
use Rattle.tw_machine_warnings.specs.declared.warning.Kind.TheVariants as kind
use Rattle.tw_machine_warnings.specs.Starts.{never_runs}
use Rattle.tw_machine_warnings.specs.Texts.{Text, does_machine, in_machine, in_text}
use Rattle.tw_machine_warnings.specs.Warning.{Warning, where_so}

-- the name with this number; a text has one that is a function's too by the function's number
abbrev pub called : ℕ → List ℕ → Called
called number name = record { number = number; function = unwrap_or (position 0 functions name) number }

-- ---- constants that parameters are

abbrev pub is_parameter : ℕ → Constant → Bool
is_parameter k (c.Number n) = false
is_parameter k (c.Parameter j) = j == k

abbrev pub is_some_parameter : ℕ → Option Constant → Bool
is_some_parameter k (Some c) = is_parameter k c
is_some_parameter k None = false

-- a timer's count, or when it is first due
abbrev pub timer_uses : ℕ → Timer → Bool
timer_uses k t = is_some_parameter k t.count || is_some_parameter k t.first

-- what starts with it, or has it for a room or a count; of timers their ticks
abbrev pub thing_uses : ℕ → Declares → Bool
thing_uses k (register c) = is_parameter k c
thing_uses k (registers cs) = list_any (is_parameter k) cs
thing_uses k (queue c) = is_parameter k c
thing_uses k (queues n c) = is_parameter k n || is_parameter k c
thing_uses k (due ts) = list_any (timer_uses k) ts.each || is_some_parameter k ts.least
thing_uses k _ = false

abbrev pub constant_uses : ℕ → Declaration → Bool
constant_uses k d =
    list_any (λ (n : Name). thing_uses k n.1) d.names || (is_parameter k d.random || (is_some_parameter k d.first || is_some_parameter k d.longest))

-- ---- read and set

abbrev pub is_read : Declaration → Called → Bool
is_read d c = in_machine (s.Named c) d

abbrev pub is_set : Declaration → Called → Bool
is_set d c = does_machine (doing.Sets c) d

-- of a register or a queue: it is for being set and read
abbrev pub held_warnings : Declaration → Called → List ℕ → List Warning
held_warnings d by place = if is_read d by then where_so (not (is_set d by)) place kind.NotSet else where_so true place kind.NotRead

-- a list is read by the table that has its name; observations are shown or not, procedures are put in; a timer runs; of what the file says, and of what is hidden, nothing is said
abbrev pub thing_warnings : Declaration → Called → List ℕ → Declares → List Warning
thing_warnings d by place (parameter k) = where_so (not (is_read d by || constant_uses k d)) place kind.NotRead
thing_warnings d by place (list_parameter k) = []
thing_warnings d by place (register c) = held_warnings d by place
thing_warnings d by place (registers cs) = held_warnings d by place
thing_warnings d by place (queue c) = held_warnings d by place
thing_warnings d by place (queues n c) = held_warnings d by place
thing_warnings d by place (table ns) = where_so (not (is_read d by)) place kind.NotRead
thing_warnings d by place (list_table k) = where_so (not (is_read d by)) place kind.NotRead
thing_warnings d by place observation = []
thing_warnings d by place (procedure k) = []
thing_warnings d by place (timer before) = where_so (never_runs d before) place kind.NeverRuns
thing_warnings d by place (timer_array before last) = where_so (never_runs d before) place kind.NeverRuns
thing_warnings d by place (fixed n) = []
thing_warnings d by place field = []
thing_warnings d by place (plain_number c) = []
thing_warnings d by place (together ts) = []
thing_warnings d by place (greatest t) = []
thing_warnings d by place (due ts) = []
thing_warnings d by place (next ts) = []

-- a name behind the place that it stands in
abbrev pub name_place : List ℕ → List ℕ → List ℕ
name_place place name = place ++ (codes ", \"" ++ (name ++ codes "\""))

abbrev pub name_warnings : List ℕ → Declaration → ℕ → List Name → List Warning
name_warnings place d number [] = []
name_warnings place d number (n ∷ ns) =
    thing_warnings d (called number n.0) (name_place place n.0) n.1 ++ name_warnings place d (number + 1) ns

-- ---- places

abbrev pub natural_of : ℤ → ℕ
natural_of (pos n) = n
natural_of (negsuc n) = 0

-- how many places there are, where the machine says it itself
abbrev pub places_of : Declares → Option ℕ
places_of (registers cs) = Some (length cs)
places_of (queues (c.Number n) room) = Some (natural_of n)
places_of (table ns) = Some (length ns)
places_of _ = None

-- how many numbers a table has, where they stand in the machine
abbrev pub numbers_of : Declares → Option ℕ
numbers_of (table ns) = Some (length ns)
numbers_of _ = None

abbrev pub outside_warnings : Text → Called → List ℕ → Option ℕ → List Warning
outside_warnings t by place (Some many) = where_so (in_text (s.Outside by many) t) place kind.IndexPast
outside_warnings t by place None = []

abbrev pub chance_warnings : Text → Called → List ℕ → Option ℕ → List Warning
chance_warnings t by place (Some many) = where_so (in_text (s.Chance by many) t) place kind.RandomIndex
chance_warnings t by place None = []

abbrev pub place_warnings : Text → Called → List ℕ → Declares → List Warning
place_warnings t by place thing = outside_warnings t by place (places_of thing) ++ chance_warnings t by place (numbers_of thing)

abbrev pub index_warnings : List ℕ → Text → ℕ → List Name → List Warning
index_warnings place t number [] = []
index_warnings place t number (n ∷ ns) =
    place_warnings t (called number n.0) (name_place place n.0) n.1 ++ index_warnings place t (number + 1) ns
