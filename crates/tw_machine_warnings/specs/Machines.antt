-- The warnings of the machines of a file: machines in order, of each its names in order, its programs, what it sends, what it shows, and then the whole.
--     machine_warnings place d      of a machine
--     machines_warnings file i ms      of those that a component of the file uses, of which the first has place i
use Rattle.std.specs.Prelude.{◌+◌, ◌++◌, [], ◌∷◌, ℕ, List, Bool, true, false, not, ◌&&◌, codes, Option, Some, None, if◌then◌else◌}
use Rattle.std.specs.Fmt.{decimal}
use Rattle.serde_json.specs.Data.{Data}
use Rattle.tw_machine_text.specs.Kinds.{is_empty}
use Rattle.tw_machine_text.specs.Letters.{own_names}
use Rattle.tw_machine_text.specs.Tree.{Block}
use Rattle.tw_machine_declaration.specs.Seen.{Declaration, Name, Output, Timers, Value}
use Rattle.tw_machine_file.specs.Seen.{Machine}
use Rattle.tw_machine_file.specs.Used.{is_used}
use Rattle.tw_machine_warnings.specs.declared.deeds.Doing.TheVariants as doing
use Rattle.tw_machine_warnings.specs.declared.sought.Sought.TheVariants as s
use Rattle.tw_machine_warnings.specs.declared.warning.Kind.TheVariants as kind
use Rattle.tw_machine_warnings.specs.Deeds.{does, waits_twice}
use Rattle.tw_machine_warnings.specs.Names.{index_warnings, name_warnings}
use Rattle.tw_machine_warnings.specs.Sought.{in_block}
use Rattle.tw_machine_warnings.specs.Starts.{has_first}
use Rattle.tw_machine_warnings.specs.Texts.{does_machine, has_zero, has_zero_output, has_zero_word, in_output, in_value, is_past, program, sending, shown}
use Rattle.tw_machine_warnings.specs.Warning.{Warning, where_so}

-- ---- members

-- what timers do and send stands together in the core of the language, and so does what is odd about it
abbrev pub is_given : Option Timers → Bool
is_given (Some ts) = true
is_given None = false

abbrev pub has_timers : Declaration → Bool
has_timers d = is_given d.timers

abbrev pub acting_member : Bool → List ℕ
acting_member timed = if timed then codes "timers" else codes "internal"

abbrev pub sending_member : Bool → List ℕ
sending_member timed = if timed then codes "timers" else codes "output"

-- ---- programs

-- a random number is read, and the program never draws
abbrev pub never_draws : Block → Bool
never_draws b = in_block s.Random b && not (does doing.Draws b)

abbrev pub program_warnings : List ℕ → Bool → Block → List Name → List Warning
program_warnings place has_zero b names =
    where_so (never_draws b) place kind.NeverDraws
    ++ (where_so has_zero place kind.AlwaysZero
    ++ (where_so (waits_twice b) place kind.TwoWaits
    ++ (where_so (does doing.WaitsBack b) place kind.NegativeWait
    ++ index_warnings place (program b) own_names names)))

-- ---- what is sent and shown

abbrev pub output_warnings : List ℕ → Bool → Output → List Name → List Warning
output_warnings place draws o names =
    where_so (in_output s.Random o && not draws) place kind.NeverDraws
    ++ (where_so (is_past o.port) place kind.PortPast
    ++ (where_so (has_zero_output o) place kind.AlwaysZero
    ++ index_warnings place (sending o) own_names names))

abbrev pub word_warnings : List ℕ → Bool → Value → List Name → List Warning
word_warnings place draws v names =
    where_so (in_value s.Random v && not draws) place kind.NeverDraws
    ++ (where_so (has_zero_word v) place kind.AlwaysZero
    ++ index_warnings place (shown v) own_names names)

-- an entry by its place, from 0
abbrev pub entry_place : List ℕ → ℕ → List ℕ
entry_place place i = place ++ (codes "[" ++ (decimal i ++ codes "]"))

-- of timers it is not told
abbrev pub sent_place : Bool → List ℕ → ℕ → List ℕ
sent_place timed place i = if timed then place else entry_place place i

abbrev pub outputs_warnings : List ℕ → Bool → Bool → List Name → ℕ → List Output → List Warning
outputs_warnings place timed draws names i [] = []
outputs_warnings place timed draws names i (o ∷ os) =
    output_warnings (sent_place timed place i) draws o names ++ outputs_warnings place timed draws names (i + 1) os

abbrev pub words_warnings : List ℕ → Bool → List Name → ℕ → List Value → List Warning
words_warnings place draws names i [] = []
words_warnings place draws names i (v ∷ vs) =
    word_warnings (entry_place place i) draws v names ++ words_warnings place draws names (i + 1) vs

-- ---- the whole machine

abbrev pub is_none : List Output → Bool
is_none [] = true
is_none _ = false

-- it has something to do when it steps
abbrev pub acts : Declaration → Bool
acts d = not (is_empty d.internal && is_none d.outputs)

-- without a first wait only `external` can make it step; with one it steps once; a machine with timers steps by these
abbrev pub step_warnings : List ℕ → Declaration → List Warning
step_warnings place d =
    if has_timers d
    then []
    else if has_first d.first
    then where_so (acts d && not (does_machine doing.Waits d)) place kind.StepsOnce
    else where_so (acts d && not (does doing.Waits d.external)) place kind.NeverSteps

-- a member of a machine
abbrev pub member_place : List ℕ → List ℕ → List ℕ
member_place place member = place ++ (codes ": " ++ member)

-- what it does by itself, and when items come
abbrev pub internal_warnings : List ℕ → Declaration → List Warning
internal_warnings place d = program_warnings (member_place place (acting_member (has_timers d))) (has_zero d.internal) d.internal d.names

abbrev pub external_warnings : List ℕ → Declaration → List Warning
external_warnings place d = program_warnings (member_place place (codes "external")) false d.external d.names

abbrev pub sent_warnings : List ℕ → Declaration → List Warning
sent_warnings place d = outputs_warnings (member_place place (sending_member (has_timers d))) (has_timers d) (does_machine doing.Draws d) d.names 0 d.outputs

abbrev pub shown_warnings : List ℕ → Declaration → List Warning
shown_warnings place d = words_warnings (member_place place (codes "words")) (does_machine doing.Draws d) d.names 0 d.words

abbrev pub texts_warnings : List ℕ → Declaration → List Warning
texts_warnings place d =
    internal_warnings place d
    ++ (external_warnings place d
    ++ (sent_warnings place d
    ++ shown_warnings place d))

abbrev pub machine_warnings : List ℕ → Declaration → List Warning
machine_warnings place d = name_warnings place d own_names d.names ++ (texts_warnings place d ++ step_warnings place d)

-- ---- the machines of a file

-- as faults name it
abbrev pub machine_place : ℕ → List ℕ → List ℕ
machine_place i name = codes "models[" ++ (decimal i ++ (codes "] \"" ++ (name ++ codes "\"")))

-- these where something is so
abbrev pub all_where : Bool → List Warning → List Warning
all_where true ws = ws
all_where false ws = []

-- of the machine of this name at place i, if a component of the file uses it
abbrev pub named_warnings : Data → ℕ → List ℕ → Declaration → List Warning
named_warnings file i name d = all_where (is_used file name) (machine_warnings (machine_place i name) d)

abbrev pub used_warnings : Data → ℕ → Machine → List Warning
used_warnings file i m = named_warnings file i m.name m.declaration

abbrev pub machines_warnings : Data → ℕ → List Machine → List Warning
machines_warnings file i [] = []
machines_warnings file i (m ∷ ms) = used_warnings file i m ++ machines_warnings file (i + 1) ms
