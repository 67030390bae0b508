-- The table of refusals: the number and the name of each.
use Rattle.std.specs.Prelude.{ℕ, List, ◌++◌, codes}
use Rattle.std.specs.Fmt.{decimal}
use Rattle.tw_vtime.specs.declared.limits.Limit.{Limit}
use Rattle.tw_vtime.specs.declared.limits.Limit.TheVariants as limit
use Rattle.tw_vtime.specs.declared.refusal.Refusal.{Refusal}
use Rattle.tw_vtime.specs.declared.refusal.Refusal.TheVariants.{Range, Microstep, Tick, OutOfMemory, UnknownComponent, BadPort, SelfCoupling, DuplicateRoute, TooMany, BadTick, BadLimit, Full, Committed, BeforeGvt, NoSuch, NothingDue, BadName, DuplicateName, Unreadable, NotJson, BadShape, BadScript, BadLine, WriteFailed}

abbrev pub refusal_number : Refusal → ℕ
refusal_number Range = 1
refusal_number Microstep = 2
refusal_number Tick = 3
refusal_number OutOfMemory = 4
refusal_number UnknownComponent = 5
refusal_number BadPort = 6
refusal_number SelfCoupling = 7
refusal_number DuplicateRoute = 8
refusal_number TooMany = 9
refusal_number BadTick = 10
refusal_number BadLimit = 11
refusal_number Full = 12
refusal_number Committed = 13
refusal_number BeforeGvt = 14
refusal_number NoSuch = 15
refusal_number NothingDue = 16
refusal_number BadName = 17
refusal_number DuplicateName = 18
refusal_number Unreadable = 19
refusal_number NotJson = 20
refusal_number BadShape = 21
refusal_number BadScript = 22
refusal_number BadLine = 23
refusal_number WriteFailed = 24

abbrev pub refusal_name : Refusal → List ℕ
refusal_name Range = codes "Range"
refusal_name Microstep = codes "Microstep"
refusal_name Tick = codes "Tick"
refusal_name OutOfMemory = codes "OutOfMemory"
refusal_name UnknownComponent = codes "UnknownComponent"
refusal_name BadPort = codes "BadPort"
refusal_name SelfCoupling = codes "SelfCoupling"
refusal_name DuplicateRoute = codes "DuplicateRoute"
refusal_name TooMany = codes "TooMany"
refusal_name BadTick = codes "BadTick"
refusal_name BadLimit = codes "BadLimit"
refusal_name Full = codes "Full"
refusal_name Committed = codes "Committed"
refusal_name BeforeGvt = codes "BeforeGvt"
refusal_name NoSuch = codes "NoSuch"
refusal_name NothingDue = codes "NothingDue"
refusal_name BadName = codes "BadName"
refusal_name DuplicateName = codes "DuplicateName"
refusal_name Unreadable = codes "Unreadable"
refusal_name NotJson = codes "NotJson"
refusal_name BadShape = codes "BadShape"
refusal_name BadScript = codes "BadScript"
refusal_name BadLine = codes "BadLine"
refusal_name WriteFailed = codes "WriteFailed"

-- as the program prints it
abbrev pub refusal_text : Refusal → List ℕ
refusal_text r = decimal (refusal_number r) ++ codes " " ++ refusal_name r

-- the refusal of a growth of memory
abbrev pub no_memory : Refusal
no_memory = OutOfMemory

-- the refusal of what is no stamp
abbrev pub refused_range : Refusal
refused_range = Range

abbrev pub limit_refusal : Limit → Refusal
limit_refusal limit.Microstep = Microstep
limit_refusal limit.Tick = Tick
