-- The command line, as clap reads it, and the job that stands in it.
--     twarp_app      the command in clap's own words
--     IsArg rule arg, IsCommand app command      an argument and a command, as clap's own words tell them
--     task_name task, IsTaskOf name rows task      the subcommand of a task, and the task of a subcommand and its options
--     IsJob sub j      the job of a subcommand and its options
--     IsReason words e      why there is no job
use Rattle.std.specs.Prelude.{◌≡◌, ◌≢◌, ◌⊎◌, [], ◌∷◌, ℕ, List, Option, Some, None, Result, Ok, codes, false, true}
use Rattle.clap.specs.Words.{AddsSubcommand, App, IsAmong, Kinds, Row, Rule, Text, app_of, fault_of, first_of, kind_of, new_app, new_rule, rule_of, subcommand_of, with_rule, with_subcommand}
use Rattle.clap.specs.declared.builder.action.ArgAction.TheVariants.{Append, SetTrue}
use Rattle.clap.specs.declared.builder.arg.Arg.{Arg}
use Rattle.clap.specs.declared.builder.command.Command.{Command}
use Rattle.clap.specs.declared.builder.command.Command.TheViews.{out-Command}
use Rattle.clap.specs.declared.builder.value_parser.ValueParser.TheVariants.{Unsigned}
use Rattle.clap.specs.declared.error.kind.ErrorKind.{ErrorKind}
use Rattle.clap.specs.declared.error.kind.ErrorKind.TheVariants as kind
use Rattle.tw_vtime.specs.declared.refusal.Refusal.{Refusal}
use Rattle.tw_vtime.specs.declared.refusal.Refusal.TheVariants as refusal
use Rattle.tw_cli.specs.Options.{HasFlag, HasNumber, IsByIn, IsCancelIn, IsDriverIn, IsFromIn, IsOnlyIn, IsPictureIn, IsSettingIn, IsSettingsIn, IsStartIn, IsTabledIn}
use Rattle.tw_cli.specs.declared.jobs.Job.{Job}
use Rattle.tw_cli.specs.declared.jobs.Job.TheVariants.{Demo, Check, Dot, Simulate}
use Rattle.tw_cli.specs.declared.jobs.NetSource.{NetSource}
use Rattle.tw_cli.specs.declared.jobs.Task.{Task}
use Rattle.tw_cli.specs.declared.jobs.Task.TheVariants.{Seq, Stats, Table, Draw, Run, Play}
use Rattle.tw_cli.specs.declared.jobs.NoJob.{NoJob}
use Rattle.tw_cli.specs.declared.jobs.NoJob.TheVariants.{Help, Version, BadLine, OutOfMemory}

-- ---- the command

-- an argument with this rule, of one command alone
abbrev pub IsArg : Rule → Arg → Type 0
IsArg rule arg = (rule_of arg ≡ rule) × (arg.global ≡ false)

-- a command that is this, and none of whose arguments is of its subcommands too
abbrev pub IsCommand : App → Command → Type 0
IsCommand app command = (app_of command ≡ app) × ((out-Command command).has_globals ≡ false)

-- the network file: required, with no name of its own on the line
abbrev pub net_rule : Rule
net_rule = record (new_rule (codes "net")) { required = true; value_names = 1 }

-- an option that takes a number in a range
abbrev pub number_rule : Text → ℕ → ℕ → Rule
number_rule id least most = record (new_rule id) { long = Some id; parser = Some (Unsigned least most); value_names = 1 }

-- a number in a range that stands there as this text where the option is left out
abbrev pub preset_rule : Text → ℕ → ℕ → Text → Rule
preset_rule id least most left_out = record (number_rule id least most) { defaults = left_out ∷ [] }

-- an option that takes a text
abbrev pub text_rule : Text → Rule
text_rule id = record (new_rule id) { long = Some id; value_names = 1 }

-- one that stands there as this text where the option is left out
abbrev pub preset_text_rule : Text → Text → Rule
preset_text_rule id left_out = record (text_rule id) { defaults = left_out ∷ [] }

-- an option that takes a text, and may stand there many times
abbrev pub texts_rule : Text → Rule
texts_rule id = record (text_rule id) { action = Some Append }

-- an option that takes no value: it is `true` where it stands on the line, and `false` where it is left out
abbrev pub flag_rule : Text → Rule
flag_rule id = record (new_rule id) { long = Some id; action = Some SetTrue }

abbrev pub until_rule : Rule
until_rule = record (number_rule (codes "until") 0 1099511627774) { required = true }

-- a tick from which on a run is told or seen
abbrev pub from_rule : Rule
from_rule = number_rule (codes "from") 0 1099511627774

abbrev pub demo_app : App
demo_app = new_app (codes "demo")

-- a subcommand with other numbers for its network file: of parameters, and of seeds
abbrev pub numbered_app : App → App
numbered_app app = with_rule (with_rule app (texts_rule (codes "set"))) (number_rule (codes "seed-all") 0 18446744073709551615)

-- a subcommand that takes a network file alone
abbrev pub file_app : Text → App
file_app name = numbered_app (with_rule (new_app name) net_rule)

abbrev pub check_app : App
check_app = with_rule (file_app (codes "check")) (flag_rule (codes "strict"))

abbrev pub dot_app : App
dot_app = file_app (codes "dot")

-- a subcommand over a network, up to an end tick
abbrev pub network_app : Text → App
network_app name = numbered_app (with_rule (with_rule (new_app name) net_rule) until_rule)

-- one that may tell how far it is
abbrev pub told_app : Text → App
told_app name = with_rule (network_app name) (flag_rule (codes "progress"))

abbrev pub seq_app : App
seq_app = told_app (codes "seq")

-- a subcommand that workers may make; it makes its run in order where their number is left out
abbrev pub manned_app : App → App
manned_app app = with_rule (with_rule (with_rule (with_rule app
    (text_rule (codes "workers")))
    (number_rule (codes "burst") 1 256))
    (number_rule (codes "window") 0 1099511627774))
    (text_rule (codes "cancel"))

-- `stats` and what it tells of a run
abbrev pub summary_app : App
summary_app = with_rule (with_rule (with_rule (told_app (codes "stats")) from_rule) (text_rule (codes "only"))) (flag_rule (codes "json"))

abbrev pub stats_app : App
stats_app = manned_app summary_app

-- `table` and what part of a run it shows
abbrev pub part_app : App
part_app = with_rule (with_rule (told_app (codes "table")) from_rule) (text_rule (codes "only"))

-- and what its lines are of
abbrev pub listed_app : App
listed_app = with_rule (with_rule (with_rule part_app (flag_rule (codes "items"))) (flag_rule (codes "words"))) (flag_rule (codes "figures"))

abbrev pub table_app : App
table_app = manned_app listed_app

-- `run` and what its workers are set to: 2 workers, bursts of 64 steps and a window of all ticks where it is left out,
-- and no word of how far it is
abbrev pub set_app : App
set_app = with_rule (with_rule (with_rule (with_rule (network_app (codes "run"))
    (preset_text_rule (codes "workers") (codes "2")))
    (preset_rule (codes "burst") 1 256 (codes "64")))
    (preset_rule (codes "window") 0 1099511627774 (codes "1099511627774")))
    (flag_rule (codes "progress"))

abbrev pub run_app : App
run_app = with_rule set_app (text_rule (codes "cancel"))

-- a subcommand with what may drive an executive; any number of 64 bits is a seed
abbrev pub driven_app : App → App
driven_app app = with_rule (with_rule (with_rule app
    (text_rule (codes "script")))
    (number_rule (codes "seed") 0 18446744073709551615))
    (number_rule (codes "steps") 0 1000000)

abbrev pub cancelled_app : App → App
cancelled_app app = with_rule (driven_app app) (text_rule (codes "cancel"))

abbrev pub play_app : App
play_app = cancelled_app (network_app (codes "play"))

-- `draw` and what is seen of a run, before what may drive it
abbrev pub shown_app : App
shown_app = with_rule (with_rule (with_rule (network_app (codes "draw"))
    from_rule)
    (text_rule (codes "only")))
    (texts_rule (codes "figure"))

abbrev pub seen_app : App
seen_app = with_rule (with_rule (with_rule shown_app
    (number_rule (codes "width") 600 4000))
    (flag_rule (codes "marks")))
    (flag_rule (codes "courses"))

abbrev pub draw_app : App
draw_app = cancelled_app seen_app

-- twarp alone, which has a version and wants a subcommand
abbrev pub bare_app : App
bare_app = record { top = record (new_app (codes "twarp")).top { has_version = true; subcommand_required = true }; subs = [] }

-- with the subcommands that simulate no network of a file
abbrev pub first_app : App
first_app = with_subcommand (with_subcommand (with_subcommand bare_app demo_app.top) check_app.top) dot_app.top

-- with those that tell of the sequential run
abbrev pub alone_app : App
alone_app = with_subcommand (with_subcommand (with_subcommand first_app seq_app.top) stats_app.top) table_app.top

abbrev pub twarp_app : App
twarp_app = with_subcommand (with_subcommand (with_subcommand alone_app draw_app.top) run_app.top) play_app.top

-- a command with one more subcommand, that was made
abbrev pub IsJoined : {E : Type 0} → Command → Result Command E → Command → Type 0
IsJoined old made new = (sub : Command) × (made ≡ Ok sub) × AddsSubcommand old sub new

-- ---- the job

-- the name of the subcommand of a task
abbrev pub task_name : Task → Text
task_name (Seq progress) = codes "seq"
task_name (Stats from only json progress by) = codes "stats"
task_name (Table from only of progress by) = codes "table"
task_name (Draw picture) = codes "draw"
task_name (Run cancel setting) = codes "run"
task_name (Play cancel driver) = codes "play"

-- its options say what it is to do
abbrev pub IsTaskIn : List Row → Task → Type 0
IsTaskIn rows (Seq progress) = HasFlag (codes "progress") rows progress
IsTaskIn rows (Stats from only json progress by) =
    IsStartIn rows from × IsOnlyIn rows only × HasFlag (codes "json") rows json × HasFlag (codes "progress") rows progress × IsByIn rows by
IsTaskIn rows (Table from only of progress by) =
    IsFromIn rows from × IsOnlyIn rows only × IsTabledIn rows of × HasFlag (codes "progress") rows progress × IsByIn rows by
IsTaskIn rows (Draw picture) = IsPictureIn rows picture
IsTaskIn rows (Run cancel setting) = IsCancelIn rows cancel × IsSettingIn rows setting
IsTaskIn rows (Play cancel driver) = IsCancelIn rows cancel × IsDriverIn rows driver

abbrev pub IsTaskOf : Text → List Row → Task → Type 0
IsTaskOf name rows task = (name ≡ task_name task) × IsTaskIn rows task

-- a network file, and what is changed in it
abbrev pub IsNetIn : List Row → NetSource → Type 0
IsNetIn rows net = (first_of (codes "net") rows ≡ Some net.path.now) × IsSettingsIn rows net.settings

-- an end tick, and a task
abbrev pub IsTimedTask : Text → List Row → ℕ → Task → Type 0
IsTimedTask name rows until task = HasNumber (codes "until") 0 1099511627774 rows until × IsTaskOf name rows task

-- of a network file
abbrev pub IsSimulationOf : Text → List Row → NetSource → ℕ → Task → Type 0
IsSimulationOf name rows net until task = IsNetIn rows net × IsTimedTask name rows until task

-- the job of a subcommand's name and its options
abbrev pub IsJobOf : Text → List Row → Job → Type 0
IsJobOf name rows Demo = name ≡ codes "demo"
IsJobOf name rows (Check net strict) = (name ≡ codes "check") × IsNetIn rows net × HasFlag (codes "strict") rows strict
IsJobOf name rows (Dot net) = (name ≡ codes "dot") × IsNetIn rows net
IsJobOf name rows (Simulate net until task) = IsSimulationOf name rows net until task

-- of no subcommand there is none
abbrev pub IsJob : Option (Text × List Row) → Job → Type 0
IsJob None j = ⊥
IsJob (Some p) j = IsJobOf p.0 p.1 j

-- the network file of a job
abbrev pub net_of : Job → Option NetSource
net_of Demo = None
net_of (Check net strict) = Some net
net_of (Dot net) = Some net
net_of (Simulate net until task) = Some net

-- ---- no job

-- memory was wanting, or the line is refused, for this
abbrev pub FailsFor : Type 0 → NoJob → Type 0
FailsFor Why (Help error) = ⊥
FailsFor Why (Version error) = ⊥
FailsFor Why BadLine = Why
FailsFor Why OutOfMemory = Unit {0}

-- the parse may answer an error of another kind than help and the version
abbrev pub HasFault : Kinds → Type 0
HasFault kinds = (k : ErrorKind) × IsAmong k kinds × (k ≢ kind.DisplayHelp) × (k ≢ kind.DisplayVersion)

-- help or the version comes where the parse answers it; a line is refused where the parse refuses it, or finds no job
abbrev pub IsReason : List Text → NoJob → Type 0
IsReason words (Help error) = (kind_of error ≡ kind.DisplayHelp) × IsAmong kind.DisplayHelp (fault_of twarp_app words)
IsReason words (Version error) = (kind_of error ≡ kind.DisplayVersion) × IsAmong kind.DisplayVersion (fault_of twarp_app words)
IsReason words BadLine = HasFault (fault_of twarp_app words) ⊎ ((j : Job) → ¬ (IsJob (subcommand_of twarp_app words) j))
IsReason words OutOfMemory = Unit {0}

-- what becomes of an error of the parse, by its kind
abbrev pub IsMadeOf : ErrorKind → NoJob → Type 0
IsMadeOf k (Help error) = (k ≡ kind.DisplayHelp) × (kind_of error ≡ k)
IsMadeOf k (Version error) = (k ≡ kind.DisplayVersion) × (kind_of error ≡ k)
IsMadeOf k BadLine = (k ≢ kind.DisplayHelp) × (k ≢ kind.DisplayVersion) × (k ≢ kind.OutOfMemory)
IsMadeOf k OutOfMemory = Unit {0}

abbrev pub refused_for_memory : NoJob
refused_for_memory = OutOfMemory

-- help and the version are no refusals
abbrev pub refusal_of : NoJob → Option Refusal
refusal_of (Help error) = None
refusal_of (Version error) = None
refusal_of BadLine = Some refusal.BadLine
refusal_of OutOfMemory = Some refusal.OutOfMemory
