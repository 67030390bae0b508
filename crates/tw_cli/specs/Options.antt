-- What the options of a subcommand say, over the rows that clap's parse finds.
--     HasNumber id least most rows n      the number of an option, in its range
--     texts_of id rows      the texts of an option that may stand there many times
--     IsSettingsIn rows s      what is changed in the network's file
--     IsStartIn, IsCancelIn, IsDriverIn, IsSettingIn, IsByIn, IsRowsIn, IsTabledIn, IsOnlyIn, IsViewIn, IsPictureIn      what several of them say together
use Rattle.std.specs.Prelude.{◌≡◌, ◌≢◌, ◌≤◌, ◌⊎◌, ℕ, Bool, List, [], Option, None, Some, codes, false, true, map, option_map, unwrap_or}
use Rattle.std.specs.Borrow.{Bor}
use Rattle.std.specs.Str.Parse.{IsNumeral, digits_value, without_leading_plus}
use Rattle.clap.specs.Words.{Row, Text, all_of, first_of, one_of}
use Rattle.tw_actions.specs.declared.cancel.Cancel.{Cancel}
use Rattle.tw_actions.specs.declared.cancel.Cancel.TheVariants.{Aggressive, Lazy}
use Rattle.tw_file_settings.specs.Texts.{AreAssignments}
use Rattle.tw_file_settings.specs.declared.settings.Settings.{Settings}
use Rattle.tw_cli.specs.declared.driving.Driver.{Driver}
use Rattle.tw_cli.specs.declared.driving.Driver.TheVariants.{Script, Seed}
use Rattle.tw_cli.specs.declared.seeing.Picture.{Picture}
use Rattle.tw_cli.specs.declared.seeing.Picture.TheVariants as of
use Rattle.tw_figures.specs.declared.seeing.Rows.{Rows}
use Rattle.tw_figures.specs.declared.seeing.Rows.TheVariants.{Records, Items, Words}
use Rattle.tw_figures.specs.declared.seeing.Tabled.{Tabled}
use Rattle.tw_figures.specs.declared.seeing.Tabled.TheVariants.{OfRun, OfFigures}
use Rattle.tw_figures.specs.declared.seeing.Detail.{Detail}
use Rattle.tw_figures.specs.declared.seeing.Detail.TheVariants.{Fitting, Marks, Courses}
use Rattle.tw_figures.specs.declared.seeing.View.{View}
use Rattle.tw_cli.specs.declared.setting.ByWorkers.{ByWorkers}
use Rattle.tw_cli.specs.declared.setting.RunOptions.{RunOptions}
use Rattle.tw_cli.specs.declared.setting.Workers.{Workers}
use Rattle.tw_cli.specs.declared.setting.Workers.TheVariants.{Count, Auto}

-- the one text of an option is a numeral, after a plus or none, and its number n is in the range
abbrev pub HasNumber : Text → ℕ → ℕ → List Row → ℕ → Type 0
HasNumber id least most rows n =
    (text : Text) × (one_of id rows ≡ Some text) × IsNumeral 10 (without_leading_plus text)
    × (digits_value 10 (without_leading_plus text) ≡ n) × (least ≤ n) × (n ≤ most)

-- in their order; none where it is left out
abbrev pub texts_of : Text → List Row → List Text
texts_of id rows = unwrap_or (all_of id rows) []

-- the number of the replication: 0 where it is left out
abbrev pub IsReplicationIn : List Row → ℕ → Type 0
IsReplicationIn rows n =
    ((first_of (codes "seed-all") rows ≡ None) × (n ≡ 0)) ⊎ HasNumber (codes "seed-all") 0 18446744073709551615 rows n

-- what is changed in the network's file: each text of the option is an assignment, and no two set the same
abbrev pub IsSettingsIn : List Row → Settings → Type 0
IsSettingsIn rows s = AreAssignments (texts_of (codes "set") rows) s.assignments.items × IsReplicationIn rows s.replication

-- whether a flag is on: its text is `true`
abbrev pub HasFlag : Text → List Row → Bool → Type 0
HasFlag id rows true = first_of id rows ≡ Some (codes "true")
HasFlag id rows false = first_of id rows ≢ Some (codes "true")

-- the way of cancelling: that of the option's word, and the aggressive one where no option stands
abbrev pub IsCancelIn : List Row → Cancel → Type 0
IsCancelIn rows Aggressive = (first_of (codes "cancel") rows ≡ None) ⊎ (first_of (codes "cancel") rows ≡ Some (codes "aggressive"))
IsCancelIn rows Lazy = first_of (codes "cancel") rows ≡ Some (codes "lazy")

-- how many workers there are: a number in its range, or the word that leaves it to the program
abbrev pub IsWorkersIn : List Row → Workers → Type 0
IsWorkersIn rows (Count n) = HasNumber (codes "workers") 1 64 rows n
IsWorkersIn rows Auto = first_of (codes "workers") rows ≡ Some (codes "auto")

-- what the workers are set to, each number in its range, and whether the run tells how far it is
abbrev pub IsSettingIn : List Row → RunOptions → Type 0
IsSettingIn rows s =
    IsWorkersIn rows s.workers
    × HasNumber (codes "burst") 1 256 rows s.burst
    × HasNumber (codes "window") 0 1099511627774 rows s.window
    × HasFlag (codes "progress") rows s.progress

-- how far they compute at a time: 64 steps where no option stands
abbrev pub IsBurstIn : List Row → ℕ → Type 0
IsBurstIn rows n = ((first_of (codes "burst") rows ≡ None) × (n ≡ 64)) ⊎ HasNumber (codes "burst") 1 256 rows n

-- and how far ahead: over all ticks where no option stands
abbrev pub IsWindowIn : List Row → ℕ → Type 0
IsWindowIn rows n = ((first_of (codes "window") rows ≡ None) × (n ≡ 1099511627774)) ⊎ HasNumber (codes "window") 0 1099511627774 rows n

-- workers make a run that is made in order without them: their number stands there
abbrev pub IsTeamIn : List Row → ByWorkers → Type 0
IsTeamIn rows by =
    IsCancelIn rows by.cancel
    × IsWorkersIn rows by.setting.workers
    × IsBurstIn rows by.setting.burst
    × IsWindowIn rows by.setting.window
    × HasFlag (codes "progress") rows by.setting.progress

-- no option stands that speaks of workers
abbrev pub IsInOrder : List Row → Type 0
IsInOrder rows =
    (first_of (codes "workers") rows ≡ None) × (first_of (codes "burst") rows ≡ None) × (first_of (codes "window") rows ≡ None)
    × (first_of (codes "cancel") rows ≡ None)

-- a run is made in order, or by workers
abbrev pub IsByIn : List Row → Option ByWorkers → Type 0
IsByIn rows None = IsInOrder rows
IsByIn rows (Some by) = IsTeamIn rows by

-- what drives it: a script alone, or a seed and a number of steps with no script
abbrev pub IsDriverIn : List Row → Driver → Type 0
IsDriverIn rows (Script path) =
    (first_of (codes "script") rows ≡ Some path.now)
    × (first_of (codes "seed") rows ≡ None) × (first_of (codes "steps") rows ≡ None)
IsDriverIn rows (Seed seed steps) =
    (first_of (codes "script") rows ≡ None)
    × HasNumber (codes "seed") 0 18446744073709551615 rows seed × HasNumber (codes "steps") 0 1000000 rows steps

-- what a line of a table of records is of: at most one of two flags is on
abbrev pub IsRowsIn : List Row → Rows → Type 0
IsRowsIn rows Records = HasFlag (codes "items") rows false × HasFlag (codes "words") rows false
IsRowsIn rows Items = HasFlag (codes "items") rows true × HasFlag (codes "words") rows false
IsRowsIn rows Words = HasFlag (codes "items") rows false × HasFlag (codes "words") rows true

-- what a table is of: at most one of three flags is on
abbrev pub IsTabledIn : List Row → Tabled → Type 0
IsTabledIn rows (OfRun r) = HasFlag (codes "figures") rows false × IsRowsIn rows r
IsTabledIn rows OfFigures = HasFlag (codes "figures") rows true × IsRowsIn rows Records

-- the names of the components that are shown, where the option stands
abbrev pub IsOnlyIn : List Row → Option (Bor (List ℕ)) → Type 0
IsOnlyIn rows only = option_map (λ s. s.now) only ≡ first_of (codes "only") rows

-- from a tick on, where the option stands
abbrev pub IsStartIn : List Row → Option ℕ → Type 0
IsStartIn rows None = first_of (codes "from") rows ≡ None
IsStartIn rows (Some from) = HasNumber (codes "from") 0 1099511627774 rows from

-- or from the first one where no option stands
abbrev pub IsFromIn : List Row → ℕ → Type 0
IsFromIn rows from = ((first_of (codes "from") rows ≡ None) × (from ≡ 0)) ⊎ HasNumber (codes "from") 0 1099511627774 rows from

-- how wide a picture is: 1,280 points where no option stands
abbrev pub IsWidthIn : List Row → ℕ → Type 0
IsWidthIn rows n = ((first_of (codes "width") rows ≡ None) × (n ≡ 1280)) ⊎ HasNumber (codes "width") 600 4000 rows n

-- what a picture is made of: at most one of two flags is on
abbrev pub IsDetailIn : List Row → Detail → Type 0
IsDetailIn rows Fitting = HasFlag (codes "marks") rows false × HasFlag (codes "courses") rows false
IsDetailIn rows Marks = HasFlag (codes "marks") rows true × HasFlag (codes "courses") rows false
IsDetailIn rows Courses = HasFlag (codes "marks") rows false × HasFlag (codes "courses") rows true

-- what is seen of a run
abbrev pub IsViewIn : List Row → View → Type 0
IsViewIn rows v =
    IsFromIn rows v.from
    × (option_map (λ s. s.now) v.only ≡ first_of (codes "only") rows)
    × (map (λ s. s.now) v.figures.items ≡ texts_of (codes "figure") rows)
    × IsWidthIn rows v.width
    × IsDetailIn rows v.detail

-- no option stands that says what is seen
abbrev pub IsUnseen : List Row → Type 0
IsUnseen rows =
    (first_of (codes "from") rows ≡ None) × (first_of (codes "only") rows ≡ None) × (first_of (codes "figure") rows ≡ None)
    × (first_of (codes "width") rows ≡ None) × HasFlag (codes "marks") rows false × HasFlag (codes "courses") rows false

-- no option stands that says what drives an executive, or how it cancels
abbrev pub IsUndriven : List Row → Type 0
IsUndriven rows =
    (first_of (codes "script") rows ≡ None) × (first_of (codes "seed") rows ≡ None) × (first_of (codes "steps") rows ≡ None)
    × (first_of (codes "cancel") rows ≡ None)

-- a picture of a run, of which something is seen; or one of Time Warp, that something drives. Options of both do not go together
abbrev pub IsPictureIn : List Row → Picture → Type 0
IsPictureIn rows (of.Run view) = IsUndriven rows × IsViewIn rows view
IsPictureIn rows (of.Warp cancel driver) = IsUnseen rows × IsCancelIn rows cancel × IsDriverIn rows driver
