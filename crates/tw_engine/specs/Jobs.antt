-- How a job ends, and what is then written.
--     IsDone job exit bytes script old new      with the bytes of its network file, and those of its script where they are known
--     ReadsScript job bytes      its script is read
--     TakesThreads job      workers in threads do it
use Rattle.std.specs.Prelude.{◌≡◌, ◌⊎◌, ℕ, List, Option, None, Some, IfSome, Result, option_map, ⊤}
use Rattle.std.specs.Io.KnownBytes.{Keeps}
use Rattle.tw_engine.specs.Checks.{IsCheck}
use Rattle.tw_engine.specs.Drawings.{IsGraphed, IsViewDrawn, IsWarpDrawn}
use Rattle.tw_engine.specs.Plays.{IsScripted, IsSeeded}
use Rattle.tw_engine.specs.Ends.{Fails, PlainEnd, ViewEnd}
use Rattle.tw_engine.specs.Exits.{exit_of_rest, exit_of_run, exit_of_view}
use Rattle.tw_engine.specs.Runs.{HasNoNetwork, IsDemo, IsRun, IsRunByWorkers, IsUnread, Means}
use Rattle.tw_engine.specs.Views.{IsSummedBy, IsTabulatedBy}
use Rattle.tw_engine.specs.declared.exit.Exit.{Exit}
use Rattle.tw_engine.specs.declared.failed.Failed.{Failed}
use Rattle.tw_cli.specs.declared.driving.Driver.{Driver}
use Rattle.tw_cli.specs.declared.driving.Driver.TheVariants.{Script, Seed}
use Rattle.tw_cli.specs.declared.seeing.Picture.{Picture}
use Rattle.tw_cli.specs.declared.seeing.Picture.TheVariants as of
use Rattle.tw_cli.specs.declared.jobs.Job.{Job}
use Rattle.tw_cli.specs.declared.jobs.Job.TheVariants.{Demo, Check, Dot, Simulate}
use Rattle.tw_cli.specs.declared.jobs.Task.{Task}
use Rattle.tw_cli.specs.declared.jobs.Task.TheVariants.{Seq, Stats, Table, Draw, Run, Play}
use Rattle.tw_cli.specs.declared.setting.ByWorkers.{ByWorkers}
use Rattle.tw_theory.specs.Contents.{Cancel}

-- driven by a script: the network's file is at fault, and nothing is written; or it means a network, and no byte of the script is known to
-- be read (19), or these
abbrev pub IsScriptedBy : List ℕ → ℕ → Cancel → PlainEnd → Option (List ℕ) → Option (List ℕ) → Option (List ℕ) → Type 0
IsScriptedBy bytes until way end script old new =
    (Fails end (HasNoNetwork bytes) × Keeps old new)
    ⊎ Means bytes (λ n. IsUnread end old new ⊎ IfSome script (λ lines. IsScripted bytes lines until way end old new))

abbrev pub IsPlay : Driver → ℕ → Cancel → PlainEnd → List ℕ → Option (List ℕ) → Option (List ℕ) → Option (List ℕ) → Type 0
IsPlay (Script path) until way end bytes script old new = IsScriptedBy bytes until way end script old new
IsPlay (Seed seed steps) until way end bytes script old new = IsSeeded bytes seed steps until way end old new

abbrev pub IsDrawn : Picture → ℕ → ViewEnd → List ℕ → Option (List ℕ) → Option (List ℕ) → Option (List ℕ) → Type 0
IsDrawn (of.Run view) until end bytes script old new = IsViewDrawn bytes until end old new
IsDrawn (of.Warp way driver) until end bytes script old new = IsWarpDrawn driver bytes until end script old new

-- the exit of an end of which this is true
abbrev pub Ends : {A : Type 0} → (Result A Failed → Exit) → Exit → (Result A Failed → Type 0) → Type 0
Ends {A} exit_for exit Is = (end : Result A Failed) × (exit ≡ exit_for end) × Is end

-- a network is simulated up to an end tick
abbrev pub IsTaskDone : Task → ℕ → Exit → List ℕ → Option (List ℕ) → Option (List ℕ) → Option (List ℕ) → Type 0
IsTaskDone (Seq progress) until exit bytes script old new = Ends exit_of_run exit (λ end. IsRun bytes until end old new)
IsTaskDone (Stats from only json progress by) until exit bytes script old new =
    Ends exit_of_view exit (λ end. IsSummedBy by bytes (record { only = option_map (λ o. o.now) only; from = from; until = until; json = json }) end old new)
IsTaskDone (Table from only tabled progress by) until exit bytes script old new =
    Ends exit_of_view exit (λ end. IsTabulatedBy by bytes (record { only = option_map (λ o. o.now) only; from = from; until = until; of = tabled }) end old new)
IsTaskDone (Draw picture) until exit bytes script old new = Ends exit_of_view exit (λ end. IsDrawn picture until end bytes script old new)
IsTaskDone (Run cancel setting) until exit bytes script old new = Ends exit_of_run exit (λ end. IsRunByWorkers bytes cancel until end old new)
IsTaskDone (Play cancel driver) until exit bytes script old new = Ends exit_of_rest exit (λ end. IsPlay driver until cancel end bytes script old new)

abbrev pub IsDone : Job → Exit → List ℕ → Option (List ℕ) → Option (List ℕ) → Option (List ℕ) → Type 0
IsDone Demo exit bytes script old new = Ends exit_of_run exit (λ end. IsDemo end old new)
IsDone (Check net strict) exit bytes script old new = Ends exit_of_rest exit (λ end. IsCheck bytes strict end old new)
IsDone (Dot net) exit bytes script old new = Ends exit_of_rest exit (λ end. IsGraphed bytes end old new)
IsDone (Simulate net until task) exit bytes script old new = IsTaskDone task until exit bytes script old new

-- ---- whether the script is read

abbrev pub MeansSome : List ℕ → Type 0
MeansSome bytes = Means bytes (λ n. ⊤)

-- a script is read only where it drives, and the network's bytes mean a network
abbrev pub DriverReads : Driver → List ℕ → Type 0
DriverReads (Script path) bytes = MeansSome bytes
DriverReads (Seed seed steps) bytes = ⊥

abbrev pub PictureReads : Picture → List ℕ → Type 0
PictureReads (of.Run view) bytes = ⊥
PictureReads (of.Warp way driver) bytes = DriverReads driver bytes

abbrev pub TaskReads : Task → List ℕ → Type 0
TaskReads (Seq progress) bytes = ⊥
TaskReads (Stats from only json progress by) bytes = ⊥
TaskReads (Table from only tabled progress by) bytes = ⊥
TaskReads (Draw picture) bytes = PictureReads picture bytes
TaskReads (Run cancel setting) bytes = ⊥
TaskReads (Play cancel driver) bytes = DriverReads driver bytes

abbrev pub ReadsScript : Job → List ℕ → Type 0
ReadsScript Demo bytes = ⊥
ReadsScript (Check net strict) bytes = ⊥
ReadsScript (Dot net) bytes = ⊥
ReadsScript (Simulate net until task) bytes = TaskReads task bytes

-- ---- whether threads do it

abbrev pub IsManned : Option ByWorkers → Type 0
IsManned None = ⊥
IsManned (Some by) = ⊤

abbrev pub IsByWorkers : Task → Type 0
IsByWorkers (Seq progress) = ⊥
IsByWorkers (Stats from only json progress by) = IsManned by
IsByWorkers (Table from only tabled progress by) = IsManned by
IsByWorkers (Draw picture) = ⊥
IsByWorkers (Run cancel setting) = ⊤
IsByWorkers (Play cancel driver) = ⊥

abbrev pub TakesThreads : Job → Type 0
TakesThreads Demo = ⊤
TakesThreads (Check net strict) = ⊥
TakesThreads (Dot net) = ⊥
TakesThreads (Simulate net until task) = IsByWorkers task
