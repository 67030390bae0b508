-- Where no task or job stands: what its subcommand needs is missing.
use Rattle.std.proofs.Common.{◌≡◌, ◌+◌, ◌*◌, ◌==◌, ℕ, List, MatchBool, codes, inr, slice_index, subst, sym}
use Rattle.std.specs.Prelude.{Err, IfErr, IfNone, IfOk, None, Ok, Option, Result, Some, ◌≢◌}
use Rattle.clap.specs.Words.{Row, Text, subcommand_of}
use Rattle.tw_actions.specs.declared.cancel.Cancel.{Cancel}
use Rattle.tw_cli.specs.Options.{IsByIn, IsCancelIn, IsDriverIn, IsFromIn, IsPictureIn, IsSettingIn, IsStartIn, IsTabledIn}
use Rattle.tw_cli.specs.declared.driving.Driver.{Driver}
use Rattle.tw_cli.specs.declared.seeing.Picture.{Picture}
use Rattle.tw_cli.specs.declared.setting.ByWorkers.{ByWorkers}
use Rattle.tw_cli.specs.declared.setting.RunOptions.{RunOptions}
use Rattle.tw_figures.specs.declared.seeing.Tabled.{Tabled}
use Rattle.tw_cli.specs.Lines.{FailsFor, IsJob, IsJobOf, IsReason, IsSimulationOf, IsTaskOf, task_name, twarp_app}
use Rattle.tw_cli.specs.declared.jobs.Job.{Job}
use Rattle.tw_cli.specs.declared.jobs.Job.TheVariants.{Demo, Check, Dot, Simulate}
use Rattle.tw_cli.specs.declared.jobs.NetSource.{NetSource}
use Rattle.tw_cli.specs.declared.jobs.NoJob.{NoJob}
use Rattle.tw_cli.specs.declared.jobs.NoJob.TheVariants.{Help, Version, BadLine, OutOfMemory}
use Rattle.tw_cli.specs.declared.jobs.Task.{Task}
use Rattle.tw_cli.specs.declared.jobs.Task.TheVariants.{Seq, Stats, Table, Draw, Run, Play}

-- the first two letters of a name, as a number: they tell the names of tasks apart
abbrev pub letters : Text → ℕ
letters name = 1000 * slice_index name 0 + slice_index name 1

abbrev pub stats_letters : ℕ
stats_letters = letters (codes "stats")

abbrev pub table_letters : ℕ
table_letters = letters (codes "table")

abbrev pub draw_letters : ℕ
draw_letters = letters (codes "draw")

abbrev pub run_letters : ℕ
run_letters = letters (codes "run")

abbrev pub play_letters : ℕ
play_letters = letters (codes "play")

-- what the options say to a task of this name, beside flags
abbrev pub Needs : ℕ → List Row → Type 0
Needs name rows =
    MatchBool (name == stats_letters) ((from : Option ℕ) × (by : Option ByWorkers) × IsStartIn rows from × IsByIn rows by)
    (MatchBool (name == table_letters) ((from : ℕ) × (of : Tabled) × (by : Option ByWorkers) × IsFromIn rows from × IsTabledIn rows of × IsByIn rows by)
    (MatchBool (name == draw_letters) ((p : Picture) × IsPictureIn rows p)
    (MatchBool (name == run_letters) ((c : Cancel) × (s : RunOptions) × IsCancelIn rows c × IsSettingIn rows s)
    (MatchBool (name == play_letters) ((c : Cancel) × (d : Driver) × IsCancelIn rows c × IsDriverIn rows d) (Unit {0})))))

met : (rows : List Row) (t : Task) → IsTaskOf (task_name t) rows t → Needs (letters (task_name t)) rows
met rows (Seq progress) is = tt
met rows (Stats from only json progress by) is = (from, by, is.1.0, is.1.4)
met rows (Table from only of progress by) is = (from, of, by, is.1.0, is.1.2, is.1.4)
met rows (Draw picture) is = (picture, is.1)
met rows (Run cancel setting) is = (cancel, setting, is.1.0, is.1.1)
met rows (Play cancel driver) is = (cancel, driver, is.1.0, is.1.1)

-- where a task stands, that is there
pub needs_met : (name : Text) (rows : List Row) (t : Task) → IsTaskOf name rows t → Needs (letters name) rows
needs_met name rows t is = subst (λ (n : Text). Needs (letters n) rows) (sym is.0) (met rows t (subst (λ (n : Text). IsTaskOf n rows t) is.0 is))

-- where no simulation stands, and the name is of no other job, there is none
pub no_job : (name : Text) (rows : List Row) → name ≢ codes "demo" → name ≢ codes "check" → name ≢ codes "dot"
    → ((net : NetSource) (n : ℕ) (t : Task) → ¬ (IsSimulationOf name rows net n t)) → (j : Job) → ¬ (IsJobOf name rows j)
no_job name rows demo check dot none Demo is = demo is
no_job name rows demo check dot none (Check net strict) is = check is.0
no_job name rows demo check dot none (Dot net) is = dot is.0
no_job name rows demo check dot none (Simulate net until task) is = none net until task is

-- why it fails, for another reason
pub fails_then : {A P Q : Type 0} (r : Result A NoJob) → (P → Q) → IfErr r (FailsFor P) → IfErr r (FailsFor Q)
fails_then (Ok x) f h = tt
fails_then (Err (Help error)) f h = h
fails_then (Err (Version error)) f h = h
fails_then (Err BadLine) f h = f h
fails_then (Err OutOfMemory) f h = tt

-- of a line that is taken it is the reason
is_reason : (words : List Text) (e : NoJob) → FailsFor ((j : Job) → ¬ (IsJob (subcommand_of twarp_app words) j)) e → IsReason words e
is_reason words (Help error) h = absurd h
is_reason words (Version error) h = absurd h
is_reason words BadLine h = inr h
is_reason words OutOfMemory h = tt

pub all_reasons : {A : Type 0} (words : List Text) (r : Result A NoJob) → IfErr r (FailsFor ((j : Job) → ¬ (IsJob (subcommand_of twarp_app words) j))) → IfErr r (IsReason words)
all_reasons words (Ok x) h = tt
all_reasons words (Err e) h = is_reason words e h

pub all_ok : {A E P : Type 0} (r : Result A E) → P → IfOk r (λ x. P)
all_ok (Ok x) p = p
all_ok (Err e) p = tt

-- what holds where there is none, of one that is none
pub none_of : {X P : Type 0} (o : Option X) → IfNone o P → o ≡ None → P
none_of None h is = h
none_of (Some x) h is = let bad : Some x ≡ None = is in cc
