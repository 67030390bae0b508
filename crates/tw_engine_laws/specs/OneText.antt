-- What a job writes is a function of the bytes of its files and of its options.
--     IsDoneWhole exit      all was written
--     HasOneText job      whenever it is done to its end on the same bytes, it has the same text, status and line
use Rattle.std.specs.Prelude.{◌≡◌, ◌⊎◌, ◌++◌, ℕ, List, Some, ⊤}
use Rattle.tw_cli.specs.declared.jobs.Job.{Job}
use Rattle.tw_cli.specs.declared.jobs.Job.TheVariants.{Demo, Check, Dot, Simulate}
use Rattle.tw_cli.specs.declared.jobs.Task.{Task}
use Rattle.tw_cli.specs.declared.jobs.Task.TheVariants.{Seq, Stats, Table, Draw, Run, Play}
use Rattle.tw_engine.specs.Exits.{line_of, status_of}
use Rattle.tw_engine.specs.Jobs.{IsDone}
use Rattle.tw_engine.specs.declared.exit.Exit.{Exit}
use Rattle.tw_engine.specs.declared.exit.Exit.TheVariants.{Done, Bad, Fault, Limited, Want, NoWrite}
use Rattle.tw_exec.specs.declared.refused.Refused.TheVariants.{Full}
use Rattle.tw_inspect.specs.Replies.{reply_text}
use Rattle.tw_inspect.specs.declared.replies.Reply.TheVariants.{Refused}

-- it was not refused, and neither memory nor nodes were wanting, nor did the writer fail
abbrev pub IsDoneWhole : Exit → Type 0
IsDoneWhole Done = ⊤
IsDoneWhole (Bad why line) = ⊥
IsDoneWhole Fault = ⊤
IsDoneWhole (Limited line) = ⊤
IsDoneWhole (Want why) = ⊥
IsDoneWhole NoWrite = ⊥

-- two ends, and what the writer has after each
pub record IsSameEnd (exit exit' : Exit) (new new' : List ℕ) : Type 0 where
  pub text : new ≡ new'
  pub status : status_of exit ≡ status_of exit'
  -- for standard error
  pub line : line_of exit ≡ line_of exit'

-- ---- plays

-- the line of a reply that a process would hold too many nodes
abbrev pub full_line : List ℕ
full_line = reply_text (Refused Full)

abbrev pub HasFullLine : List ℕ → Type 0
HasFullLine text = (before : List ℕ) × (after : List ℕ) × (text ≡ before ++ (full_line ++ after))

-- such a line is in what went out
abbrev pub WasFull : List ℕ → List ℕ → Type 0
WasFull old new = (text : List ℕ) × (new ≡ old ++ text) × HasFullLine text

-- ---- what is said of two ends of one job

-- of pictures and graphs nothing; of plays where neither has the line of a process that would hold too many nodes (12), which may be said of
-- a step that would otherwise be made
abbrev pub AreOneTask : Task → Exit → Exit → List ℕ → List ℕ → List ℕ → Type 0
AreOneTask (Seq progress) exit exit' old new new' = IsSameEnd exit exit' new new'
AreOneTask (Stats from only json progress by) exit exit' old new new' = IsSameEnd exit exit' new new'
AreOneTask (Table from only tabled progress by) exit exit' old new new' = IsSameEnd exit exit' new new'
AreOneTask (Draw picture) exit exit' old new new' = ⊤
AreOneTask (Run cancel setting) exit exit' old new new' = IsSameEnd exit exit' new new'
AreOneTask (Play cancel driver) exit exit' old new new' = WasFull old new ⊎ (WasFull old new' ⊎ IsSameEnd exit exit' new new')

abbrev pub AreOneEnd : Job → Exit → Exit → List ℕ → List ℕ → List ℕ → Type 0
AreOneEnd Demo exit exit' old new new' = IsSameEnd exit exit' new new'
AreOneEnd (Check net strict) exit exit' old new new' = IsSameEnd exit exit' new new'
AreOneEnd (Dot net) exit exit' old new new' = ⊤
AreOneEnd (Simulate net until task) exit exit' old new new' = AreOneTask task exit exit' old new new'

abbrev pub HasOneText : Job → Type 0
HasOneText job =
    (bytes script old new new' : List ℕ) (exit exit' : Exit)
    → IsDone job exit bytes (Some script) (Some old) (Some new) → IsDone job exit' bytes (Some script) (Some old) (Some new')
    → IsDoneWhole exit → IsDoneWhole exit' → AreOneEnd job exit exit' old new new'
