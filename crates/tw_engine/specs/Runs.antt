-- What the engine writes of a run, and how that ends.
--     run_text n until      the trace of a network's sequential run, and a line for its fault
--     IsRun bytes until end old new      how a run of the network that a file's bytes mean ends, and what is then written
--     IsDemo end old new      the same of the demonstration
use Rattle.std.specs.Arc.{arc_value}
use Rattle.std.specs.Prelude.{◌≡◌, ◌≤◌, ◌<◌, ◌⊎◌, ◌++◌, ℕ, List, [], ◌∷◌, codes, pos, Option, Some, None, Result, Ok, Err, IfSome, slice_get}
use Rattle.std.specs.Io.KnownBytes.{Appends, Keeps}
use Rattle.tw_vtime.specs.Stamps.{max_tick}
use Rattle.tw_vtime.specs.declared.refusal.Refusal.{Refusal}
use Rattle.tw_vtime.specs.declared.refusal.Refusal.TheVariants as refusal
use Rattle.tw_msgs.specs.declared.record.Record.{Record}
use Rattle.tw_any_model.specs.declared.any_model.AnyModel.{AnyModel}
use Rattle.tw_any_model.specs.declared.any_model.AnyModel.TheVariants.{BuiltIn}
use Rattle.tw_models.specs.declared.model.Model.TheVariants.{Gen, Tally}
use Rattle.tw_any_model.specs.AnyModel.{any_meaning}
use Rattle.tw_any_model.specs.declared.any_model.AnyState.{AnyState}
use Rattle.tw_network.specs.Contents.{Contents, network_of}
use Rattle.tw_exec.specs.Running.{Running, start}
use Rattle.tw_theory.specs.Contents.{Cancel}
use Rattle.tw_theory.specs.Simulator.{sequential}
use Rattle.tw_workers.specs.Runs.{CanBeFull}
use Rattle.tw_file_network.specs.Refused.{file_refusal}
use Rattle.tw_file_network.specs.TreeMeaning.{IsFault, IsMeaning}
use Rattle.tw_file_network.specs.declared.refused.FileRefused.{FileRefused}
use Rattle.tw_texts.specs.Texts.{trace_text, fault_line}
use Rattle.tw_texts.specs.Traces.{AppendsBeginning}
use Rattle.tw_record_lines.specs.declared.held.Held.{Held}
use Rattle.tw_engine.specs.Ends.{Fails, Fault, RunEnd}
use Rattle.tw_engine.specs.declared.failed.Failed.{Failed}
use Rattle.tw_engine.specs.declared.failed.Failed.TheVariants.{Bad, Want, NoWrite}
use Rattle.tw_engine.specs.declared.job_run.Made.{Made}

-- ---- the text of a run

abbrev pub text_or_nothing : Option (List ℕ) → List ℕ
text_or_nothing None = []
text_or_nothing (Some text) = text

-- the name of a component
abbrev pub name_in : List (List ℕ) → ℕ → List ℕ
name_in names component = text_or_nothing (slice_get names component)

abbrev pub fault_text : List (List ℕ) → Option Fault → List ℕ
fault_text names None = []
fault_text names (Some fault) = fault_line (name_in names fault.component) fault.stamp fault.limit

abbrev pub run_fault : Contents AnyModel → ℕ → Option Fault
run_fault n until = (sequential (network_of any_meaning n) until).fault

-- the lines of records, and of a fault
abbrev pub text_of : Contents AnyModel → List Record → Option Fault → List ℕ
text_of n records fault = trace_text (name_in n.names) records ++ fault_text n.names fault

abbrev pub run_text : Contents AnyModel → ℕ → List ℕ
run_text n until = text_of n (sequential (network_of any_meaning n) until).records (run_fault n until)

-- ---- how a run ends, by the bytes of its file

-- the bytes mean a network of which this is true
abbrev pub Means : List ℕ → (Contents AnyModel → Type 0) → Type 0
Means bytes Holds = (n : Contents AnyModel) × IsMeaning bytes n × Holds n

-- the text of a run is one, whichever of the networks that the bytes mean is run
abbrev pub HasOneText : List ℕ → Type 0
HasOneText bytes = (n m : Contents AnyModel) → IsMeaning bytes n → IsMeaning bytes m → (until : ℕ) → run_text n until ≡ run_text m until

-- the end tick is too late, or the file is refused for this
abbrev pub IsCause : List ℕ → ℕ → Refusal → Type 0
IsCause bytes until why =
    ((why ≡ refusal.BadTick) × (max_tick < until))
    ⊎ ((fault : FileRefused) × IsFault bytes fault × (why ≡ file_refusal fault))

abbrev pub IsRun : List ℕ → ℕ → RunEnd → Option (List ℕ) → Option (List ℕ) → Type 0
IsRun bytes until (Ok fault) old new = Means bytes (λ n. (fault ≡ run_fault n until) × Appends old new (run_text n until))
IsRun bytes until (Err (Bad why line)) old new = Keeps old new × (line ≡ None) × IsCause bytes until why
IsRun bytes until (Err (Want why)) old new =
    (why ≡ refusal.OutOfMemory) × (Keeps old new ⊎ Means bytes (λ n. AppendsBeginning old new (run_text n until)))
IsRun bytes until (Err NoWrite) old new = Unit {0}

-- workers give an executive up for nodes (12), before anything is written: only where it can come so far that a process of it would hold
-- too many
abbrev pub IsGivenUp : {A : Type 0} → Running AnyModel AnyState → Result A Failed → Option (List ℕ) → Option (List ℕ) → Type 0
IsGivenUp e end old new = Fails end (λ why. (why ≡ Want refusal.Full) × CanBeFull any_meaning e) × Keeps old new

-- by workers, who may also give up for nodes
abbrev pub IsRunByWorkers : List ℕ → Cancel → ℕ → RunEnd → Option (List ℕ) → Option (List ℕ) → Type 0
IsRunByWorkers bytes way until end old new =
    IsRun bytes until end old new ⊎ Means bytes (λ n. IsGivenUp (start any_meaning n way until) end old new)

-- no byte of the file is known to be read, and nothing is written
abbrev pub IsUnread : {A : Type 0} → Result A Failed → Option (List ℕ) → Option (List ℕ) → Type 0
IsUnread end old new = Fails end (λ why. (why ≡ Bad refusal.Unreadable None) ⊎ (why ≡ Want refusal.OutOfMemory)) × Keeps old new

-- ---- its parts

-- why a file gave no network
abbrev pub HasNoNetwork : List ℕ → Failed → Type 0
HasNoNetwork bytes why =
    (why ≡ Want refusal.OutOfMemory)
    ⊎ ((fault : FileRefused) × IsFault bytes fault × (why ≡ Bad (file_refusal fault) None))

-- the end tick is too late
abbrev pub IsLate : ℕ → Failed → Type 0
IsLate until why = (why ≡ Bad refusal.BadTick None) × (max_tick < until)

-- why there is no run: memory was wanting, or that
abbrev pub HasNoRun : ℕ → Failed → Type 0
HasNoRun until why = (why ≡ Want refusal.OutOfMemory) ⊎ IsLate until why

-- why workers made no run: there is none, or they gave up for nodes (12), only where they can come so far that a process would hold too many
abbrev pub IsUnmade : Contents AnyModel → Cancel → ℕ → Failed → Type 0
IsUnmade n way until why = HasNoRun until why ⊎ ((why ≡ Want refusal.Full) × CanBeFull any_meaning (start any_meaning n way until))

-- a run that workers made is the sequential one of its network
pub record IsWhole (until : ℕ) (made : Made) : Type 0 where
  pub records : made.records.items ≡ (sequential (network_of any_meaning (arc_value made.network)) until).records
  pub fault : made.fault ≡ run_fault (arc_value made.network) until
  pub small : until ≤ max_tick

-- what is written of records and a fault
abbrev pub IsShown : Contents AnyModel → List Record → Option Fault → RunEnd → Option (List ℕ) → Option (List ℕ) → Type 0
IsShown n records fault (Ok met) old new = (met ≡ fault) × Appends old new (text_of n records fault)
IsShown n records fault (Err (Bad why line)) old new = ⊥
IsShown n records fault (Err (Want why)) old new = (why ≡ refusal.OutOfMemory) × (Keeps old new ⊎ AppendsBeginning old new (text_of n records fault))
IsShown n records fault (Err NoWrite) old new = Unit {0}

-- how a run ends is known, and its trace where it is held
abbrev pub IsHeld : Contents AnyModel → ℕ → Held → Type 0
IsHeld n until held =
    let made = sequential (network_of any_meaning n) until in
    (held.fault ≡ made.fault) × IfSome held.lines (λ lines. lines.text ≡ trace_text (name_in n.names) made.records)

-- how a run of a network in order ends: its text is written, or the end tick is too late
abbrev pub IsMadeInOrder : Contents AnyModel → ℕ → RunEnd → Option (List ℕ) → Option (List ℕ) → Type 0
IsMadeInOrder n until end old new =
    IsShown n (sequential (network_of any_meaning n) until).records (run_fault n until) end old new
    ⊎ (Fails end (IsLate until) × Keeps old new)

-- how one by workers ends, who begin with this executive
abbrev pub IsWorked : Running AnyModel AnyState → RunEnd → Option (List ℕ) → Option (List ℕ) → Type 0
IsWorked e end old new = IsMadeInOrder e.network e.until end old new ⊎ IsGivenUp e end old new

-- ---- the jobs

-- a generator of period 2 and value 5, and a tally that it feeds
abbrev pub demo_network : Contents AnyModel
demo_network = record {
  names = codes "g" ∷ codes "t" ∷ [];
  models = BuiltIn (Gen (record { period = 2; value = pos 5 })) ∷ BuiltIn Tally ∷ [];
  couplings = (0, 0, 1, 0) ∷ [];
  inputs = [];
  micro_limit = 100;
}

abbrev pub demo_text : List ℕ
demo_text = codes "2.0 g out 0=5\n2.0 g int | 1\n2.0 t ext 0=5 | 1 5 5\n4.0 g out 0=5\n4.0 g int | 2\n4.0 t ext 0=5 | 2 10 5\n"

-- the text of its run until 5 is written, or a beginning of it where memory is wanting (4); or its workers want nodes (12), and nothing is
-- written. It meets no limit, and nothing of it is refused
abbrev pub IsDemo : RunEnd → Option (List ℕ) → Option (List ℕ) → Type 0
IsDemo (Ok fault) old new = (fault ≡ None) × Appends old new (run_text demo_network 5)
IsDemo (Err (Bad why line)) old new = ⊥
IsDemo (Err (Want why)) old new =
    ((why ≡ refusal.OutOfMemory) × (Keeps old new ⊎ AppendsBeginning old new (run_text demo_network 5)))
    ⊎ ((why ≡ refusal.Full) × Keeps old new)
IsDemo (Err NoWrite) old new = Unit {0}
