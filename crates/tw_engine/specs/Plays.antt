-- What the engine writes where an executive is driven by hand, and how that ends.
--     committed_text p      the trace up to the least commit line
--     IsScripted bytes script until way end old new      driven by a script
--     IsSeeded bytes seed steps until way end old new      driven by the actions that a seed gives
use Rattle.std.specs.Prelude.{ℕ, ◌≡◌, ◌⊎◌, List, Option, Some, None, Ok, Err}
use Rattle.std.specs.Io.KnownBytes.{Appends, Keeps}
use Rattle.tw_engine.specs.Ends.{PlainEnd}
use Rattle.tw_engine.specs.Runs.{Means, IsCause, name_in}
use Rattle.tw_engine.specs.declared.failed.Failed.TheVariants.{Bad, Want, NoWrite}
use Rattle.tw_exec.specs.Running.{Running, start}
use Rattle.tw_any_model.specs.AnyModel.{any_meaning}
use Rattle.tw_any_model.specs.declared.any_model.AnyModel.{AnyModel}
use Rattle.tw_any_model.specs.declared.any_model.AnyState.{AnyState}
use Rattle.tw_network.specs.Contents.{Contents, network_of}
use Rattle.tw_play.specs.Playing.{Played, begun}
use Rattle.tw_play.specs.Telling.{IsCutShort, IsDrawnShort, IsPlayed, IsWhollyDrawn}
use Rattle.tw_seeded.specs.Schedules.{seeded}
use Rattle.tw_script.specs.Scripts.{IsRefusedFor, IsScript}
use Rattle.tw_script.specs.declared.command.Command.{Command}
use Rattle.tw_script.specs.declared.refused.ScriptRefused.TheVariants.{TooMany, BadLine}
use Rattle.tw_texts.specs.Texts.{trace_text}
use Rattle.tw_theory.specs.Contents.{Cancel}
use Rattle.tw_theory.specs.Simulator.{sequential}
use Rattle.tw_theory.specs.Traces.{before, least_line}
use Rattle.tw_vtime.specs.declared.refusal.Refusal.TheVariants as refusal

-- ---- the trace at the end

-- the lines of what the simulator records before the least commit line
abbrev pub committed_text : Running AnyModel AnyState → List ℕ
committed_text e = trace_text (name_in e.network.names) (before (least_line e.world.processes) (sequential (network_of any_meaning e.network) e.until).records)

-- it is written whole; or memory was wanting, and nothing of it is; or the writer failed
abbrev pub IsTraced : Running AnyModel AnyState → PlainEnd → Option (List ℕ) → Option (List ℕ) → Type 0
IsTraced e (Ok done) old new = Appends old new (committed_text e)
IsTraced e (Err (Bad why line)) old new = ⊥
IsTraced e (Err (Want why)) old new = (why ≡ refusal.OutOfMemory) × Keeps old new
IsTraced e (Err NoWrite) old new = Unit {0}

-- ---- answers, and then the trace

-- all is played (Whole says what went out, and where it ended), and then the trace is written. Where memory was wanting a beginning was
-- played (Short), or all, and there is no trace
abbrev pub IsDriven : (Played AnyModel AnyState → Option (List ℕ) → Option (List ℕ) → Type 0) → (Option (List ℕ) → Option (List ℕ) → Type 0) → PlainEnd → Option (List ℕ) → Option (List ℕ) → Type 0
IsDriven Whole Short (Ok done) old new = (p : Played AnyModel AnyState) × (mid : Option (List ℕ)) × Whole p old mid × IsTraced p.executive (Ok done) mid new
IsDriven Whole Short (Err (Bad why line)) old new = ⊥
IsDriven Whole Short (Err (Want why)) old new =
    ((why ≡ refusal.OutOfMemory) × Short old new)
    ⊎ ((p : Played AnyModel AnyState) × (mid : Option (List ℕ)) × Whole p old mid × IsTraced p.executive (Err (Want why)) mid new)
IsDriven Whole Short (Err NoWrite) old new = Unit {0}

-- the executive of a network at its start, driven by hand
abbrev pub first : Contents AnyModel → Cancel → ℕ → Played AnyModel AnyState
first n way until = begun (start any_meaning n way until)

abbrev pub IsDrivenBy : Contents AnyModel → List Command → Cancel → ℕ → PlainEnd → Option (List ℕ) → Option (List ℕ) → Type 0
IsDrivenBy n commands way until end old new = IsDriven (IsPlayed any_meaning commands (first n way until)) (IsCutShort any_meaning commands (first n way until)) end old new

abbrev pub IsDrawnBy : Contents AnyModel → ℕ → ℕ → Cancel → ℕ → PlainEnd → Option (List ℕ) → Option (List ℕ) → Type 0
IsDrawnBy n seed steps way until end old new = IsDriven (IsWhollyDrawn any_meaning (seeded seed) steps (first n way until)) (IsDrawnShort any_meaning (seeded seed) steps (first n way until)) end old new

-- ---- by the bytes of the files

-- the script says commands to the network, and they are played
abbrev pub IsScriptPlayed : List ℕ → List ℕ → ℕ → Cancel → PlainEnd → Option (List ℕ) → Option (List ℕ) → Type 0
IsScriptPlayed bytes script until way end old new = Means bytes (λ n. (commands : List Command) × IsScript n.names script commands × IsDrivenBy n commands way until end old new)

-- nothing is written where the end tick or the network is refused, and then where the script is
abbrev pub IsScripted : List ℕ → List ℕ → ℕ → Cancel → PlainEnd → Option (List ℕ) → Option (List ℕ) → Type 0
IsScripted bytes script until way (Ok done) old new = IsScriptPlayed bytes script until way (Ok done) old new
IsScripted bytes script until way (Err (Bad why None)) old new = Keeps old new × (IsCause bytes until why ⊎ Means bytes (λ n. (why ≡ refusal.TooMany) × IsRefusedFor n.names script TooMany))
IsScripted bytes script until way (Err (Bad why (Some line))) old new = Keeps old new × (why ≡ refusal.BadScript) × Means bytes (λ n. IsRefusedFor n.names script (BadLine line))
IsScripted bytes script until way (Err (Want why)) old new = ((why ≡ refusal.OutOfMemory) × Keeps old new) ⊎ IsScriptPlayed bytes script until way (Err (Want why)) old new
IsScripted bytes script until way (Err NoWrite) old new = Unit {0}

abbrev pub IsSeeded : List ℕ → ℕ → ℕ → ℕ → Cancel → PlainEnd → Option (List ℕ) → Option (List ℕ) → Type 0
IsSeeded bytes seed steps until way (Ok done) old new = Means bytes (λ n. IsDrawnBy n seed steps way until (Ok done) old new)
IsSeeded bytes seed steps until way (Err (Bad why line)) old new = Keeps old new × (line ≡ None) × IsCause bytes until why
IsSeeded bytes seed steps until way (Err (Want why)) old new = ((why ≡ refusal.OutOfMemory) × Keeps old new) ⊎ Means bytes (λ n. IsDrawnBy n seed steps way until (Err (Want why)) old new)
IsSeeded bytes seed steps until way (Err NoWrite) old new = Unit {0}
