-- How a job ends: Ok with what it came to, or Err where it is refused or could not go on.
--     RunEnd      the text of a run is written: Ok with the fault that it ends in, or none
--     ViewEnd     what is told of a run is written: Ok with the line of the run's fault, or none
--     PlainEnd    all is written
--     Fails end P      it is no end, for a reason of which P is true
use Rattle.std.specs.Global.{Global}
use Rattle.std.specs.Prelude.{Option, None, Result, Ok, Err, String}
use Rattle.tw_engine.specs.declared.failed.Failed.{Failed}
use Rattle.tw_engine.specs.declared.failed.Failed.TheVariants.{Bad, Want, NoWrite}
pub use Rattle.tw_theory.specs.Simulator.{Fault}
use Rattle.tw_vtime.specs.declared.refusal.Refusal.{Refusal}
use Rattle.tw_vtime.specs.declared.refusal.Refusal.TheVariants as refusal

abbrev pub RunEnd : Type 0
RunEnd = Result (Option Fault) Failed

abbrev pub ViewEnd : Type 0
ViewEnd = Result (Option (String Global)) Failed

abbrev pub PlainEnd : Type 0
PlainEnd = Result Unit Failed

abbrev pub Fails : {A : Type 0} → Result A Failed → (Failed → Type 0) → Type 0
Fails (Ok end) P = ⊥
Fails (Err why) P = P why

-- how a job fails that is refused for this: want of memory or of nodes, a failed writer, or a bad line or file
abbrev pub failed_of : Refusal → Failed
failed_of refusal.OutOfMemory = Want refusal.OutOfMemory
failed_of refusal.Full = Want refusal.Full
failed_of refusal.WriteFailed = NoWrite
failed_of why = Bad why None

abbrev pub out_of_memory : Failed
out_of_memory = Want refusal.OutOfMemory
