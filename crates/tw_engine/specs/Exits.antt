-- The exit of each end, its status and its line for standard error.
--     exit_of_run, exit_of_view, exit_of_rest      of a text of a run, of what is told of one, of any other job
use Rattle.std.specs.Prelude.{ℕ, List, [], ◌++◌, codes, Some, None, Ok, Err, string_bytes}
use Rattle.std.specs.Fmt.{decimal}
use Rattle.tw_vtime.specs.Refusals.{refusal_text}
use Rattle.tw_vtime.specs.declared.refusal.Refusal.{Refusal}
use Rattle.tw_vtime.specs.declared.refusal.Refusal.TheVariants as refusal
use Rattle.tw_engine.specs.Ends.{PlainEnd, RunEnd, ViewEnd}
use Rattle.tw_engine.specs.declared.exit.Exit.{Exit}
use Rattle.tw_engine.specs.declared.exit.Exit.TheVariants.{Done, Bad, Fault, Limited, Want, NoWrite}
use Rattle.tw_engine.specs.declared.failed.Failed.{Failed}
use Rattle.tw_engine.specs.declared.failed.Failed.TheVariants as failed

abbrev pub exit_of : Failed → Exit
exit_of (failed.Bad why line) = Bad why line
exit_of (failed.Want why) = Want why
exit_of failed.NoWrite = NoWrite

abbrev pub exit_of_run : RunEnd → Exit
exit_of_run (Ok None) = Done
exit_of_run (Ok (Some fault)) = Fault
exit_of_run (Err why) = exit_of why

abbrev pub exit_of_view : ViewEnd → Exit
exit_of_view (Ok None) = Done
exit_of_view (Ok (Some line)) = Limited line
exit_of_view (Err why) = exit_of why

abbrev pub exit_of_rest : PlainEnd → Exit
exit_of_rest (Ok done) = Done
exit_of_rest (Err why) = exit_of why

abbrev pub status_of : Exit → ℕ
status_of Done = 0
status_of (Bad why line) = 2
status_of Fault = 3
status_of (Limited line) = 3
status_of (Want why) = 4
status_of NoWrite = 5

abbrev pub refusal_line : Refusal → List ℕ
refusal_line why = codes "twarp: " ++ refusal_text why ++ codes "\n"

abbrev pub line_of : Exit → List ℕ
line_of Done = []
line_of (Bad why None) = refusal_line why
line_of (Bad why (Some line)) = codes "twarp: " ++ refusal_text why ++ codes " line " ++ decimal line ++ codes "\n"
line_of Fault = []
line_of (Limited line) = string_bytes line
line_of (Want why) = refusal_line why
line_of NoWrite = refusal_line refusal.WriteFailed
