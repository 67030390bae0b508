-- The refusals of the executive: what other refusals are as its own, and its own in the table of all refusals.
use Rattle.tw_exec.specs.declared.refused.Refused.{Refused}
use Rattle.tw_exec.specs.declared.refused.Refused.TheVariants.{OutOfMemory, Full, NothingDue, OverLimit, NoSuch, BeforeGvt, Committed}
use Rattle.tw_exec.specs.declared.refused.StartRefused.{StartRefused}
use Rattle.tw_exec.specs.declared.refused.StartRefused.TheVariants as start
use Rattle.tw_pool.specs.declared.refused.PoolRefused.{PoolRefused}
use Rattle.tw_pool.specs.declared.refused.PoolRefused.TheVariants as pool
use Rattle.tw_process.specs.declared.refused.StepRefused.{StepRefused}
use Rattle.tw_process.specs.declared.refused.StepRefused.TheVariants as step
use Rattle.tw_vtime.specs.Refusals.{limit_refusal}
use Rattle.tw_vtime.specs.declared.refusal.Refusal.{Refusal}
use Rattle.tw_vtime.specs.declared.refusal.Refusal.TheVariants as refusals

-- what want of memory is refused by
abbrev pub out_of_memory : Refused
out_of_memory = OutOfMemory

abbrev pub start_out_of_memory : StartRefused
start_out_of_memory = start.OutOfMemory

abbrev pub of_pool : PoolRefused → Refused
of_pool pool.OutOfMemory = OutOfMemory
of_pool pool.Full = Full

abbrev pub of_step : StepRefused → Refused
of_step step.OutOfMemory = OutOfMemory
of_step step.Full = Full
of_step step.NothingDue = NothingDue
of_step (step.OverLimit limit) = OverLimit limit

abbrev pub refusal_of : Refused → Refusal
refusal_of OutOfMemory = refusals.OutOfMemory
refusal_of Full = refusals.Full
refusal_of NothingDue = refusals.NothingDue
refusal_of (OverLimit limit) = limit_refusal limit
refusal_of NoSuch = refusals.NoSuch
refusal_of BeforeGvt = refusals.BeforeGvt
refusal_of Committed = refusals.Committed

abbrev pub start_refusal_of : StartRefused → Refusal
start_refusal_of start.OutOfMemory = refusals.OutOfMemory
start_refusal_of start.BadTick = refusals.BadTick
