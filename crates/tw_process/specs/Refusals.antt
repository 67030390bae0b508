-- What other refusals are as the refusal of a step, and what this is in the table of all refusals.
use Rattle.tw_pool.specs.declared.refused.PoolRefused.{PoolRefused}
use Rattle.tw_pool.specs.declared.refused.PoolRefused.TheVariants as pool
use Rattle.tw_step.specs.declared.refused.TurnRefused.{TurnRefused}
use Rattle.tw_step.specs.declared.refused.TurnRefused.TheVariants as turn
use Rattle.tw_process.specs.declared.refused.StepRefused.{StepRefused}
use Rattle.tw_process.specs.declared.refused.StepRefused.TheVariants.{OutOfMemory, Full, NothingDue, OverLimit}
use Rattle.tw_vtime.specs.Refusals.{limit_refusal}
use Rattle.tw_vtime.specs.declared.refusal.Refusal.{Refusal}
use Rattle.tw_vtime.specs.declared.refusal.Refusal.TheVariants as refusal

-- what want of memory is refused by
abbrev pub out_of_memory : StepRefused
out_of_memory = OutOfMemory

abbrev pub of_pool : PoolRefused → StepRefused
of_pool pool.OutOfMemory = OutOfMemory
of_pool pool.Full = Full

abbrev pub of_turn : TurnRefused → StepRefused
of_turn turn.OutOfMemory = OutOfMemory
of_turn (turn.OverLimit limit) = OverLimit limit

abbrev pub step_refusal : StepRefused → Refusal
step_refusal OutOfMemory = refusal.OutOfMemory
step_refusal Full = refusal.Full
step_refusal NothingDue = refusal.NothingDue
step_refusal (OverLimit limit) = limit_refusal limit
