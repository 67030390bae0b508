-- The refusals of the simulator in the table of all refusals.
use Rattle.tw_rounds.specs.declared.refused.SeqRefused.{SeqRefused}
use Rattle.tw_rounds.specs.declared.refused.SeqRefused.TheVariants.{OutOfMemory, BadTick}
use Rattle.tw_vtime.specs.declared.refusal.Refusal.{Refusal}
use Rattle.tw_vtime.specs.declared.refusal.Refusal.TheVariants as refusals

-- what want of memory is refused by
abbrev pub out_of_memory : SeqRefused
out_of_memory = OutOfMemory

abbrev pub seq_refusal : SeqRefused → Refusal
seq_refusal OutOfMemory = refusals.OutOfMemory
seq_refusal BadTick = refusals.BadTick
