-- Why a script says nothing, in the table of all refusals.
use Rattle.tw_script.specs.declared.refused.ScriptRefused.{ScriptRefused}
use Rattle.tw_script.specs.declared.refused.ScriptRefused.TheVariants.{OutOfMemory, TooMany, BadLine}
use Rattle.tw_vtime.specs.declared.refusal.Refusal.{Refusal}
use Rattle.tw_vtime.specs.declared.refusal.Refusal.TheVariants as refusals

-- what want of memory is refused by
abbrev pub out_of_memory : ScriptRefused
out_of_memory = OutOfMemory

abbrev pub refusal_of : ScriptRefused → Refusal
refusal_of OutOfMemory = refusals.OutOfMemory
refusal_of TooMany = refusals.TooMany
refusal_of (BadLine n) = refusals.BadScript
