-- The refusals of the exchange in the table of all refusals.
use Rattle.tw_vtime.specs.declared.refusal.Refusal.{Refusal}
use Rattle.tw_vtime.specs.declared.refusal.Refusal.TheVariants as refusals
use Rattle.tw_exchange.specs.declared.refused.SweepRefused.{SweepRefused}
use Rattle.tw_exchange.specs.declared.refused.SweepRefused.TheVariants.{OutOfMemory, Full}

abbrev pub no_such : Refusal
no_such = refusals.NoSuch

abbrev pub sweep_refusal_of : SweepRefused → Refusal
sweep_refusal_of OutOfMemory = refusals.OutOfMemory
sweep_refusal_of Full = refusals.Full
