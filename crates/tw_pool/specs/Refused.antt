-- What a pool's refusal is in the table of all refusals.
use Rattle.tw_vtime.specs.declared.refusal.Refusal.{Refusal}
use Rattle.tw_vtime.specs.declared.refusal.Refusal.TheVariants as refusal
use Rattle.tw_pool.specs.declared.refused.PoolRefused.{PoolRefused}
use Rattle.tw_pool.specs.declared.refused.PoolRefused.TheVariants.{OutOfMemory, Full}

abbrev pub pool_refusal : PoolRefused → Refusal
pool_refusal OutOfMemory = refusal.OutOfMemory
pool_refusal Full = refusal.Full
