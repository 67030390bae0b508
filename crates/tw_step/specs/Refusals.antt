-- The refusals of a turn.
use Rattle.tw_step.specs.declared.refused.TurnRefused.{TurnRefused}
use Rattle.tw_step.specs.declared.refused.TurnRefused.TheVariants.{OutOfMemory, OverLimit}
use Rattle.tw_vtime.specs.declared.limits.Limit.{Limit}

-- what want of memory is refused by
abbrev pub out_of_memory : TurnRefused
out_of_memory = OutOfMemory

abbrev pub over_limit : Limit → TurnRefused
over_limit limit = OverLimit limit
