-- The executive's refusals in the words of the theory.
--     reason why      why the theory refuses it; of memory and nodes (4, 12) the theory knows nothing
use Rattle.std.specs.Prelude.{Option, Some, None}
use Rattle.tw_exec.specs.declared.refused.Refused.{Refused}
use Rattle.tw_exec.specs.declared.refused.Refused.TheVariants.{OutOfMemory, Full, NothingDue, OverLimit, NoSuch, BeforeGvt, Committed}
use Rattle.tw_theory.specs.Executive as theory

abbrev pub reason : Refused → Option theory.Refusal
reason OutOfMemory = None
reason Full = None
reason NothingDue = Some theory.NothingDue
reason (OverLimit limit) = Some (theory.OverLimit limit)
reason NoSuch = Some theory.NoSuch
reason BeforeGvt = Some theory.BeforeGvt
reason Committed = Some theory.Committed
