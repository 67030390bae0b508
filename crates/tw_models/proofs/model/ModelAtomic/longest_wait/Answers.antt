-- A relay or a queue waits, as a model, as it does alone.
use Rattle.std.specs.Prelude.{refl}
use Rattle.tw_models.specs.declared.model.State.TheVariants.{OfRelay, OfQueue}
use Rattle.tw_models.specs.Relay.{relay_meaning}
use Rattle.tw_models.specs.Queue.{queue_meaning}
use Rattle.tw_models.specs.Model.{relay_part, queue_part}
use Rattle.tw_models.specs.Waits.{within_waits}
use Rattle.tw_models.proofs.model.ModelAtomic.longest_wait.Goals as goal

pub returns-in-Relay-clause-waits : goal.returns-in-Relay-clause-waits
returns-in-Relay-clause-waits c = rw c.in-Relay.is (within_waits OfRelay relay_part (relay_meaning c.in-Relay.model) c.longest_wait-in-Relay.result (λ s. refl) c.longest_wait-in-Relay.ensures.waits)

pub returns-in-Queue-clause-waits : goal.returns-in-Queue-clause-waits
returns-in-Queue-clause-waits c = rw c.in-Queue.is (within_waits OfQueue queue_part (queue_meaning c.in-Queue.model) c.longest_wait-in-Queue.result (λ s. refl) c.longest_wait-in-Queue.ensures.waits)
