use Rattle.tw_models.specs.Wraps.{IsWithin-zero}
use Rattle.tw_models.proofs.queue.QueueAtomic.transition.Goals as goal

pub take_in-requires-in-Con : goal.take_in-requires-in-Con
take_in-requires-in-Con c = IsWithin-zero _
