use Rattle.std.proofs.Common.{refl, lit≤}
use Rattle.std.proofs.lemmas.Option.{none-some}
use Rattle.tw_machine_text.proofs.Told.{sound}
use Rattle.tw_machine_text.proofs.Statements.{again_means}
use Rattle.tw_machine_text.proofs.examples.binding.Goals as goal

pub returns-clause-not_equal : goal.returns-clause-not_equal
returns-clause-not_equal c = sound 64 4096 _ _ (lit≤ tt) (lit≤ tt) refl

pub returns-clause-two_less : goal.returns-clause-two_less
returns-clause-two_less c = sound 64 4096 _ _ (lit≤ tt) (lit≤ tt) refl

pub returns-clause-minus_times : goal.returns-clause-minus_times
returns-clause-minus_times c = sound 64 4096 _ _ (lit≤ tt) (lit≤ tt) refl

pub returns-clause-and_or : goal.returns-clause-and_or
returns-clause-and_or c = sound 64 4096 _ _ (lit≤ tt) (lit≤ tt) refl

pub returns-clause-behind_queues : goal.returns-clause-behind_queues
returns-clause-behind_queues c = sound 64 4096 _ _ (lit≤ tt) (lit≤ tt) refl

pub returns-clause-chains : goal.returns-clause-chains
returns-clause-chains c = sound 64 4096 _ _ (lit≤ tt) (lit≤ tt) refl

pub returns-clause-observing : goal.returns-clause-observing
returns-clause-observing c = sound 64 4096 _ _ (lit≤ tt) (lit≤ tt) refl

pub returns-clause-observed : goal.returns-clause-observed
returns-clause-observed c = refl

pub returns-clause-no_chain : goal.returns-clause-no_chain
returns-clause-no_chain c program means = none-some program (again_means 64 4096 _ program means)
