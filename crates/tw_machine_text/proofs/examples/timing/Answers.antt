use Rattle.std.proofs.Common.{refl, lit≤}
use Rattle.tw_machine_text.proofs.Told.{sound}
use Rattle.tw_machine_text.proofs.examples.timing.Goals as goal

pub returns-clause-words : goal.returns-clause-words
returns-clause-words c = sound 64 4096 _ _ (lit≤ tt) (lit≤ tt) refl

pub returns-clause-starting : goal.returns-clause-starting
returns-clause-starting c = refl

pub returns-clause-stopping : goal.returns-clause-stopping
returns-clause-stopping c = (refl, refl)

pub returns-clause-sending : goal.returns-clause-sending
returns-clause-sending c = refl

pub returns-clause-asking : goal.returns-clause-asking
returns-clause-asking c = (refl, refl)

pub returns-clause-idling : goal.returns-clause-idling
returns-clause-idling c = (refl, refl)

pub returns-clause-named : goal.returns-clause-named
returns-clause-named c = (refl, refl, refl, refl, refl, refl, refl)

pub returns-clause-kept : goal.returns-clause-kept
returns-clause-kept c = (refl, refl, refl, refl, refl)
