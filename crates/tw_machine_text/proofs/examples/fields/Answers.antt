use Rattle.std.proofs.Common.{refl, lit≤}
use Rattle.tw_machine_text.proofs.Told.{sound}
use Rattle.tw_machine_text.proofs.examples.fields.Goals as goal

pub returns-clause-written : goal.returns-clause-written
returns-clause-written c = sound 64 4096 _ _ (lit≤ tt) (lit≤ tt) refl

pub returns-clause-packed : goal.returns-clause-packed
returns-clause-packed c = refl

pub returns-clause-read : goal.returns-clause-read
returns-clause-read c = refl

pub returns-clause-named : goal.returns-clause-named
returns-clause-named c = (refl, refl, refl, refl, refl, refl, refl, refl)
