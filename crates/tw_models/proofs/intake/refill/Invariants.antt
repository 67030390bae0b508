use Rattle.std.proofs.Common.{◌≡◌, take}
use Rattle.tw_models.proofs.intake.refill.Given as goal

abbrev pub invariant-loop-value : goal.invariant-loop-value
invariant-loop-value g l = l.copy.items ≡ take l.value-index l.kept.items
