use Rattle.std.proofs.Common.{◌≡◌, ◌++◌, take}
use Rattle.tw_models.specs.Intake.{values_of}
use Rattle.tw_models.proofs.intake.accept.Given as goal

abbrev pub invariant-loop-item : goal.invariant-loop-item
invariant-loop-item g l = record { kept : l.kept.items ≡ l.fn.kept.items ++ values_of (take l.item-index l.fn.bag) }
