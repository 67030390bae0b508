use Rattle.std.proofs.Common.{◌≡◌, drop}
use Rattle.tw_models.specs.Hop.{stirred_all}
use Rattle.tw_models.proofs.hop.stirred_all.Given as goal

abbrev pub invariant-loop-item : goal.invariant-loop-item
invariant-loop-item l = stirred_all l.x (drop l.item-index l.bag) ≡ stirred_all l.fn.x l.bag
