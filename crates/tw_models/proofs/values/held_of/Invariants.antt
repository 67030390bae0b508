use Rattle.std.proofs.Common.{◌≡◌, take}
use Rattle.arrayvec.specs.ArrayVec.{array_vec_len}
use Rattle.tw_models.proofs.values.held_of.Given as goal

abbrev pub invariant-loop-value : goal.invariant-loop-value
invariant-loop-value l = record {
  items : l.held.items ≡ take l.value-index l.values;
  count : array_vec_len l.held ≡ l.value-index;
}
