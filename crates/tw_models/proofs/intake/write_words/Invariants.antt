use Rattle.std.proofs.Common.{◌≡◌, ◌∷◌, [], ◌++◌, ◌+◌, ◌-◌, ◌≤◌, take, pos, length}
use Rattle.std.specs.Prelude.{vec_len, vec_capacity}
use Rattle.tw_models.proofs.intake.write_words.Given as goal

abbrev pub invariant-loop-value : goal.invariant-loop-value
invariant-loop-value l =
    record {
      written : l.words.items ≡ (l.fn.words.items ++ pos l.dropped ∷ []) ++ take l.value-index l.values;
      room : vec_len l.words + (length l.values - l.value-index) ≤ vec_capacity l.words;
    }
