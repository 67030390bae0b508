use Rattle.std.proofs.Common.{◌≡◌, ◌<◌, drop, ◌^◌}
use Rattle.tw_machine_text.specs.Text.{digits}
use Rattle.tw_machine_text.proofs.dictionary.digits.Given as goal

abbrev pub invariant-loop-c : goal.invariant-loop-c
invariant-loop-c l = record {
  rest : digits l.value (drop l.c-index l.text) ≡ digits 0 l.text;
  small : l.value < 2 ^ 63;
}
