use Rattle.std.proofs.Common.{◌≡◌, drop, map}
use Rattle.tw_machine_text.specs.Text.{position}
use Rattle.tw_machine_text.proofs.dictionary.function_in.Given as goal

abbrev pub invariant-loop-index : goal.invariant-loop-index
invariant-loop-index l = position l.index (map (λ f. f.now) (drop l.index l.functions)) l.text ≡ position 0 (map (λ f. f.now) l.functions) l.text
