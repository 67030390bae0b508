use Rattle.std.proofs.Common.{◌≡◌, drop, map}
use Rattle.tw_machine_text.specs.Text.{position}
use Rattle.tw_machine_warnings.proofs.names.function_in.Given as goal

-- it is none of those that have come
abbrev pub invariant-loop-index : goal.invariant-loop-index
invariant-loop-index l = position l.index (map (λ f. f.now) (drop l.index l.functions)) l.name ≡ position 0 (map (λ f. f.now) l.functions) l.name
