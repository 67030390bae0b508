use Rattle.std.proofs.Common.{◌≡◌, ◌++◌, drop, map}
use Rattle.tw_machine_text.specs.TextViews.{declarations}
use Rattle.tw_machine_text.proofs.kinds.kinds_declared.Given as goal

-- what has come and what is to come
abbrev pub invariant-loop-one : goal.invariant-loop-one
invariant-loop-one l = l.kinds.items ++ map (λ d. d.1) (declarations (drop l.one-index l.declared)) ≡ map (λ d. d.1) (declarations l.declared)
