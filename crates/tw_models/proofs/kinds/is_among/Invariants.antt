use Rattle.std.proofs.Common.{◌≡◌, drop, map}
use Rattle.tw_models.specs.Kinds.{is_among}
use Rattle.tw_models.proofs.kinds.is_among.Given as goal

abbrev pub invariant-loop-kind : goal.invariant-loop-kind
invariant-loop-kind l = is_among (map (λ k. k.name.now) (drop l.kind-index l.kinds)) l.text ≡ is_among (map (λ k. k.name.now) l.kinds) l.text
