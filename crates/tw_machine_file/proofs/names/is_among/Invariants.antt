use Rattle.std.proofs.Common.{◌≡◌, drop, map}
use Rattle.tw_machine_file.specs.Names.{is_among}
use Rattle.tw_machine_file.proofs.names.is_among.Given as goal

abbrev pub invariant-loop-one : goal.invariant-loop-one
invariant-loop-one l = is_among (map (λ t. t.now) (drop l.one-index l.texts)) l.text ≡ is_among (map (λ t. t.now) l.texts) l.text
