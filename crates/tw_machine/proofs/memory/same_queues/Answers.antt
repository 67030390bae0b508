use Rattle.std.proofs.Common.{◌≡◌, length, refl, arith}
use Rattle.std.proofs.lemmas.List.{ext_get_or}
use Rattle.tw_machine.specs.Memory.{no_queue}
use Rattle.tw_machine.proofs.memory.same_queues.Goals as goal

pub returns : goal.returns
returns c =
    let long : length c.args.one.now ≡ length c.args.other.now = omega arith in
    (λ _. ext_get_or no_queue c.args.one.now c.args.other.now long (λ k h. c.loop-at.invariant k (omega arith)), λ _. refl)
