use Rattle.std.proofs.Common.{ap, ◌∙◌, sym}
use Rattle.tw_atomic.specs.Atomic.{turned}
use Rattle.tw_machine.specs.Machine.{machine_meaning}
use Rattle.tw_machine.specs.SeenLaws.{turned-seen}
use Rattle.tw_machine.proofs.machine.MachineAtomic.transition.Goals as goal

pub returns-clause-state : goal.returns-clause-state
returns-clause-state c =
    let a = c.args in
    c.turn.ensures ∙ sym (turned-seen c.text.result.now a.turn a.state.now a.elapsed a.bag.now)
    ∙ ap (λ p. turned (machine_meaning p) a.turn a.state.now a.elapsed a.bag.now) c.text.ensures
