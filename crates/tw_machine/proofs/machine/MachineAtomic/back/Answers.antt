use Rattle.std.proofs.Common.{ap, ◌∙◌, sym}
use Rattle.tw_machine.specs.Machine.{machine_undone}
use Rattle.tw_machine.specs.SeenLaws.{machine_undone-seen}
use Rattle.tw_machine.proofs.machine.MachineAtomic.back.Goals as goal

pub returns : goal.returns
returns c =
    let a = c.args in
    c.take_back.ensures ∙ sym (machine_undone-seen c.text.result.now a.residue.left a.residue.log a.turn a.state.now a.elapsed a.bag.now)
    ∙ ap (λ p. machine_undone p a.residue.left a.residue.log a.turn a.state.now a.elapsed a.bag.now) c.text.ensures
