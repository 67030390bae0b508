use Rattle.std.proofs.Common.{ap, ◌∙◌, sym}
use Rattle.tw_machine.specs.Machine.{machine_out}
use Rattle.tw_machine.specs.SeenLaws.{out-seen}
use Rattle.tw_machine.proofs.machine.MachineAtomic.output.Goals as goal

pub returns : goal.returns
returns c = c.send.ensures ∙ sym (out-seen c.text.result.now c.args.state.now) ∙ ap (λ p. machine_out p c.args.state.now) c.text.ensures
