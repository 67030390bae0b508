use Rattle.std.proofs.Common.{ap, ◌∙◌, sym, subst}
use Rattle.tw_machine.specs.Program.{FitsProgram}
use Rattle.tw_machine.specs.Machine.{machine_start, IsMachine}
use Rattle.tw_machine.specs.MachineLaws.{machine_start_valid}
use Rattle.tw_machine.specs.SeenLaws.{program-fits-seen}
use Rattle.tw_machine.proofs.machine.MachineAtomic.start.Goals as goal

pub returns-clause-valid_state : goal.returns-clause-valid_state
returns-clause-valid_state c =
    let p = c.args.self.now.program in
    subst (IsMachine p) (sym (c.in_ok-state.ensures ∙ ap machine_start c.text-program.ensures))
    (machine_start_valid p (subst FitsProgram c.text-program.ensures (program-fits-seen c.text-program.result.now c.facts.ensures)))
