use Rattle.tw_machine_text.proofs.Statements.{one_program}
use Rattle.tw_machine_text.proofs.parsing.one_program.Goals as goal

pub returns : goal.returns
returns c = one_program
