use Rattle.std.proofs.Common.{ap, refl}
use Rattle.std.specs.Prelude.{Some}
use Rattle.tw_machine_text.specs.TextViews.{declarations}
use Rattle.tw_machine_declaration.specs.TimedViews.{named}
use Rattle.tw_machine_file.proofs.Languages.{same_timed}
use Rattle.tw_machine_file.proofs.timed.language_with.Goals as goal

pub returns : goal.returns
returns c = same_timed (record { declared = c.args.declared; timing = Some c.timing.result }) (declarations c.args.declared.now) (named c.args.names) refl (ap Some c.timing.ensures)
