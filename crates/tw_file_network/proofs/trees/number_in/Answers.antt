use Rattle.std.proofs.Common.{◌∙◌, sym}
use Rattle.tw_file_network.proofs.AtomNumbers.{no_number, number_at}
use Rattle.tw_file_network.proofs.trees.number_in.Goals as goal

pub returns-in-Some : goal.returns-in-Some
returns-in-Some c = sym (number_at c.args.network.now.names c.args.name.now c.in-Some.component c.facts.ensures.distinct c.in-Some.ensures.found)

pub returns-in-None : goal.returns-in-None
returns-in-None c = c.len.ensures ∙ sym c.facts.ensures.all_named ∙ sym (no_number c.args.network.now.names c.args.name.now c.in-None.ensures.absent)
