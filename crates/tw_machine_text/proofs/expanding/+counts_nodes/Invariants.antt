use Rattle.tw_machine_text.specs.Views.{told, body, chain}
use Rattle.tw_machine_text.proofs.Sizes.{size_statement, size_block, size_arms}
use Rattle.tw_machine_text.proofs.expanding.+counts_nodes.Given as goal

abbrev pub decreases-nodes_of_statement : goal.decreases-nodes_of_statement
decreases-nodes_of_statement l = size_statement (told l.said.now)

abbrev pub decreases-nodes_of : goal.decreases-nodes_of
decreases-nodes_of l = size_block (body l.program.now)

abbrev pub decreases-nodes_of_arms : goal.decreases-nodes_of_arms
decreases-nodes_of_arms l = size_arms (chain l.arms.now)
