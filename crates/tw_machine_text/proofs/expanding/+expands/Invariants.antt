use Rattle.tw_machine_text.specs.Views.{told, body, chain}
use Rattle.tw_machine_text.proofs.Sizes.{size_statement, size_block, size_arms}
use Rattle.tw_machine_text.proofs.expanding.+expands.Given as goal

abbrev pub decreases-expanded_statement : goal.decreases-expanded_statement
decreases-expanded_statement l = size_statement (told l.said.now)

abbrev pub decreases-expanded : goal.decreases-expanded
decreases-expanded l = size_block (body l.program.now)

abbrev pub decreases-expanded_arms : goal.decreases-expanded_arms
decreases-expanded_arms l = size_arms (chain l.arms.now)
