use Rattle.tw_machine_file.proofs.Saying.{program_reads, reads_program, tree_reads, reads_tree}
use Rattle.tw_machine_file.proofs.texts.said_law.Goals as goal

pub returns-clause-programs : goal.returns-clause-programs
returns-clause-programs c names timing kinds procedures text p = (program_reads names timing kinds procedures text p, reads_program names timing kinds procedures text p)

pub returns-clause-trees : goal.returns-clause-trees
returns-clause-trees c member names timing kinds text e = (tree_reads member names timing kinds text e, reads_tree member names timing kinds text e)
