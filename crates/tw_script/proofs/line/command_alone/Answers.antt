use Rattle.std.proofs.Common.{rules}
use Rattle.tw_script.proofs.Saying.{no_word}
use Rattle.tw_script.proofs.line.command_alone.Goals as goal

pub returns-in_default-clause-none : goal.returns-in_default-clause-none
returns-in_default-clause-none c names = no_word names c.args.word.now c.requires (search rules) (search rules) (search rules) (search rules)
