use Rattle.std.proofs.Common.{◌≡◌, drop, []}
use Rattle.tw_machine_text.specs.Machine.{run, Begin}
use Rattle.tw_machine_text.specs.Tree.{Empty}
use Rattle.tw_machine_text.specs.Views.{held, seen}
use Rattle.tw_machine_text.proofs.parsing.all.Given as goal

-- what is left, read from here, gives what all of it gives from the start
abbrev pub invariant-words : goal.invariant-words
invariant-words l = run 65 (drop l.index l.words) (seen (held l.stack.frames.items) l.state) ≡ run 65 l.words (Begin [] Empty)
