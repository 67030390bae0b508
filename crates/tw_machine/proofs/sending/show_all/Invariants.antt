use Rattle.std.proofs.Common.{◌≡◌, ◌++◌, take}
use Rattle.tw_machine.specs.Machine.{shown}
use Rattle.tw_machine.proofs.sending.show_all.Given as goal

abbrev pub invariant-loop-one : goal.invariant-loop-one
invariant-loop-one l = l.words.items ≡ l.fn.words.items ++ shown (take l.one-index l.shows) l.numbers l.input l.memory
