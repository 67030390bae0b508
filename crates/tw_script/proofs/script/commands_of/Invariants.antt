use Rattle.std.proofs.Common.{take}
use Rattle.tw_script.specs.Scripts.{AreSaid}
use Rattle.tw_script.proofs.Reading.{shown}
use Rattle.tw_script.proofs.script.commands_of.Given as goal

abbrev pub invariant-loop-i : goal.invariant-loop-i
invariant-loop-i g l = AreSaid l.network.names (take l.i (shown l.lines)) l.commands.items
