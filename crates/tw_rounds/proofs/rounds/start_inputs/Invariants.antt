-- The inputs so far.
use Rattle.std.proofs.Common.{◌≡◌, take, map}
use Rattle.std.specs.List.{AllByRecursion as Each}
use Rattle.tw_network.specs.Contents.{message_of}
use Rattle.tw_rounds.specs.Dealing.{Carried}
use Rattle.tw_rounds.proofs.rounds.start_inputs.Given as goal

abbrev pub invariant-loop-tick : goal.invariant-loop-tick
invariant-loop-tick g l = record {
  inputs : l.inputs.items ≡ map message_of (take l.tick-index l.tick-items);
  carried : Each Carried l.inputs.items;
}
