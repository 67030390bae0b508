-- What is still to be routed completes the messages.
use Rattle.std.proofs.Common.{◌≡◌, ◌++◌, drop}
use Rattle.tw_network.specs.Contents.{network_of}
use Rattle.tw_theory.specs.Network.{routed, copies}
use Rattle.tw_step.proofs.outputs.routed.Given as goal

abbrev pub invariant-loop-port : goal.invariant-loop-port
invariant-loop-port g l = l.messages.items ++ routed (network_of g.M.Atomic.meaning l.network) l.component l.stamp (drop l.port-index l.bag) ≡ routed (network_of g.M.Atomic.meaning l.network) l.component l.stamp l.bag

abbrev pub invariant-loop-to : goal.invariant-loop-to
invariant-loop-to g l = l.messages.items ++ copies l.stamp l.value (drop l.to-index l.to-items) ≡ l.initial.messages.items ++ copies l.stamp l.value l.to-items
