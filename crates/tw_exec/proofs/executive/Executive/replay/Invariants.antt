-- What comes of the actions so far.
use Rattle.std.proofs.Common.{◌≡◌, ◌≤◌, take}
use Rattle.tw_network.specs.Contents.{network_of}
use Rattle.tw_theory.specs.Memory.{IsReplayed}
use Rattle.tw_exec.proofs.executive.Executive.replay.Given as goal

abbrev pub invariant-loop-action : goal.invariant-loop-action
invariant-loop-action g l = record {
  replayed : IsReplayed (network_of g.M.Atomic.meaning l.fn.self.network) l.fn.self.until l.fn.self.world (take l.action-index l.actions) l.taken l.self.world;
  others : l.self ≡ record l.fn.self { world = l.self.world };
  few : l.taken ≤ l.action-index;
}
