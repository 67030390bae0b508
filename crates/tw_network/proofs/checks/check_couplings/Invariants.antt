use Rattle.std.proofs.Common.{◌≡◌, take, drop}
use Rattle.tw_network.specs.Faults.{first_of, coupling_fault, couplings_fault}
use Rattle.tw_network.proofs.checks.check_couplings.Given as goal

abbrev pub invariant-loop-coupling : goal.invariant-loop-coupling
invariant-loop-coupling l =
    (l.seen.keys ≡ take l.coupling-index l.couplings)
    × (couplings_fault l.count l.couplings ≡ first_of (coupling_fault l.count) (take l.coupling-index l.couplings) (drop l.coupling-index l.couplings))
