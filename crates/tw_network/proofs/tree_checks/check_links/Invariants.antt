use Rattle.std.proofs.Common.{◌≡◌, take, drop}
use Rattle.tw_network.specs.Faults.{first_of}
use Rattle.tw_network.specs.TreeFaults.{link_fault, links_fault}
use Rattle.tw_network.proofs.tree_checks.check_links.Given as goal

abbrev pub invariant-loop-link : goal.invariant-loop-link
invariant-loop-link l =
    (l.seen.keys ≡ take l.link-index l.links)
    × (links_fault l.is_root l.count l.links ≡ first_of (link_fault l.is_root l.count) (take l.link-index l.links) (drop l.link-index l.links))
