use Rattle.std.proofs.lemmas.List.Sorted.{All-permutation}
use Rattle.tw_network.specs.Contents.{IsCoupling}
use Rattle.tw_network.proofs.RouteParts.{is_route_index, ports_of}
use Rattle.tw_network.proofs.routes.Routes.new.Goals as goal

pub starts_of-requires-clause-couplings : goal.starts_of-requires-clause-couplings
starts_of-requires-clause-couplings c =
    rw c.as_slice.ensures.value (All-permutation (IsCoupling c.args.count) c.args.couplings.now c.in_ok-sorted.sorted.items c.in_ok-sorted.ensures.same c.requires.couplings)

pub returns : goal.returns
returns c =
    let all = All-permutation (IsCoupling c.args.count) c.args.couplings.now c.in_ok-sorted.sorted.items c.in_ok-sorted.ensures.same c.requires.couplings in
    rw (c.in_ok-places.ensures, c.as_slice-2.ensures.value)
    (is_route_index c.args.couplings.now c.args.count c.in_ok-sorted.sorted.items c.in_ok-starts.starts.items (ports_of c.args.count c.in_ok-sorted.sorted.items all)
    c.in_ok-sorted.ensures.same c.in_ok-sorted.ensures.in_order c.in_ok-starts.ensures.parts
    (λ part lt. rw c.as_slice.ensures.value at (c.in_ok-starts.ensures.starts part lt)))
