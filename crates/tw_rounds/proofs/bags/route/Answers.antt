-- Item by item, and place by place.
use Rattle.std.proofs.Common.{◌+◌, ◌∙◌, ap, arith, drop, length, pos, slice_index_or, ◌∷◌, [], rules, w64, SFits}
use Rattle.std.proofs.lemmas.Int.{to_z-of_z}
use Rattle.std.proofs.lemmas.List.{length-map}
use Rattle.tw_network.specs.Contents.{network_of}
use Rattle.tw_rounds.specs.Dealing.{dealt}
use Rattle.tw_theory.specs.Network.{copies, routed}
use Rattle.tw_rounds.proofs.Dealt.{length-dealt, place_taken, places_all, item_taken, items_all, place_leads}
use Rattle.tw_rounds.proofs.bags.route.Goals as goal

pub deliver-requires-clause-to : goal.deliver-requires-clause-to
deliver-requires-clause-to g c =
    let net = network_of g.M.Atomic.meaning c.args.network.now in
    let lead = place_leads net c.args.source _ c.loop-to.to-index c.routes-to-items.result.now (0, 0) c.facts.ensures.network c.routes-to-items.ensures.routes c.loop-to-test.true in
    let count = length-map c.args.network.now.models g.M.Atomic.meaning in
    let inner = c.loop-to.invariant.size in
    let outer = c.loop-port.invariant.size in
    omega (arith, lead, count, c.requires.size, inner, outer)

pub loop-to-preserved : goal.loop-to-preserved
loop-to-preserved g c =
    let s = c.args.at in
    let v = (slice_index_or c.as_slice-port-items.result.now c.loop-port.port-index (0, pos 0)).1 in
    let place = slice_index_or c.routes-to-items.result.now c.loop-to.to-index (0, 0) in
    let fits : SFits w64 v = search rules in
    let value = to_z-of_z w64 v fits in
    let bags = c.loop-to.arrivals.bags.items in
    let rest = copies s v (drop (c.loop-to.to-index + 1) c.routes-to-items.result.now) in
    let dealt_to = c.in_ok-deliver.ensures.bags in
    record {
      bags =
          ap (λ bags. dealt 0 bags rest) (dealt_to ∙ (λ i. dealt 0 bags (record { stamp = s; port = place.1; value = value i; to = place.0 } ∷ [])))
          ∙ place_taken s v c.loop-to.to-index c.routes-to-items.result.now bags _ (0, 0) c.loop-to-test.true c.loop-to.invariant.bags;
      size = ap length dealt_to ∙ length-dealt 0 bags _ ∙ c.loop-to.invariant.size;
      awake = c.in_ok-deliver.ensures.awake;
    }

pub loop-port-preserved : goal.loop-port-preserved
loop-port-preserved g c =
    let net = network_of g.M.Atomic.meaning c.args.network.now in
    let item = slice_index_or c.as_slice-port-items.result.now c.loop-port.port-index (0, pos 0) in
    let after = places_all c.args.at item.1 c.loop-to.to-index c.routes-to-items.result.now c.loop-to.arrivals.bags.items _ c.loop-to-test.false c.loop-to.invariant.bags in
    record {
      bags = item_taken net c.args.source c.args.at c.loop-port.port-index c.as_slice-port-items.result.now c.loop-port.arrivals.bags.items c.loop-to.arrivals.bags.items _ (0, pos 0) c.loop-port-test.true
          (after ∙ ap (λ ps. dealt 0 c.loop-port.arrivals.bags.items (copies c.args.at item.1 ps)) c.routes-to-items.ensures.routes)
          c.loop-port.invariant.bags;
      size = c.loop-to.invariant.size ∙ c.loop-port.invariant.size;
      awake = c.loop-to.invariant.awake;
    }

pub returns-clause-bags : goal.returns-clause-bags
returns-clause-bags g c =
    let net = network_of g.M.Atomic.meaning c.args.network.now in
    let bags = c.args.arrivals.now.bags.items in
    items_all net c.args.source c.args.at c.loop-port.port-index c.as_slice-port-items.result.now c.loop-port.arrivals.bags.items _ c.loop-port-test.false c.loop-port.invariant.bags
    ∙ ap (λ is. dealt 0 bags (routed net c.args.source c.args.at is)) c.as_slice-port-items.ensures
