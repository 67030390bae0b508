-- Component by component: an imminent one gives its output, any other none.
use Rattle.std.proofs.Common.{◌≡◌, ◌+◌, ◌<◌, ◌≤◌, ◌==◌, ◌∙◌, ◌++◌, [], ◌∷◌, true, ap, sym, refl, subst, arith, length, drop, slice_index, eq-eqb}
use Rattle.std.specs.List.{All}
use Rattle.std.proofs.lemmas.Option.{slice_get_read, slice_get_within, same_Some}
use Rattle.tw_msgs.specs.Bags.{sorted_bag}
use Rattle.tw_msgs.specs.declared.record_kind.RecordKind.TheVariants.{Out}
use Rattle.tw_network.specs.Contents.{network_of}
use Rattle.tw_rounds.specs.Dealing.{dealt}
use Rattle.tw_rounds.specs.Receiving.{Receives}
use Rattle.tw_theory.specs.Network.{routed}
use Rattle.tw_theory.specs.Simulator.{outputs, all_sent}
use Rattle.tw_rounds.proofs.Dealt.{length-dealt}
use Rattle.tw_rounds.proofs.Received.{received_more}
use Rattle.tw_rounds.proofs.RoundOutputs.{outs_passed, output_recorded, output_sent, records_all, sent_all}
use Rattle.tw_rounds.proofs.Sweeping.{onward, onward_more, onward_within, onward_next, none_between, none_after}
use Rattle.tw_rounds.proofs.outputs.make_outputs.Goals as goal
use Rattle.tw_rounds.proofs.outputs.make_outputs.Goals.{After-loop-component}

pub bounds-moments-component : goal.bounds-moments-component
bounds-moments-component g c =
    let at = c.requires.each c.loop-component.component-index 0 c.loop-component-test.true in
    slice_get_within c.args.moments.now (slice_index c.args.imminent.now c.loop-component.component-index) at.0 at.1

pub offset_bounds-moments-component : goal.offset_bounds-moments-component
offset_bounds-moments-component g c =
    let at = c.requires.each c.loop-component.component-index 0 c.loop-component-test.true in
    let l = slice_get_within c.args.moments.now (slice_index c.args.imminent.now c.loop-component.component-index) at.0 at.1 in
    omega (arith, l)

pub model-model-requires : goal.model-model-requires
model-model-requires g c =
    let at = c.requires.each c.loop-component.component-index 0 c.loop-component-test.true in
    let l = slice_get_within c.args.moments.now (slice_index c.args.imminent.now c.loop-component.component-index) at.0 at.1 in
    let size = c.requires.moments.size in
    omega (arith, l, size)

pub route-requires-clause-source : goal.route-requires-clause-source
route-requires-clause-source g c =
    let at = c.requires.each c.loop-component.component-index 0 c.loop-component-test.true in
    let l = slice_get_within c.args.moments.now (slice_index c.args.imminent.now c.loop-component.component-index) at.0 at.1 in
    let size = c.requires.moments.size in
    omega (arith, l, size)

pub fill_output-requires : goal.fill_output-requires
fill_output-requires g c =
    let i = slice_index c.args.imminent.now c.loop-component.component-index in
    let at = c.requires.each c.loop-component.component-index 0 c.loop-component-test.true in
    let l = slice_get_within c.args.moments.now i at.0 at.1 in
    let now = c.index-moments-component.result in
    let standing = c.requires.moments.each i c.model-model.result.now now c.model-model.ensures (slice_get_read c.args.moments.now (length c.args.moments.now) i now refl l c.index-moments-component.is) in
    subst (g.M.Atomic.valid c.model-model.result.now) (sym (ap (λ m. m.state) c.now.view_is)) standing.stands.valid

pub loop-component-init : goal.loop-component-init
loop-component-init g c = record { told = []; received = refl; records = refl; bags = refl; size = refl; awake = c.requires.awake }

pub loop-component-preserved : goal.loop-component-preserved
loop-component-preserved g c =
    let net = network_of g.M.Atomic.meaning c.args.round.now.network.now in
    let t = c.args.round.now.time in
    let imminent = c.args.imminent.now in
    let k = c.loop-component.component-index in
    let m = c.loop-component-test.true in
    let i = slice_index imminent k in
    let moments = c.args.moments.now in
    let at = c.requires.each k 0 m in
    let l : i < length moments = slice_get_within moments i at.0 at.1 in
    let now = c.index-moments-component.result in
    let is = c.index-moments-component.is in
    let found = slice_get_read moments (length moments) i now refl l is in
    let due : (now.due == t) ≡ true = eq-eqb now.due t (ap (λ x. x.due) (same_Some now at.0 (sym found ∙ at.1)) ∙ at.2) in
    let from = onward imminent k in
    let jump : outputs net t from (drop from moments) ≡ outputs net t i (drop i moments) =
    outs_passed net t from i moments (onward_next imminent c.requires.rising k m) (omega (arith, l))
    (λ d low high h. none_between imminent c.requires.rising k d m low high (c.requires.all d h)) in
    let next : i + 1 ≡ onward imminent (k + 1) = sym (onward_more imminent k) in
    let model = c.model-model.result.now in
    let bag = c.fill_output.new.bag in
    let given = c.in_ok-fill_output.ensures ∙ ap (λ x. sorted_bag ((g.M.Atomic.meaning model).out x.state)) c.now.view_is in
    let bags = c.loop-component.arrivals.bags.items in
    let inv = c.loop-component.invariant in
    let routed_to = c.in_ok-route.ensures.bags in
    record {
      told = inv.told ++ record { component = i; stamp = t; kind = Out; bag = bag; words = [] } ∷ [];
      received = received_more g.R.Receiver.takes _ inv.told c.loop-component.receiver c.take.new.self _ inv.received c.in_ok-take.ensures;
      records =
          ap (λ n. (inv.told ++ record { component = i; stamp = t; kind = Out; bag = bag; words = [] } ∷ []) ++ outputs net t n (drop n moments)) (sym next)
          ∙ output_recorded g.M.Atomic.meaning c.args.round.now.network.now t i moments now model bag l is due c.model-model.ensures given
          inv.told _ [] refl (ap (λ rs. inv.told ++ rs) (sym jump) ∙ inv.records);
      bags =
          ap (λ n. dealt 0 c.route.new.arrivals.bags.items (all_sent net (outputs net t n (drop n moments)))) (sym next)
          ∙ output_sent g.M.Atomic.meaning c.args.round.now.network.now t i moments now model bag l is due c.model-model.ensures given
          bags c.route.new.arrivals.bags.items _ c.requires.even (routed_to ∙ ap (λ s. dealt 0 bags (routed net i s bag)) c.transition-at.ensures)
          (ap (λ rs. dealt 0 bags (all_sent net rs)) (sym jump) ∙ inv.bags);
      size = ap length routed_to ∙ length-dealt 0 bags _ ∙ inv.size;
      awake = c.in_ok-route.ensures.awake;
    }

-- no component is imminent after the last
passed : (g : _) (c : After-loop-component g) → outputs (network_of g.M.Atomic.meaning c.args.round.now.network.now) c.args.round.now.time (onward c.args.imminent.now c.loop-component.component-index) (drop (onward c.args.imminent.now c.loop-component.component-index) c.args.moments.now)
    ≡ outputs (network_of g.M.Atomic.meaning c.args.round.now.network.now) c.args.round.now.time (length c.args.moments.now) (drop (length c.args.moments.now) c.args.moments.now)
passed g c =
    let imminent = c.args.imminent.now in
    let moments = c.args.moments.now in
    let k = c.loop-component.component-index in
    let end : k ≤ length imminent = c.loop-component.auto.component-index-end in
    let within : All (λ d. d < length moments) imminent = λ j d l. let at = c.requires.each j d l in slice_get_within moments _ at.0 at.1 in
    outs_passed (network_of g.M.Atomic.meaning c.args.round.now.network.now) c.args.round.now.time (onward imminent k) (length moments) moments
    (onward_within imminent (length moments) k within end) (omega arith)
    (λ d low high h. none_after imminent c.requires.rising k d c.loop-component-test.false end low (c.requires.all d h))

pub returns-clause-received : goal.returns-clause-received
returns-clause-received g c =
    let moments = c.args.moments.now in
    let inv = c.loop-component.invariant in
    subst (λ rs. Receives g.R.Receiver.takes c.args.receiver.now rs c.loop-component.receiver)
    (records_all (network_of g.M.Atomic.meaning c.args.round.now.network.now) c.args.round.now.time (length moments) moments inv.told _ (omega arith) (ap (λ rs. inv.told ++ rs) (sym (passed g c)) ∙ inv.records))
    inv.received

pub returns-clause-bags : goal.returns-clause-bags
returns-clause-bags g c =
    let net = network_of g.M.Atomic.meaning c.args.round.now.network.now in
    let moments = c.args.moments.now in
    let bags = c.loop-component.arrivals.bags.items in
    sent_all net c.args.round.now.time (length moments) moments bags _ (omega arith) (ap (λ rs. dealt 0 bags (all_sent net rs)) (sym (passed g c)) ∙ c.loop-component.invariant.bags)
