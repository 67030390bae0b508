-- Inputs are given as long as they are of the stamp.
use Rattle.std.proofs.Common.{◌≡◌, ◌+◌, ◌<◌, ◌≤◌, ◌==◌, ◌∷◌, [], true, ap, sym, ◌∙◌, subst, arith, length, drop, true≢false, eq-eqb}
use Rattle.std.specs.List.{AllByRecursion as Each}
use Rattle.std.specs.Prelude.{◌≢◌}
use Rattle.std.proofs.lemmas.List.{drop_more, get_or_read}
use Rattle.tw_rounds.specs.Dealing.{dealt}
use Rattle.tw_theory.specs.Bundles.{Ascending, first_stamp}
use Rattle.tw_theory.specs.Simulator.{with_stamp}
use Rattle.tw_rounds.proofs.Dealt.{dealt-none, length-dealt, input_taken, inputs_all}
use Rattle.tw_rounds.proofs.InputsGiven.{past_taken, later_none, later_all}
use Rattle.tw_rounds.proofs.bags.Arrivals.deliver_inputs.Goals as goal
use Rattle.tw_rounds.proofs.bags.Arrivals.deliver_inputs.Goals.{After-index-inputs-next-in-loop-next, Else-eq}

-- the inputs from here on
split : (c : After-index-inputs-next-in-loop-next) → drop c.loop-next.next c.args.inputs.now ≡ c.index-inputs-next-in-loop-next.result ∷ drop (c.loop-next.next + 1) c.args.inputs.now
split c =
    let m = c.index-inputs-next-in-loop-next.result in
    drop_more c.args.inputs.now c.loop-next.next m c.loop-next-test.true ∙ ap (λ x. x ∷ drop (c.loop-next.next + 1) c.args.inputs.now) (sym c.index-inputs-next-in-loop-next.is)

pub deliver-requires-clause-to : goal.deliver-requires-clause-to
deliver-requires-clause-to c =
    let fits = (subst (Each (λ m. m.to < length c.args.self.now.bags.items)) (split c) c.loop-next.invariant.to).0 in
    let size = c.loop-next.invariant.size in
    omega (arith, fits, size)

pub loop-next-preserved : goal.loop-next-preserved
loop-next-preserved c =
    let inputs = c.args.inputs.now in
    let i = c.loop-next.next in
    let l = c.loop-next-test.true in
    let s = c.args.at in
    let inv = c.loop-next.invariant in
    let m = c.index-inputs-next-in-loop-next.result in
    let is = c.index-inputs-next-in-loop-next.is in
    let r = c.index-inputs-next.result in
    let e : true ≡ (m.stamp == s) = c.if-eq.ensures ∙ ap (λ x. x.stamp == s) (sym (get_or_read inputs i m l is r)) in
    let rest = drop (i + 1) inputs in
    let parts = split (goal.at.loop-next-preserved c).After-index-inputs-next-in-loop-next in
    record {
      bags = ap (λ b. dealt 0 b (with_stamp s rest)) c.in_ok-deliver.ensures.bags ∙ input_taken s i inputs c.loop-next.self.bags.items _ m l is e inv.bags;
      past = past_taken s i inputs _ m l is e inv.past;
      awake = c.in_ok-deliver.ensures.awake;
      size = ap length c.in_ok-deliver.ensures.bags ∙ length-dealt 0 c.loop-next.self.bags.items (m ∷ []) ∙ inv.size;
      to = (subst (Each (λ x. x.to < length c.args.self.now.bags.items)) parts inv.to).1;
      order = (subst Ascending parts inv.order).1;
      from = (subst (Each (λ x. s ≤ x.stamp)) parts inv.from).1;
    }

-- the inputs from here on are of a later stamp
later : (c : Else-eq) → c.args.at < first_stamp (drop c.loop-next.next c.args.inputs.now)
later c =
    let inputs = c.args.inputs.now in
    let i = c.loop-next.next in
    let l = c.loop-next-test.true in
    let s = c.args.at in
    let m = c.index-inputs-next.result in
    let is = c.index-inputs-next.is in
    let parts = drop_more inputs i m l ∙ ap (λ x. x ∷ drop (i + 1) inputs) (sym is) in
    let le = (subst (Each (λ x. s ≤ x.stamp)) parts c.loop-next.invariant.from).0 in
    let ne : m.stamp ≢ s = λ e. true≢false (sym (eq-eqb m.stamp s e) ∙ ap (λ x. x.stamp == s) is ∙ sym c.if-eq.ensures) in
    subst (λ ms. s < first_stamp ms) (sym parts) (omega (arith, le, ne))

pub returns-else-eq-clause-bags : goal.returns-else-eq-clause-bags
returns-else-eq-clause-bags c =
    let bags = c.loop-next.self.bags.items in
    sym (dealt-none 0 bags)
    ∙ ap (dealt 0 bags) (sym (later_none c.args.at (drop c.loop-next.next c.args.inputs.now) c.loop-next.invariant.order (later c)))
    ∙ c.loop-next.invariant.bags

pub returns-else-eq-clause-given : goal.returns-else-eq-clause-given
returns-else-eq-clause-given c =
    sym (later_all c.args.at (drop c.loop-next.next c.args.inputs.now) c.loop-next.invariant.order (later c)) ∙ c.loop-next.invariant.past

pub returns-after-loop-next-clause-bags : goal.returns-after-loop-next-clause-bags
returns-after-loop-next-clause-bags c = inputs_all c.args.at c.loop-next.next c.args.inputs.now c.loop-next.self.bags.items _ c.loop-next-test.false c.loop-next.invariant.bags
