-- Each component stands at its start, and the inputs are all to come.
use Rattle.std.proofs.Common.{◌≡◌, ◌≤◌, ◌<◌, ◌∙◌, ap, sym, subst, [], ⊎_elim, arith, length, length-append, None, slice_get}
use Rattle.std.specs.List.{AllByRecursion as Each}
use Rattle.std.proofs.lemmas.List.{length-map}
use Rattle.std.proofs.lemmas.Option.{same_Some, get_or_from_slice_get}
use Rattle.tw_network.specs.Contents.{StartsInTime, network_of}
use Rattle.tw_rounds.specs.Invariant.{IsBetween}
use Rattle.tw_theory.specs.Transitions.{Moment, start_moment}
use Rattle.tw_theory.specs.Network.{Fits}
use Rattle.tw_theory.specs.Bundles.{Ascending}
use Rattle.tw_theory.proofs.Elements.{each-sorted, each_weaker}
use Rattle.tw_theory.proofs.MessageOrder.{sorted_ascending}
use Rattle.tw_vtime.specs.Stamps.{never}
use Rattle.tw_rounds.proofs.Between.{starts_between}
use Rattle.tw_rounds.proofs.Starts.{mapped_more, mapped_all, map_twice, get_pushed, to_come}
use Rattle.tw_rounds.proofs.rounds.start.Goals as goal

pub start_moment-requires : goal.start_moment-requires
start_moment-requires g c =
    let models = c.args.network.now.models in
    let i = c.loop-component.component in
    let model = c.model.result.now in
    let test = c.loop-component-test.true in
    let count = c.len-component-end.ensures in
    let here = get_or_from_slice_get models i model model c.model.ensures in
    subst (λ m. StartsInTime (g.M.Atomic.meaning m)) here (c.facts.ensures.starts i model (omega (arith, test, count)))

pub loop-component-preserved : goal.loop-component-preserved
loop-component-preserved g c =
    let f : g.row.M.Denot → Moment g.row.M-State.Denot = λ m. start_moment (g.M.Atomic.meaning m) in
    let models = c.args.network.now.models in
    let i = c.loop-component.component in
    let inv = c.loop-component.invariant in
    let size = inv.size in
    let made = c.loop-component.moments.items in
    let new = c.in_ok-start_moment.field-0 in
    let model = c.model.result.now in
    let test = c.loop-component-test.true in
    let count = c.len-component-end.ensures in
    let l : i < length models = omega (arith, test, count) in
    let pushed = c.in_ok-push.ensures.items in
    let here = get_or_from_slice_get models i model model c.model.ensures in
    record {
      moments = pushed ∙ mapped_more f models i model made new inv.moments l (c.in_ok-start_moment.ensures.moment ∙ ap f (sym here));
      size = ap length pushed ∙ simp length-append (omega (arith, size));
      standing = λ d m now found e. ⊎_elim
          (λ h.
          let n = h.0 in
          let at : d ≡ i = omega (arith, n, size) in
          let same : model ≡ m = same_Some model m (sym c.model.ensures ∙ (λ k. slice_get models (sym at k)) ∙ found) in
          subst (λ x. IsBetween (g.M.Atomic.valid x) (g.M.Atomic.meaning x) 0 now) same (subst (IsBetween (g.M.Atomic.valid model) (g.M.Atomic.meaning model) 0) h.1 (starts_between (g.M.Atomic.valid model) (g.M.Atomic.meaning model) new c.in_ok-start_moment.ensures.moment c.in_ok-start_moment.ensures.standing)))
          (λ h. inv.standing d m now found h)
          (get_pushed made new now d (ap (λ l. slice_get l d) (sym pushed) ∙ e));
    }

pub returns : goal.returns
returns g c =
    let net = network_of g.M.Atomic.meaning c.args.network.now in
    let models = c.args.network.now.models in
    let inv = c.loop-component.invariant in
    let test = c.loop-component-test.false in
    let count = c.len-component-end.ensures in
    let end = c.loop-component.auto.component-end in
    let size = inv.size in
    let all : length models ≤ c.loop-component.component = omega (arith, test, count) in
    let moments = mapped_all (λ m. start_moment (g.M.Atomic.meaning m)) models c.loop-component.component c.loop-component.moments.items inv.moments all ∙ map_twice g.M.Atomic.meaning start_moment models in
    let inputs = c.in_ok-start_inputs.ensures.inputs in
    record {
      run = λ k. record { at = record { moments = moments k; inputs = inputs k }; records = []; fault = None };
      underway = record {
        even = omega arith;
        moments = record { size = omega (arith, size, test, count, end); each = λ d model now found e. inv.standing d model now found e };
        inputs = to_come net (length models) c.in_ok-start_inputs.field-0.items (length-map models g.M.Atomic.meaning) (subst (Each (Fits net)) (sym inputs) (each-sorted (Fits net) net.inputs c.facts.ensures.network.inputs)) c.in_ok-start_inputs.ensures.carried;
        order = subst Ascending (sym inputs) (sorted_ascending net.inputs (each_weaker (Fits net) (λ m. m.stamp < never) (λ m h. h.stamp) net.inputs c.facts.ensures.network.inputs));
      };
    }
