-- One component more; and all of them, so that no limit is met.
use Rattle.std.proofs.Common.{◌≡◌, ◌+◌, ◌<◌, ℕ, refl, List, length, sym, subst, arith, add-one, take, slice_get, Some}
use Rattle.std.proofs.lemmas.List.{take_all}
use Rattle.std.proofs.lemmas.Option.{get_or_from_slice_get}
use Rattle.std.specs.List.{AllByRecursion as Each}
use Rattle.tw_network.specs.Contents.{network_of}
use Rattle.tw_rounds.specs.InTime.{EndsInTime, IsInTime}
use Rattle.tw_rounds.proofs.NoLimit.{no_limit_met}
use Rattle.tw_rounds.proofs.Places.{each_at, each_more, each_mapped}
use Rattle.tw_rounds.proofs.beforehand.meets_no_limit.Goals as goal

-- an element that a list has at a place
module _ {X : Type 0} (P : X → Type 0) (xs : List X) (i : ℕ) (x : X) (at : slice_get xs i ≡ Some x) where
  one_more : i < length xs → Each P (take i xs) → P x → Each P (take (i + 1) xs)
  one_more l all p = subst (λ k. Each P (take k xs)) (sym (add-one i)) (each_more P xs i x l all (subst P (sym (get_or_from_slice_get xs i x x at)) p))

  one_of : i < length xs → Each P xs → P x
  one_of l all = subst P (get_or_from_slice_get xs i x x at) (each_at P xs i x l all)

pub loop-component-preserved : goal.loop-component-preserved
loop-component-preserved g c =
    let models = c.args.network.now.models in
    let i = c.loop-component.component in
    let n = c.len-component-end.ensures in
    let l = c.loop-component-test.true in
    let in_time = c.if-not-ends_in_time.false in (
      one_more (λ m. IsInTime c.args.until (g.M.Atomic.longest m)) models i c.model.result.now c.model.ensures (omega (arith, l, n)) c.loop-component.invariant.0 (c.ends_in_time.ensures.told.0 in_time),
      one_more (λ m. EndsInTime c.args.until (g.M.Atomic.meaning m)) models i c.model.result.now c.model.ensures (omega (arith, l, n)) c.loop-component.invariant.1 (c.ends_in_time.ensures.waits in_time),
    )

pub returns-clause-told : goal.returns-clause-told
returns-clause-told g c =
    let models = c.args.network.now.models in
    let n = c.len-component-end.ensures in
    let l = c.loop-component-test.false in (
      λ told. subst (Each (λ m. IsInTime c.args.until (g.M.Atomic.longest m))) (take_all c.loop-component.component models (omega (arith, l, n))) c.loop-component.invariant.0,
      λ all. refl,
    )

pub returns-clause-no_fault : goal.returns-clause-no_fault
returns-clause-no_fault g c told =
    let models = c.args.network.now.models in
    let n = c.len-component-end.ensures in
    let l = c.loop-component-test.false in
    let all = subst (Each (λ m. EndsInTime c.args.until (g.M.Atomic.meaning m))) (take_all c.loop-component.component models (omega (arith, l, n))) c.loop-component.invariant.1 in
    no_limit_met (network_of g.M.Atomic.meaning c.args.network.now) c.args.until c.requires c.facts.ensures.network.inputs
    (each_mapped (EndsInTime c.args.until) g.M.Atomic.meaning models all)
