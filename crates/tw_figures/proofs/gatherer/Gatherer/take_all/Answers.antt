use Rattle.std.proofs.Common.{◌∙◌, ◌≤◌, ◌++◌, take, length, refl, sym, subst, append-nil}
use Rattle.std.proofs.lemmas.List.{take_all}
use Rattle.tw_figures.specs.Gathered.{IsGathered}
use Rattle.tw_figures.proofs.Gathering.{one_taken, steady_next}
use Rattle.tw_figures.proofs.gatherer.Gatherer.take_all.Goals as goal

pub loop-step-init : goal.loop-step-init
loop-step-init c = record {
  gathered = λ from starts records steady h. subst (λ l. IsGathered from starts l c.args.self.now) (sym (append-nil records)) h;
  followed = refl;
}

pub take-requires : goal.take-requires
take-requires c =
    let (records, steady) = c.requires in
    (steady_next records c.args.steps.now c.loop-step.step-index c.step-item.result steady c.loop-step-test.true c.step-item.is).1

pub loop-step-preserved : goal.loop-step-preserved
loop-step-preserved c = record {
  gathered = λ from starts records steady h.
      let next = steady_next records c.args.steps.now c.loop-step.step-index c.step-item.result steady c.loop-step-test.true c.step-item.is in
      subst (λ l. IsGathered from starts l c.take.new.self) (one_taken records c.args.steps.now c.loop-step.step-index c.step-item.result c.loop-step-test.true c.step-item.is)
      (c.in_ok-take.ensures.gathered from starts (records ++ take c.loop-step.step-index c.args.steps.now) next.0 (c.loop-step.invariant.gathered from starts records steady h));
  followed = c.take.ensures.followed ∙ c.loop-step.invariant.followed;
}

pub returns-clause-gathered : goal.returns-clause-gathered
returns-clause-gathered c from starts records steady h =
    let over : length c.args.steps.now ≤ c.loop-step.step-index = c.loop-step-test.false in
    subst (λ l. IsGathered from starts (records ++ l) c.loop-step.self) (take_all c.loop-step.step-index c.args.steps.now over)
    (c.loop-step.invariant.gathered from starts records steady h)
