use Rattle.std.proofs.Common.{◌≡◌, List, [], ◌∷◌, Some, None, refl, ap, ◌∙◌}
use Rattle.std.specs.List.{slice_get}
use Rattle.tw_chain.specs.declared.run.Run.TheInside.{Inside}
use Rattle.tw_chain.specs.Kept.{Going, shown_all}
use Rattle.tw_step.specs.Steps.{before_of}
use Rattle.tw_step.specs.declared.step.Step.{Step as KeptStep}
use Rattle.tw_theory.specs.Contents.{before_all}
use Rattle.tw_theory.specs.Transitions.{Moment}
use Rattle.tw_chain.proofs.run.Run.start_times.Given.{Over}
use Rattle.tw_chain.proofs.run.Run.start_times.Goals.{In-Some, In-None}
use Rattle.tw_chain.proofs.run.Run.start_times.Goals as goal

-- the first step was made at the start
made_first : {S R : Type 0} (es : List (KeptStep S R)) (e : KeptStep S R) (now : Moment S) → Some e ≡ slice_get es 0 → before_of e ≡ before_all (shown_all es) now
made_first [] e now h = cc
made_first (x ∷ es) e now h =
    let same : e ≡ x = cc in
    ap before_of same

-- with no step it is still the start
none_made : {S R : Type 0} (es : List (KeptStep S R)) (now : Moment S) → None ≡ slice_get es 0 → now ≡ before_all (shown_all es) now
none_made [] now h = refl
none_made (x ∷ es) now h = cc

first_is : (g : Over) (c : In-Some g) → before_of c.in-Some.step.now ≡ c.args.self.now.run.start.now
first_is g c =
    made_first c.deref.result.now c.in-Some.step.now c.self.inside.moment c.in-Some.ensures.value ∙ ap (λ l. before_all (shown_all l) c.self.inside.moment) c.deref.ensures.value
    ∙ ap (λ (x : Inside g.row.M.Denot g.row.M-State.Denot g.row.M-Residue.Denot). before_all (shown_all x.steps.items) c.self.inside.moment) c.self-inside.view_is
    ∙ ap (λ (x : Going g.row.M.Denot g.row.M-State.Denot). x.run.start.now) c.self.view_is

still : (g : Over) (c : In-None g) → c.self.inside.moment ≡ c.args.self.now.run.start.now
still g c =
    none_made c.deref.result.now c.self.inside.moment c.in-None.ensures.value ∙ ap (λ l. before_all (shown_all l) c.self.inside.moment) c.deref.ensures.value
    ∙ ap (λ (x : Inside g.row.M.Denot g.row.M-State.Denot g.row.M-Residue.Denot). before_all (shown_all x.steps.items) c.self.inside.moment) c.self-inside.view_is
    ∙ ap (λ (x : Going g.row.M.Denot g.row.M-State.Denot). x.run.start.now) c.self.view_is

pub returns-in-Some-clause-last : goal.returns-in-Some-clause-last
returns-in-Some-clause-last g c = ap (λ (x : Moment g.row.M-State.Denot). x.last) (first_is g (goal.at.returns-in-Some-clause-last g c).In-Some)

pub returns-in-Some-clause-due : goal.returns-in-Some-clause-due
returns-in-Some-clause-due g c = ap (λ (x : Moment g.row.M-State.Denot). x.due) (first_is g (goal.at.returns-in-Some-clause-due g c).In-Some)

pub returns-in-None-clause-last : goal.returns-in-None-clause-last
returns-in-None-clause-last g c = ap (λ (x : Inside g.row.M.Denot g.row.M-State.Denot g.row.M-Residue.Denot). x.moment.last) c.self-inside.view_is ∙ ap (λ (x : Moment g.row.M-State.Denot). x.last) (still g (goal.at.returns-in-None-clause-last g c).In-None)

pub returns-in-None-clause-due : goal.returns-in-None-clause-due
returns-in-None-clause-due g c = ap (λ (x : Inside g.row.M.Denot g.row.M-State.Denot g.row.M-Residue.Denot). x.moment.due) c.self-inside.view_is ∙ ap (λ (x : Moment g.row.M-State.Denot). x.due) (still g (goal.at.returns-in-None-clause-due g c).In-None)
