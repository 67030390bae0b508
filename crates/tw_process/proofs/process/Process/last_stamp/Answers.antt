use Rattle.std.proofs.Common.{◌≡◌, ◌+◌, ap, sym, subst, ◌∙◌, arith, Some, refl}
use Rattle.std.specs.Prelude.{slice_index_or}
use Rattle.tw_theory.specs.Soundness.{AllBefore}
use Rattle.tw_process.specs.History.{shown}
use Rattle.tw_process.specs.Process.{last_stamp_of}
use Rattle.tw_process.proofs.Histories.{last_shown, no_steps, stood_before}
use Rattle.tw_process.proofs.process.Process.last_stamp.Given.{Over}
use Rattle.tw_process.proofs.process.Process.last_stamp.Goals.{In-Some}
use Rattle.tw_process.proofs.process.Process.last_stamp.Goals as goal

is_last : (g : Over) (c : In-Some g) → last_stamp_of (shown c.self.inside.history.items c.self.inside.lists.consumed c.self.inside.lists.sent) ≡ Some c.in-Some.entry.now.step.done.stamp
is_last g c =
    let inside = c.self.inside in
    let len = inside.history.ok.0 in
    last_shown inside.history.items c.in-Some.entry.now inside.lists.consumed inside.lists.sent (omega (arith, c.in-Some.ensures.variant.0 refl, len))
    (c.in-Some.ensures.lookup ∙ ap (λ n. slice_index_or inside.history.items n c.in-Some.entry.now) (omega (arith, len)))

pub returns-in-Some-clause-value : goal.returns-in-Some-clause-value
returns-in-Some-clause-value g c = sym (is_last g (goal.at.returns-in-Some-clause-value g c).In-Some) ∙ ap (λ p. last_stamp_of p.process.history) c.self.view_is

pub returns-in-Some-clause-latest : goal.returns-in-Some-clause-latest
returns-in-Some-clause-latest g c =
    let inside = c.self.inside in
    let kept = c.self.invariant.by in
    subst (λ p. AllBefore (c.in-Some.entry.now.step.done.stamp + 1) p.process.history) c.self.view_is
    (stood_before (g.M.Atomic.valid c.self.invariant.model) (g.M.Atomic.meaning c.self.invariant.model) inside.floor c.in-Some.entry.now.step.done.stamp (shown inside.history.items inside.lists.consumed inside.lists.sent) kept.stood (is_last g (goal.at.returns-in-Some-clause-latest g c).In-Some))

pub returns-in-None-clause-value : goal.returns-in-None-clause-value
returns-in-None-clause-value g c =
    let inside = c.self.inside in
    ap (λ h. last_stamp_of (shown h inside.lists.consumed inside.lists.sent)) (sym (no_steps inside.history.items _ inside.history.ok.0 c.in-None.ensures.variant.1)) ∙ ap (λ p. last_stamp_of p.process.history) c.self.view_is
