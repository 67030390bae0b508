use Rattle.std.proofs.Common.{◌≡◌, ◌<◌, ◌≤◌, [], length, ap, sym, subst, ◌∙◌, rules, arith, append-nil}
use Rattle.std.specs.Arc.{arc_value}
use Rattle.std.specs.Prelude.{slice_get}
use Rattle.std.proofs.lemmas.List.{nil_from_length}
use Rattle.std.proofs.lemmas.Option.{slice_get_within}
use Rattle.tw_theory.specs.Transitions.{Moment}
use Rattle.tw_lists.specs.Lists.{cancelled}
use Rattle.tw_process.specs.Process.{with_last_undone}
use Rattle.tw_process.specs.History.{IsKeptBy, seen, shown}
use Rattle.tw_process.proofs.Histories.{TakenBack, taken_back, shown_some, kept_at, nothing_undone}
use Rattle.tw_process.proofs.process.Process.undo_last.Given.{Over}
use Rattle.tw_process.proofs.process.Process.undo_last.Goals.{After-model-model}
use Rattle.tw_process.proofs.process.Process.undo_last.Goals as goal

back : (g : Over) (c : After-model-model g) → TakenBack (g.M.Atomic.valid c.model-model.result.now) (g.M.Atomic.meaning c.model-model.result.now) (g.M.Atomic.undone c.model-model.result.now) (arc_value c.self.inside.network) c.self.inside.component c.self.inside.moment c.self.inside.line c.self.inside.cancel c.self.inside.floor c.pop_back.new.self.items c.in-Some.entry c.self.inside.lists
back g c =
    let inside = c.self.inside in
    let network = arc_value inside.network in
    let now : Moment g.row.M-State.Denot = inside.moment in
    let model = c.model-model.result.now in
    let there = ap (λ n. slice_get n.models inside.component) (sym c.deref-network.ensures) ∙ c.model-model.ensures in
    let kept = kept_at g.M.Atomic.valid g.M.Atomic.meaning g.M.Atomic.undone network inside.component now inside.floor inside.history.items inside.lists c.self.invariant model there in
    taken_back (g.M.Atomic.valid model) (g.M.Atomic.meaning model) (g.M.Atomic.undone model) network inside.component now inside.line inside.cancel inside.floor c.pop_back.new.self.items c.in-Some.entry inside.lists
    (subst (λ h. IsKeptBy (g.M.Atomic.valid model) (g.M.Atomic.meaning model) (g.M.Atomic.undone model) c.self.inside.component now inside.floor h inside.lists) c.in-Some.ensures.items kept)

pub take_back-requires : goal.take_back-requires
take_back-requires g c = (back g (goal.at.take_back-requires g c).After-model-model).link

pub restore-requires-clause-n : goal.restore-requires-clause-n
restore-requires-clause-n g c = (back g (goal.at.restore-requires-clause-n g c).After-model-model).consumed_in

pub restore-requires-clause-sorted : goal.restore-requires-clause-sorted
restore-requires-clause-sorted g c = (back g (goal.at.restore-requires-clause-sorted g c).After-model-model).sorted

pub cancel-requires : goal.cancel-requires
cancel-requires g c = subst (λ l. c.in-Some.entry.sent ≤ length l.sent) (sym c.restore.ensures) (back g (goal.at.cancel-requires g c).After-model-model).sent_in

pub invariant_of-self-2 : goal.invariant_of-self-2
invariant_of-self-2 g c =
    let at = (goal.at.invariant_of-self-2 g c).After-model-model in
    let inside = c.self.inside in
    let model = c.model-model.result.now in
    let there = ap (λ n. slice_get n.models inside.component) (sym c.deref-network.ensures) ∙ c.model-model.ensures in
    let lists = c.cancel.ensures ∙ ap (cancelled inside.cancel c.in-Some.entry.sent) c.restore.ensures in
    record {
      model = model;
      there = there;
      by = subst (λ (x : Type 0). x) (λ i. IsKeptBy (g.M.Atomic.valid model) (g.M.Atomic.meaning model) (g.M.Atomic.undone model) inside.component (sym c.take_back.ensures i) inside.floor c.pop_back.new.self.items (sym lists i)) (back g at).kept;
    }

pub returns-clause-undone : goal.returns-clause-undone
returns-clause-undone g c =
    let at = (goal.at.returns-clause-undone g c).After-model-model in
    let inside = c.self.inside in
    let network = arc_value inside.network in
    let lists = c.cancel.ensures ∙ ap (cancelled inside.cancel c.in-Some.entry.sent) c.restore.ensures in
    (λ i. seen network inside.component (c.take_back.ensures i) inside.line inside.cancel inside.floor c.pop_back.new.self.items (lists i))
    ∙ (back g at).seen_is
    ∙ ap (λ h. with_last_undone (seen network inside.component inside.moment inside.line inside.cancel inside.floor h inside.lists)) (sym c.in-Some.ensures.items)
    ∙ ap with_last_undone c.self.view_is

pub model-model-requires : goal.model-model-requires
model-model-requires g c = subst (λ n. c.self.inside.component < length n.models) (sym c.deref-network.ensures) (slice_get_within (arc_value c.self.inside.network).models c.self.inside.component c.self.invariant.model c.self.invariant.there)

pub returns-in_default-clause-undone : goal.returns-in_default-clause-undone
returns-in_default-clause-undone g c =
    let inside = c.self.inside in
    let network = arc_value inside.network in
    let now = c.args.self.now in
    let none : c.pop_back.new.self.items ≡ [] = nil_from_length c.pop_back.new.self.items (omega (arith, c.in_default.ensures.cases.1, c.pop_back.new.self.ok.0)) in
    let same : c.pop_back.new.self.items ≡ inside.history.items = sym (c.in_default.ensures.items ∙ append-nil c.pop_back.new.self.items) in
    let history : now.process.history ≡ [] = sym (ap (λ p. p.process.history) c.self.view_is) ∙ ap (λ h. shown h inside.lists.consumed inside.lists.sent) (sym same ∙ none) in
    (λ i. seen network inside.component inside.moment inside.line inside.cancel inside.floor (same i) inside.lists)
    ∙ c.self.view_is
    ∙ sym (ap (λ p. record now { process = p }) (nothing_undone now.process history))

pub returns-clause-some : goal.returns-clause-some
returns-clause-some g c = (
  λ _ none. shown_some c.pop_back.new.self.items c.in-Some.entry c.self.inside.lists.consumed c.self.inside.lists.sent
      (ap (λ h. shown h c.self.inside.lists.consumed c.self.inside.lists.sent) (sym c.in-Some.ensures.items) ∙ ap (λ p. p.process.history) c.self.view_is ∙ none),
  λ _. search rules,
)
