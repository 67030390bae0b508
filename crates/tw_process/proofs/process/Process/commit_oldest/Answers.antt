use Rattle.std.proofs.Common.{◌≡◌, ◌+◌, ◌∷◌, ap, sym, subst, ◌∙◌, arith, min}
use Rattle.std.specs.Arc.{arc_value}
use Rattle.tw_theory.specs.Transitions.{Moment}
use Rattle.tw_process.specs.History.{seen, shown, IsKeptBy}
use Rattle.tw_lists.specs.Lists.{with_room, forgotten}
use Rattle.tw_process.specs.Process.{oldest_of, with_spare, without_oldest}
use Rattle.tw_process.proofs.Commits.{consumed_in, sent_in, stamp_small, committed}
use Rattle.tw_process.proofs.Histories.{no_steps}
use Rattle.tw_process.proofs.process.Process.commit_oldest.Given.{Over}
use Rattle.tw_process.proofs.process.Process.commit_oldest.Goals.{In-Some}
use Rattle.tw_process.proofs.process.Process.commit_oldest.Goals as goal

split : (g : Over) (c : In-Some g) → c.self.inside.history.items ≡ c.in-Some.entry ∷ c.pop_front.new.self.items
split g c = c.in-Some.ensures.items

kept : (g : Over) (c : In-Some g) → IsKeptBy (g.M.Atomic.valid c.self.invariant.model) (g.M.Atomic.meaning c.self.invariant.model) (g.M.Atomic.undone c.self.invariant.model) c.self.inside.component c.self.inside.moment c.self.inside.floor (c.in-Some.entry ∷ c.pop_front.new.self.items) c.self.inside.lists
kept g c =
    let inside = c.self.inside in
    let now : Moment g.row.M-State.Denot = inside.moment in
    let x = c.self.invariant.model in
    subst (λ h. IsKeptBy (g.M.Atomic.valid x) (g.M.Atomic.meaning x) (g.M.Atomic.undone x) c.self.inside.component now inside.floor h inside.lists) (split g c) c.self.invariant.by

pub forget-requires-clause-consumed : goal.forget-requires-clause-consumed
forget-requires-clause-consumed g c =
    let at = (goal.at.forget-requires-clause-consumed g c).In-Some in
    let inside = c.self.inside in
    let x = c.self.invariant.model in
    consumed_in (g.M.Atomic.valid x) (g.M.Atomic.meaning x) (g.M.Atomic.undone x) inside.component inside.moment inside.floor c.in-Some.entry c.pop_front.new.self.items inside.lists (kept g at)

pub forget-requires-clause-sent : goal.forget-requires-clause-sent
forget-requires-clause-sent g c =
    let at = (goal.at.forget-requires-clause-sent g c).In-Some in
    let inside = c.self.inside in
    let x = c.self.invariant.model in
    sent_in (g.M.Atomic.valid x) (g.M.Atomic.meaning x) (g.M.Atomic.undone x) inside.component inside.moment inside.floor c.in-Some.entry c.pop_front.new.self.items inside.lists (kept g at)

pub overflow_add-self : goal.overflow_add-self
overflow_add-self g c =
    let at = (goal.at.overflow_add-self g c).In-Some in
    let inside = c.self.inside in
    let x = c.self.invariant.model in
    let small = stamp_small (g.M.Atomic.valid x) (g.M.Atomic.meaning x) (g.M.Atomic.undone x) inside.component inside.moment inside.floor c.in-Some.entry c.pop_front.new.self.items inside.lists (kept g at) in
    omega (arith, small, c.pack.ensures.number)

pub invariant_of-self-2 : goal.invariant_of-self-2
invariant_of-self-2 g c =
    let at = (goal.at.invariant_of-self-2 g c).In-Some in
    let inside = c.self.inside in
    let now : Moment g.row.M-State.Denot = inside.moment in
    let x = c.self.invariant.model in
    let n = c.forget.new.self in
    record {
      model = x;
      there = c.self.invariant.there;
      by = subst (λ l. IsKeptBy (g.M.Atomic.valid x) (g.M.Atomic.meaning x) (g.M.Atomic.undone x) c.self.inside.component now (c.pack.result + 1) c.pop_front.new.self.items l) (sym c.forget.ensures)
          (subst (λ t. IsKeptBy (g.M.Atomic.valid x) (g.M.Atomic.meaning x) (g.M.Atomic.undone x) c.self.inside.component now (t + 1) c.pop_front.new.self.items (with_room n.room n.spare (forgotten c.in-Some.entry.consumed c.in-Some.entry.sent inside.lists))) (sym c.pack.ensures.number)
          (committed (g.M.Atomic.valid x) (g.M.Atomic.meaning x) (g.M.Atomic.undone x) inside.component now inside.floor c.in-Some.entry c.pop_front.new.self.items inside.lists (kept g at) n.room n.spare));
    }

pub returns-clause-value : goal.returns-clause-value
returns-clause-value g c =
    let at = (goal.at.returns-clause-value g c).In-Some in
    let inside = c.self.inside in
    sym (ap (λ h. oldest_of (shown h inside.lists.consumed inside.lists.sent)) (split g at)) ∙ ap (λ p. oldest_of p.process.history) c.self.view_is

pub returns-clause-contents : goal.returns-clause-contents
returns-clause-contents g c =
    let at = (goal.at.returns-clause-contents g c).In-Some in
    let inside = c.self.inside in
    let now : Moment g.row.M-State.Denot = inside.moment in
    let n = c.forget.new.self in
    (λ i. seen (arc_value inside.network) inside.component now inside.line inside.cancel (c.pack.ensures.number i + 1) c.pop_front.new.self.items (c.forget.ensures i))
    ∙ ap (λ h. with_spare (min n.room n.spare) (without_oldest (seen (arc_value inside.network) inside.component now inside.line inside.cancel inside.floor h inside.lists))) (sym (split g at))
    ∙ ap (λ p. with_spare (min n.room n.spare) (without_oldest p)) c.self.view_is

pub returns-in_default-clause-value : goal.returns-in_default-clause-value
returns-in_default-clause-value g c =
    let inside = c.self.inside in
    ap (λ h. oldest_of (shown h inside.lists.consumed inside.lists.sent)) (sym (no_steps inside.history.items _ inside.history.ok.0 c.in_default.ensures.variant.1)) ∙ ap (λ p. oldest_of p.process.history) c.self.view_is
