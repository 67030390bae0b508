use Rattle.std.proofs.Common.{◌≡◌, ◌++◌, ◌∷◌, [], ap, sym, ◌∙◌, min}
use Rattle.std.specs.Arc.{arc_value}
use Rattle.tw_theory.specs.Transitions.{Moment}
use Rattle.tw_lists.specs.Lists.{node_count as lists_count, with_room, with_orphan}
use Rattle.tw_process.specs.History.{seen}
use Rattle.tw_process.specs.Process.{with_noted, with_spare}
use Rattle.std.proofs.lemmas.Result.{on_ok_weaker, on_err_weaker}
use Rattle.tw_process.proofs.Outcomes.{either_way}
use Rattle.tw_process.proofs.Receipts.{kept_with, others_kept}
use Rattle.tw_theory.specs.Memory.{live}
use Rattle.tw_process.proofs.Histories.{live_shown}
use Rattle.tw_process.proofs.process.Process.note_orphan.Given.{Over}
use Rattle.tw_process.proofs.process.Process.note_orphan.Goals.{After-note_orphan}
use Rattle.tw_process.proofs.process.Process.note_orphan.Goals as goal

count : (g : Over) (c : After-note_orphan g) → lists_count c.self.inside.lists ≡ live c.args.self.now.process
count g c =
    let inside = c.self.inside in
    let x = c.self.invariant.model in
    sym (live_shown (g.M.Atomic.valid x) (g.M.Atomic.meaning x) (g.M.Atomic.undone x) (arc_value inside.network) inside.component inside.moment inside.line inside.cancel inside.floor inside.history.items inside.lists c.self.invariant.by)
    ∙ ap (λ p. live p.process) c.self.view_is

pub returns-clause-limit : goal.returns-clause-limit
returns-clause-limit g c = rw (count g (goal.at.returns-clause-limit g c).After-note_orphan) at c.note_orphan.ensures.limit

pub invariant_of-self : goal.invariant_of-self
invariant_of-self g c =
    let inside = c.self.inside in
    let now : Moment g.row.M-State.Denot = inside.moment in
    let new = c.note_orphan.new.self in
    let m = c.args.message in
    either_way _ _ _ c.note_orphan.result c.note_orphan.ensures.noted c.note_orphan.ensures.stays
    (λ noted. kept_with g.M.Atomic.valid g.M.Atomic.meaning g.M.Atomic.undone (arc_value inside.network) inside.component now inside.floor inside.history.items inside.lists new (with_room new.room new.spare (with_orphan m inside.lists)) c.self.invariant noted
    (λ x kept. others_kept (g.M.Atomic.valid x) (g.M.Atomic.meaning x) (g.M.Atomic.undone x) inside.component now inside.floor inside.history.items inside.lists kept (inside.lists.waiting ++ m ∷ []) inside.lists.outgoing inside.lists.owed new.room new.spare))
    (λ stays. kept_with g.M.Atomic.valid g.M.Atomic.meaning g.M.Atomic.undone (arc_value inside.network) inside.component now inside.floor inside.history.items inside.lists new (with_room new.room new.spare inside.lists) c.self.invariant stays
    (λ x kept. others_kept (g.M.Atomic.valid x) (g.M.Atomic.meaning x) (g.M.Atomic.undone x) inside.component now inside.floor inside.history.items inside.lists kept inside.lists.waiting inside.lists.outgoing inside.lists.owed new.room new.spare))

pub returns-clause-noted : goal.returns-clause-noted
returns-clause-noted g c =
    let inside = c.self.inside in
    let new = c.note_orphan.new.self in
    on_ok_weaker c.note_orphan.result
    (λ is. (λ i. seen (arc_value inside.network) inside.component inside.moment inside.line inside.cancel inside.floor inside.history.items (is i))
    ∙ ap (λ p. with_spare (min new.room new.spare) (with_noted c.args.message p)) c.self.view_is)
    c.note_orphan.ensures.noted

pub returns-clause-stays : goal.returns-clause-stays
returns-clause-stays g c =
    let inside = c.self.inside in
    let new = c.note_orphan.new.self in
    on_err_weaker c.note_orphan.result
    (λ is. (λ i. seen (arc_value inside.network) inside.component inside.moment inside.line inside.cancel inside.floor inside.history.items (is i))
    ∙ ap (with_spare (min new.room new.spare)) c.self.view_is)
    c.note_orphan.ensures.stays
