use Rattle.std.proofs.Common.{◌≡◌, ◌-◌, ◌<◌, ◌≤◌, ◌++◌, length, drop, min, Some, ap, sym, subst, ◌∙◌}
use Rattle.std.specs.Arc.{arc_value}
use Rattle.std.specs.Prelude.{slice_get}
use Rattle.std.proofs.lemmas.Option.{slice_get_within}
use Rattle.tw_msgs.specs.Messages.{Sorted}
use Rattle.tw_theory.specs.Bundles.{front}
use Rattle.tw_theory.specs.Contents.{next}
use Rattle.tw_vtime.specs.Stamps.{max_microstep}
use Rattle.tw_theory.specs.Transitions.{Moment}
use Rattle.tw_process.specs.History.{seen, IsKept, IsKeptBy}
use Rattle.tw_lists.specs.Lists.{restored}
use Rattle.tw_process.specs.Process.{Held, with_spare, IsStepped, IsStop}
use Rattle.tw_process.specs.Refusals.{of_turn}
use Rattle.tw_process.proofs.Histories.{kept_at}
use Rattle.tw_theory.proofs.MessageOrder.{sorted_right}
use Rattle.tw_lists.proofs.Loops.{BagBack, bag_back, items_length}
use Rattle.tw_process.proofs.Outcomes.{on_err_always}
use Rattle.tw_process.proofs.Made.{move_possible, stops}
use Rattle.tw_process.proofs.Stepped.{Stepped, transition_stepped}
use Rattle.tw_process.proofs.process.Process.make_transition.Given.{Over}
use Rattle.tw_process.proofs.process.Process.make_transition.Goals.{After-micro_limit, After-push_back_reserved}
use Rattle.tw_process.proofs.process.Process.make_transition.Goals as goal

pub model-model-requires : goal.model-model-requires
model-model-requires g c = subst (λ n. c.self.inside.component < length n.models) (sym c.deref-network.ensures) (slice_get_within (arc_value c.self.inside.network).models c.self.inside.component c.self.invariant.model c.self.invariant.there)

same_spare : {M S : Type 0} (p q : Held M S) → p ≡ q → p ≡ with_spare p.spare q
same_spare p q e = e ∙ ap (λ k. with_spare k q) (sym (ap (λ (x : Held _ _). x.spare) e))

pub invariant_of-self : goal.invariant_of-self
invariant_of-self g c =
    let inside = c.self.inside in
    let now : Moment g.row.M-State.Denot = inside.moment in
    subst (λ h. IsKept g.M.Atomic.valid g.M.Atomic.meaning g.M.Atomic.undone (arc_value inside.network) inside.component now inside.floor h inside.lists) (sym c.reserve.ensures.items) c.self.invariant

pub returns-in_err-reserve-clause-stays : goal.returns-in_err-reserve-clause-stays
returns-in_err-reserve-clause-stays g c =
    let inside = c.self.inside in
    on_err_always _ c.from_residual.result
    ((λ i. seen (arc_value inside.network) inside.component inside.moment inside.line inside.cancel inside.floor (c.reserve.ensures.items i) inside.lists)
    ∙ ap (with_spare (min inside.lists.room inside.lists.spare)) c.self.view_is)

pub invariant_of-self-in_err-bag : goal.invariant_of-self-in_err-bag
invariant_of-self-in_err-bag g c =
    let inside = c.self.inside in
    let now : Moment g.row.M-State.Denot = inside.moment in
    subst (λ (x : Type 0). x) (λ i. IsKept g.M.Atomic.valid g.M.Atomic.meaning g.M.Atomic.undone (arc_value inside.network) inside.component now inside.floor (sym c.reserve.ensures.items i) (sym c.in_err-bag.ensures.err i)) c.self.invariant

pub returns-in_err-bag-clause-stays : goal.returns-in_err-bag-clause-stays
returns-in_err-bag-clause-stays g c =
    let inside = c.self.inside in
    on_err_always _ c.from_residual-in_err-bag.result
    (same_spare _ _ ((λ i. seen (arc_value inside.network) inside.component inside.moment inside.line inside.cancel inside.floor (c.reserve.ensures.items i) (c.in_err-bag.ensures.err i)) ∙ c.self.view_is))

pub transition_step-requires-clause-last : goal.transition_step-requires-clause-last
transition_step-requires-clause-last g c = c.self.invariant.by.standing.last_is

there : (g : Over) (c : After-micro_limit g) → slice_get (arc_value c.self.inside.network).models c.self.inside.component ≡ Some c.model-model.result.now
there g c = ap (λ n. slice_get n.models c.self.inside.component) (sym c.deref-network.ensures) ∙ c.model-model.ensures

kept : (g : Over) (c : After-micro_limit g) → IsKeptBy (g.M.Atomic.valid c.model-model.result.now) (g.M.Atomic.meaning c.model-model.result.now) (g.M.Atomic.undone c.model-model.result.now) c.self.inside.component c.self.inside.moment c.self.inside.floor c.self.inside.history.items c.self.inside.lists
kept g c = kept_at g.M.Atomic.valid g.M.Atomic.meaning g.M.Atomic.undone (arc_value c.self.inside.network) c.self.inside.component c.self.inside.moment c.self.inside.floor c.self.inside.history.items c.self.inside.lists c.self.invariant c.model-model.result.now (there g c)

is_next : (g : Over) (c : After-micro_limit g) → c.args.stamp ≡ next (seen (arc_value c.self.inside.network) c.self.inside.component c.self.inside.moment c.self.inside.line c.self.inside.cancel c.self.inside.floor c.self.inside.history.items c.self.inside.lists).process
is_next g c = c.requires.is_next ∙ ap (λ p. next p.process) (sym c.self.view_is)

limit_is : (g : Over) (c : After-micro_limit g) → c.micro_limit.result ≡ (arc_value c.self.inside.network).micro_limit
limit_is g c = c.micro_limit.ensures ∙ ap (λ n. n.micro_limit) c.deref-network.ensures

small : (g : Over) (c : After-micro_limit g) → (arc_value c.self.inside.network).micro_limit ≤ max_microstep
small g c = subst (λ n. n.micro_limit ≤ max_microstep) c.deref-network.ensures c.facts.ensures.microsteps

pub transition_step-requires-clause-limit : goal.transition_step-requires-clause-limit
transition_step-requires-clause-limit g c =
    let at = (goal.at.transition_step-requires-clause-limit g c).After-micro_limit in
    subst (λ l. l ≤ max_microstep) (sym (limit_is g at)) (small g at)

pub transition_step-requires-clause-can_move : goal.transition_step-requires-clause-can_move
transition_step-requires-clause-can_move g c =
    let at = (goal.at.transition_step-requires-clause-can_move g c).After-micro_limit in
    let inside = c.self.inside in
    move_possible g.M.Atomic.valid g.M.Atomic.meaning g.M.Atomic.undone (arc_value inside.network) inside.component c.model-model.result.now (there g at)
    inside.moment inside.floor inside.history.items inside.lists c.in_ok-bag.bag c.args.stamp
    (kept g at) (is_next g at) c.requires.is_due c.requires.is_transition c.in_ok-bag.ensures.bag

back : (g : Over) (c : After-micro_limit g) → BagBack c.args.stamp c.len-consumed.result c.self.inside.lists
back g c = bag_back c.args.stamp c.len-consumed.result c.self.inside.lists (c.len-consumed.ensures ∙ ap length c.in_ok-bag.ensures.bag ∙ items_length (front c.args.stamp c.self.inside.lists.pending)) (sorted_right c.self.inside.lists.consumed c.self.inside.lists.pending c.self.invariant.by.sorted)

pub restore-requires-clause-n : goal.restore-requires-clause-n
restore-requires-clause-n g c = subst (λ l. c.len-consumed.result ≤ length l.consumed) (sym c.in_ok-bag.ensures.ok) (back g (goal.at.restore-requires-clause-n g c).After-micro_limit).within

pub restore-requires-clause-sorted : goal.restore-requires-clause-sorted
restore-requires-clause-sorted g c = subst (λ l. Sorted (drop (length l.consumed - c.len-consumed.result) l.consumed ++ l.pending)) (sym c.in_ok-bag.ensures.ok) (back g (goal.at.restore-requires-clause-sorted g c).After-micro_limit).sorted

pub invariant_of-self-in-Err : goal.invariant_of-self-in-Err
invariant_of-self-in-Err g c =
    let lists = c.restore.ensures ∙ ap (restored c.len-consumed.result) c.in_ok-bag.ensures.ok ∙ (back g (goal.at.invariant_of-self-in-Err g c).After-micro_limit).same in
    rw (c.in-Err.ensures.stays, c.reserve.ensures.items, lists) c.self.invariant

pub returns-in-Err-clause-stays : goal.returns-in-Err-clause-stays
returns-in-Err-clause-stays g c =
    let inside = c.self.inside in
    let lists = c.restore.ensures ∙ ap (restored c.len-consumed.result) c.in_ok-bag.ensures.ok ∙ (back g (goal.at.returns-in-Err-clause-stays g c).After-micro_limit).same in
    same_spare _ _ ((λ i. seen (arc_value inside.network) inside.component (c.in-Err.ensures.stays i) inside.line inside.cancel inside.floor (c.reserve.ensures.items i) (lists i)) ∙ c.self.view_is)

pub returns-in-Err-clause-stop : goal.returns-in-Err-clause-stop
returns-in-Err-clause-stop g c =
    let inside = c.self.inside in
    let at = (goal.at.returns-in-Err-clause-stop g c).After-micro_limit in
    subst (λ e. IsStop g.M.Atomic.meaning c.args.self.now e) (sym c.into.ensures)
    (subst (λ old. IsStop g.M.Atomic.meaning old (of_turn c.in-Err.refused)) c.self.view_is
    (stops g.M.Atomic.valid g.M.Atomic.meaning g.M.Atomic.undone (arc_value inside.network) inside.component c.model-model.result.now (there g at)
    inside.moment inside.line inside.cancel inside.floor inside.history.items inside.lists c.args.stamp c.micro_limit.result c.in_ok-bag.bag c.in-Err.refused
    (limit_is g at) (is_next g at) c.requires.is_due c.requires.is_transition c.in_ok-bag.ensures.bag c.in-Err.ensures.stopped))

all : (g : Over) (c : After-push_back_reserved g) → Stepped g.M.Atomic.valid g.M.Atomic.meaning g.M.Atomic.undone (arc_value c.self.inside.network) c.self.inside.component c.model-model.result.now (there g (goal.at.After-push_back_reserved g c).After-micro_limit) (small g (goal.at.After-push_back_reserved g c).After-micro_limit)
    (λ tk s el bag can. g.met.M.Atomic.stays_valid c.model-model.result.now tk s el bag can)
    c.self.inside.moment c.transition_step.new.now c.self.inside.line c.self.inside.cancel c.self.inside.floor c.self.inside.history.items c.push_back_reserved.new.self.items c.self.inside.lists c.consume_bag.new.self c.args.stamp c.in-Ok.step.done.kind
all g c =
    let at = (goal.at.After-push_back_reserved g c).After-micro_limit in
    let inside = c.self.inside in
    let network = arc_value inside.network in
    let model = c.model-model.result.now in
    let told = c.in-Ok.ensures in
    transition_stepped g.M.Atomic.valid g.M.Atomic.meaning g.M.Atomic.undone network inside.component model (there g at) (small g at) (λ tk s el bag can. g.met.M.Atomic.stays_valid model tk s el bag can)
    inside.moment c.transition_step.new.now inside.line inside.cancel inside.floor c.len-consumed.result c.micro_limit.result inside.history.items c.push_back_reserved.new.self.items
    c.in-Ok.step c.in_ok-bag.bag inside.lists c.consume_bag.new.self c.args.stamp
    (kept g at) (limit_is g at) (is_next g at) c.requires.is_due c.requires.is_transition c.in_ok-bag.ensures.bag told.step told.linked c.in_ok-bag.ensures.ok
    (c.len-consumed.ensures ∙ ap length c.in_ok-bag.ensures.bag ∙ items_length (front c.args.stamp inside.lists.pending))
    (rw c.reserve.ensures.items at c.push_back_reserved.ensures.items)

pub invariant_of-self-2 : goal.invariant_of-self-2
invariant_of-self-2 g c = (all g c).kept

pub returns-clause-stepped : goal.returns-clause-stepped
returns-clause-stepped g c =
    let inside = c.self.inside in
    subst (λ old. IsStepped g.M.Atomic.meaning old (seen (arc_value inside.network) inside.component c.transition_step.new.now inside.line inside.cancel inside.floor c.push_back_reserved.new.self.items c.consume_bag.new.self) c.args.stamp c.in-Ok.step.done.kind) c.self.view_is (all g c).stepped
