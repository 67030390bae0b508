use Rattle.std.proofs.Common.{◌≡◌, ◌+◌, ◌<◌, ◌≤◌, length, Some, Err, ap, sym, subst, ◌∙◌, arith, min}
use Rattle.std.specs.Arc.{arc_value}
use Rattle.std.specs.Prelude.{slice_get}
use Rattle.std.proofs.lemmas.Option.{slice_get_within}
use Rattle.tw_msgs.specs.declared.record_kind.RecordKind.TheVariants.{Out}
use Rattle.tw_network.specs.Contents.{network_of}
use Rattle.tw_theory.specs.Contents.{next}
use Rattle.tw_theory.specs.Installing.{IsFullFor}
use Rattle.tw_theory.specs.Network.{routed}
use Rattle.tw_vtime.specs.Stamps.{max_microstep}
use Rattle.tw_process.specs.History.{seen, IsKept}
use Rattle.tw_lists.specs.Lists.{with_room, with_all_sent}
use Rattle.tw_process.specs.Process.{IsStepped, with_spare}
use Rattle.tw_process.proofs.Histories.{kept_at}
use Rattle.tw_process.proofs.Receipts.{kept_with, others_kept}
use Rattle.tw_process.proofs.Outcomes.{on_err_always}
use Rattle.tw_process.proofs.Made.{too_large, stop_for_pool, due_for_pool}
use Rattle.tw_process.proofs.Stepped.{Stepped, output_stepped}
use Rattle.tw_process.proofs.process.Process.make_output.Given.{Over}
use Rattle.tw_process.proofs.process.Process.make_output.Goals.{After-drop-sent-2}
use Rattle.tw_process.proofs.process.Process.make_output.Goals as goal

pub model-model-requires : goal.model-model-requires
model-model-requires g c = subst (λ n. c.self.inside.component < length n.models) (sym c.deref-network.ensures) (slice_get_within (arc_value c.self.inside.network).models c.self.inside.component c.self.invariant.model c.self.invariant.there)

pub output_step-requires : goal.output_step-requires
output_step-requires g c =
    let inside = c.self.inside in
    let there = ap (λ n. slice_get n.models inside.component) (sym c.deref-network.ensures) ∙ c.model-model.ensures in
    record { valid = (kept_at g.M.Atomic.valid g.M.Atomic.meaning g.M.Atomic.undone (arc_value inside.network) inside.component inside.moment inside.floor inside.history.items inside.lists c.self.invariant c.model-model.result.now there).standing.valid }

pub routed-requires : goal.routed-requires
routed-requires g c = subst (λ n. c.self.inside.component < length n.models) (sym c.deref-network.ensures) (slice_get_within (arc_value c.self.inside.network).models c.self.inside.component c.self.invariant.model c.self.invariant.there)

there : (g : Over) (c : After-drop-sent-2 g) → slice_get (arc_value c.self.inside.network).models c.self.inside.component ≡ Some c.model-model.result.now
there g c = ap (λ n. slice_get n.models c.self.inside.component) (sym c.deref-network.ensures) ∙ c.model-model.ensures

small : (g : Over) (c : After-drop-sent-2 g) → (arc_value c.self.inside.network).micro_limit ≤ max_microstep
small g c = subst (λ n. n.micro_limit ≤ max_microstep) c.deref-network.ensures c.facts.ensures.microsteps

all : (g : Over) (c : After-drop-sent-2 g) → Stepped g.M.Atomic.valid g.M.Atomic.meaning g.M.Atomic.undone (arc_value c.self.inside.network) c.self.inside.component c.model-model.result.now (there g c) (small g c)
    (λ tk s el bag can. g.met.M.Atomic.stays_valid c.model-model.result.now tk s el bag can)
    c.self.inside.moment c.after_output.new.self c.self.inside.line c.self.inside.cancel c.self.inside.floor c.self.inside.history.items c.push_back_reserved.new.self.items c.self.inside.lists c.send_all.new.self c.args.stamp Out
all g c =
    let inside = c.self.inside in
    let network = arc_value inside.network in
    let model = c.model-model.result.now in
    let before = inside.moment in
    let kept = kept_at g.M.Atomic.valid g.M.Atomic.meaning g.M.Atomic.undone network inside.component before inside.floor inside.history.items inside.lists c.self.invariant model (there g c) in
    let at : c.transition.result ≡ c.args.stamp + 1 = omega (arith, c.transition.ensures, c.requires.is_output) in
    let step = c.in_ok-step.step in
    output_stepped g.M.Atomic.valid g.M.Atomic.meaning g.M.Atomic.undone network inside.component model (there g c) (small g c) (λ tk s el bag can. g.met.M.Atomic.stays_valid model tk s el bag can)
    before c.after_output.new.self inside.line inside.cancel inside.floor c.send_all.new.self.room c.send_all.new.self.spare c.len.result inside.history.items c.push_back_reserved.new.self.items
    step c.in_ok-sent.sent.items inside.lists c.send_all.new.self c.args.stamp
    kept (c.requires.is_next ∙ ap (λ p. next p.process) (sym c.self.view_is)) c.requires.is_due c.requires.is_output
    c.in_ok-step.ensures.step c.in_ok-step.ensures.linked
    (c.in_ok-sent.ensures ∙ (λ i. routed (network_of g.M.Atomic.meaning (c.deref-network.ensures i)) inside.component (at i) step.done.bag))
    (omega (arith, c.len.ensures, c.in_ok-sent.sent.ok.0))
    (c.send_all.ensures ∙ (λ i. with_room c.send_all.new.self.room c.send_all.new.self.spare (with_all_sent inside.cancel (c.deref-2.ensures.value i) (c.reserve_to_send.ensures.contents i))))
    c.after_output.ensures
    (rw c.reserve.ensures.items at c.push_back_reserved.ensures.items)

pub invariant_of-self-2 : goal.invariant_of-self-2
invariant_of-self-2 g c = (all g c).kept

pub returns-clause-stepped : goal.returns-clause-stepped
returns-clause-stepped g c =
    let inside = c.self.inside in
    subst (λ old. IsStepped g.M.Atomic.meaning old (seen (arc_value inside.network) inside.component c.after_output.new.self inside.line inside.cancel inside.floor c.push_back_reserved.new.self.items c.send_all.new.self) c.args.stamp Out) c.self.view_is (all g c).stepped

pub invariant_of-self : goal.invariant_of-self
invariant_of-self g c =
    let inside = c.self.inside in
    let now = inside.moment in
    let new = c.reserve_to_send.new.self in
    kept_with g.M.Atomic.valid g.M.Atomic.meaning g.M.Atomic.undone (arc_value inside.network) inside.component now inside.floor inside.history.items inside.lists new (with_room new.room new.spare inside.lists) c.self.invariant c.reserve_to_send.ensures.contents
    (λ x kept. others_kept (g.M.Atomic.valid x) (g.M.Atomic.meaning x) (g.M.Atomic.undone x) inside.component now inside.floor inside.history.items inside.lists kept inside.lists.waiting inside.lists.outgoing inside.lists.owed new.room new.spare)

pub returns-in_err-reserve_to_send-clause-stays : goal.returns-in_err-reserve_to_send-clause-stays
returns-in_err-reserve_to_send-clause-stays g c =
    let inside = c.self.inside in
    let now = inside.moment in
    let lists = c.reserve_to_send.new.self in
    on_err_always _ c.from_residual-in_err-reserve_to_send.result
    ((λ i. seen (arc_value inside.network) inside.component now inside.line inside.cancel inside.floor inside.history.items (c.reserve_to_send.ensures.contents i))
    ∙ ap (with_spare (min lists.room lists.spare)) c.self.view_is)

pub returns-in_err-reserve_to_send-clause-stop : goal.returns-in_err-reserve_to_send-clause-stop
returns-in_err-reserve_to_send-clause-stop g c =
    let inside = c.self.inside in
    let network = arc_value inside.network in
    let model = c.model-model.result.now in
    let now = inside.moment in
    let there = ap (λ n. slice_get n.models inside.component) (sym c.deref-network.ensures) ∙ c.model-model.ensures in
    let kept = kept_at g.M.Atomic.valid g.M.Atomic.meaning g.M.Atomic.undone network inside.component now inside.floor inside.history.items inside.lists c.self.invariant model there in
    let at : c.transition.result ≡ c.args.stamp + 1 = omega (arith, c.transition.ensures, c.requires.is_output) in
    stop_for_pool g.M.Atomic.meaning c.args.self.now c.from_residual-in_err-reserve_to_send.result c.in_err-reserve_to_send.field-0.0 c.from_residual-in_err-reserve_to_send.ensures.1
    (λ full.
    let limit = rw c.deref.ensures.value at (c.reserve_to_send.ensures.limit.1 (c.in_err-reserve_to_send.was ∙ ap Err full)) in
    subst (λ old. IsFullFor (network_of g.M.Atomic.meaning old.network) old.component old.process) c.self.view_is
    (too_large g.M.Atomic.valid g.M.Atomic.meaning g.M.Atomic.undone network inside.component model there now inside.line inside.cancel inside.floor inside.history.items inside.lists c.args.stamp c.in_ok-step.step c.in_ok-sent.sent.items
    kept (c.requires.is_next ∙ ap (λ p. next p.process) (sym c.self.view_is)) c.requires.is_due c.requires.is_output c.in_ok-step.ensures.step
    (c.in_ok-sent.ensures ∙ (λ i. routed (network_of g.M.Atomic.meaning (c.deref-network.ensures i)) inside.component (at i) c.in_ok-step.step.done.bag))
    limit))

pub invariant_of-self-in_err-reserve : goal.invariant_of-self-in_err-reserve
invariant_of-self-in_err-reserve g c =
    let inside = c.self.inside in
    let now = inside.moment in
    let new = c.reserve_to_send.new.self in
    subst (λ h. IsKept g.M.Atomic.valid g.M.Atomic.meaning g.M.Atomic.undone (arc_value inside.network) inside.component now inside.floor h new) (sym c.reserve.ensures.items)
    (kept_with g.M.Atomic.valid g.M.Atomic.meaning g.M.Atomic.undone (arc_value inside.network) inside.component now inside.floor inside.history.items inside.lists new (with_room new.room new.spare inside.lists) c.self.invariant c.reserve_to_send.ensures.contents
    (λ x kept. others_kept (g.M.Atomic.valid x) (g.M.Atomic.meaning x) (g.M.Atomic.undone x) inside.component now inside.floor inside.history.items inside.lists kept inside.lists.waiting inside.lists.outgoing inside.lists.owed new.room new.spare))

pub returns-in_err-reserve-clause-stays : goal.returns-in_err-reserve-clause-stays
returns-in_err-reserve-clause-stays g c =
    let inside = c.self.inside in
    let now = inside.moment in
    let lists = c.reserve_to_send.new.self in
    on_err_always _ c.from_residual-in_err-reserve.result
    ((λ i. seen (arc_value inside.network) inside.component now inside.line inside.cancel inside.floor (c.reserve.ensures.items i) (c.reserve_to_send.ensures.contents i))
    ∙ ap (with_spare (min lists.room lists.spare)) c.self.view_is)

pub returns-in_err-reserve_to_send-clause-due : goal.returns-in_err-reserve_to_send-clause-due
returns-in_err-reserve_to_send-clause-due g c = due_for_pool c.from_residual-in_err-reserve_to_send.result c.in_err-reserve_to_send.field-0.0 c.from_residual-in_err-reserve_to_send.ensures.1
