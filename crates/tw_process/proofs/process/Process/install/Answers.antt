use Rattle.std.proofs.Common.{◌≡◌, ◌<◌, ◌≤◌, ◌++◌, Some, ap, sym, subst, ◌∙◌, arith, length, take, length-take}
use Rattle.std.specs.Arc.{arc_value}
use Rattle.std.specs.Prelude.{slice_get, IfNone, IfSome}
use Rattle.std.proofs.lemmas.List.{length-map}
use Rattle.std.proofs.lemmas.Option.{slice_get_within}
use Rattle.tw_atomic.specs.Atomic.{AreAlike}
use Rattle.tw_chain.specs.Kept as chain
use Rattle.tw_step.specs.Steps.{AllLinked}
use Rattle.tw_step.specs.declared.step.Step.{Step as KeptStep}
use Rattle.tw_lists.specs.Lists.{with_room}
use Rattle.tw_network.specs.Contents.{network_of}
use Rattle.tw_theory.specs.Chains.{IsHome, IsSoloRun}
use Rattle.tw_theory.specs.Installing.{IsInstalled}
use Rattle.tw_actions.specs.declared.chain.Stop.TheVariants.{Ended}
use Rattle.tw_theory.specs.Network.{model_of}
use Rattle.tw_theory.specs.Transitions.{Moment}
use Rattle.tw_vtime.specs.Stamps.{max_microstep}
use Rattle.tw_process.specs.History.{seen, IsKeptBy}
use Rattle.tw_process.specs.Installing.{AreNext, WhyNot, after_steps, entries_with, sent_counts}
use Rattle.tw_process.specs.Process.{Held}
use Rattle.tw_process.proofs.Finishing.{Whole, whole, not_begun}
use Rattle.tw_process.proofs.Histories.{kept_at}
use Rattle.tw_network.proofs.Places.{model_at}
use Rattle.tw_process.proofs.process.Process.install.Given.{Over}
use Rattle.tw_process.proofs.process.Process.install.Goals.{After-push_entries, then-len-eq0, else-len-eq0}
use Rattle.tw_process.proofs.process.Process.install.Goals as goal

pub model-model-requires : goal.model-model-requires
model-model-requires g c = subst (λ n. c.self.inside.component < length n.models) (sym c.deref-network.ensures) (slice_get_within (arc_value c.self.inside.network).models c.self.inside.component c.self.invariant.model c.self.invariant.there)

pub take_steps-counts-requires : goal.take_steps-counts-requires
take_steps-counts-requires g c = record {
  known = subst (λ n. c.self.inside.component < length n.models) (sym c.deref-network.ensures) (slice_get_within (arc_value c.self.inside.network).models c.self.inside.component c.self.invariant.model c.self.invariant.there);
}

pub cut_back-steps-requires-clause-alike : goal.cut_back-steps-requires-clause-alike
cut_back-steps-requires-clause-alike g c =
    (c.requires.alike c.model-model.result.now
    ((λ i. let x = sym c.self.view_is i in slice_get x.network.models x.component) ∙ ap (λ n. slice_get n.models c.self.inside.component) (sym c.deref-network.ensures) ∙ c.model-model.ensures)).takes_back

pub push_entries-requires : goal.push_entries-requires
push_entries-requires g c =
    let parts = c.cut_back-steps.result.steps in
    let counts = c.take_steps-counts.result.counts in
    omega (arith, c.take_steps-counts.ensures.room, length-map parts.items (chain.shown {S = g.row.M-State.Denot} {R = g.row.M-Residue.Denot}), ap length c.cut_back-steps.ensures.steps, length-take c.len-installed.result c.args.chain.run.steps, c.len-installed.ensures, counts.ok.0, parts.ok.0)

now_of : (g : Over) (c : After-push_entries g) → Moment g.row.M-State.Denot
now_of g c = c.self.inside.moment

model_there : (g : Over) (c : After-push_entries g) → slice_get (arc_value c.self.inside.network).models c.self.inside.component ≡ Some c.model-model.result.now
model_there g c = ap (λ n. slice_get n.models c.self.inside.component) (sym c.deref-network.ensures) ∙ c.model-model.ensures

alike_are : (g : Over) (c : After-push_entries g) → AreAlike g.M.Atomic.meaning g.M.Atomic.undone c.model-model.result.now c.args.chain.model
alike_are g c = c.requires.alike c.model-model.result.now ((λ i. let x = sym c.self.view_is i in slice_get x.network.models x.component) ∙ model_there g c)

component_is : (g : Over) (c : After-push_entries g) → c.args.chain.run.start.component ≡ c.self.inside.component
component_is g c = c.requires.component ∙ sym (ap (λ x. x.component) c.self.view_is)

home : (g : Over) (c : After-push_entries g) → IsHome (network_of g.M.Atomic.meaning (arc_value c.self.inside.network)) (g.M.Atomic.meaning c.model-model.result.now) c.args.chain.run.start
home g c = record {
  model_is = λ s. ap (λ k. model_of (network_of g.M.Atomic.meaning (arc_value c.self.inside.network)) k s) (component_is g c) ∙ model_at g.M.Atomic.meaning (arc_value c.self.inside.network) c.self.inside.component c.model-model.result.now s (model_there g c);
  limit_is = sym (c.requires.limit ∙ sym (ap (λ x. x.network.micro_limit) c.self.view_is));
}

small : (g : Over) (c : After-push_entries g) → (network_of g.M.Atomic.meaning (arc_value c.self.inside.network)).micro_limit ≤ max_microstep
small g c = subst (λ n. n.micro_limit ≤ max_microstep) c.deref-network.ensures c.facts-2.ensures.microsteps

run : (g : Over) (c : After-push_entries g) → IsSoloRun (g.M.Atomic.meaning c.model-model.result.now) c.args.chain.run
run g c = subst (λ m. IsSoloRun m c.args.chain.run) (sym (alike_are g c).means) c.facts.ensures.run

all : (g : Over) (c : After-push_entries g) → Whole (network_of g.M.Atomic.meaning (arc_value c.self.inside.network)) (g.M.Atomic.valid c.model-model.result.now) (g.M.Atomic.meaning c.model-model.result.now) (g.M.Atomic.undone c.model-model.result.now) c.args.chain.run (home g c) (small g c)
    (λ tk s el bag can. g.met.M.Atomic.stays_valid c.model-model.result.now tk s el bag can) (arc_value c.self.inside.network) c.self.inside.line c.self.inside.cancel c.self.inside.floor (run g c) c.args.chain.cause
    c.self.inside.moment c.cut_back-steps.result.moment
    c.self.inside.history.items c.push_entries.new.history.items c.self.inside.lists c.take_steps-counts.new.lists c.len-installed.result c.unwrap_or-stop.result
all g c =
    let f = c.self.inside in
    let net = arc_value f.network in
    let model = c.model-model.result.now in
    let meaning = g.M.Atomic.meaning in
    let r = c.args.chain.run in
    let taken = c.take_steps-counts in
    let counts = taken.result.counts in
    let es = c.steps.result.now in
    let parts = c.cut_back-steps.result in
    let n = c.len-installed.result in
    let way = f.cancel in
    let now : Moment g.row.M-State.Denot = f.moment in
    let k = sym (component_is g c) in
    let d = c.deref-network.ensures in
    let n_is : length counts.items ≡ n = omega (arith, c.len-installed.ensures, counts.ok.0) in
    let o = taken.result.stop in
    let kept = kept_at g.M.Atomic.valid meaning g.M.Atomic.undone net f.component now f.floor f.history.items f.lists c.self.invariant model (model_there g c) in
    whole (network_of meaning net) (g.M.Atomic.valid model) (meaning model) (g.M.Atomic.undone model) r (home g c) (small g c) (λ tk s el bag can. g.met.M.Atomic.stays_valid model tk s el bag can) net f.line way f.floor (run g c)
    c.args.chain.cause now parts.moment f.history.items c.push_entries.new.history.items f.lists taken.new.lists n c.unwrap_or-stop.result es parts.steps.items counts.items o c.cause-2.result
    (c.stands_at_start.ensures.0 c.if-not-stands_at_start.false)
    (subst (λ x. IsKeptBy (g.M.Atomic.valid model) (meaning model) (g.M.Atomic.undone model) x now f.floor f.history.items f.lists) k kept)
    c.steps.ensures
    (omega (arith, taken.ensures.within, n_is))
    (subst (λ (x : Type 0). x) (λ i. AreNext (network_of meaning (d i)) (k i) way (take (n_is i) es) f.lists) taken.ensures.next)
    (taken.ensures.lists ∙ (λ i. with_room taken.new.lists.room taken.new.lists.spare (after_steps (network_of meaning (d i)) (k i) way (take (n_is i) es) f.lists)))
    (taken.ensures.counts ∙ (λ i. sent_counts (network_of meaning (d i)) (k i) (take (n_is i) es)))
    c.cut_back-steps.ensures.steps
    c.cut_back-steps.ensures.now
    (subst (λ u. AllLinked u parts.steps.items parts.moment.state) (sym (alike_are g c).takes_back) c.cut_back-steps.ensures.links)
    (c.push_entries.ensures ∙ ap (λ l. l ++ entries_with counts.items parts.steps.items) taken.ensures.history)
    (subst (λ (x : Type 0). x) (λ i. IfNone o (n_is i ≡ length es)) taken.ensures.all)
    (subst (λ (x : Type 0). x) (λ i. IfSome o (λ s. n_is i < length es)) taken.ensures.short)
    (subst (λ (x : Type 0). x) (λ i. IfSome o (λ s. (e : KeptStep _ _) → slice_get es (n_is i) ≡ Some e → WhyNot (network_of meaning (d i)) (k i) way e taken.new.lists s)) taken.ensures.stop)
    c.unwrap_or-stop.ensures
    c.cause-2.ensures

pub invariant_of-self : goal.invariant_of-self
invariant_of-self g c =
    let at = (goal.at.invariant_of-self g c).After-push_entries in
    let f = c.self.inside in
    let model = c.model-model.result.now in
    let now : Moment g.row.M-State.Denot = c.cut_back-steps.result.moment in
    record {
      model = model;
      there = model_there g at;
      by = subst (λ x. IsKeptBy (g.M.Atomic.valid model) (g.M.Atomic.meaning model) (g.M.Atomic.undone model) x now f.floor c.push_entries.new.history.items c.take_steps-counts.new.lists) (component_is g at) (all g at).kept;
    }

pub returns-clause-installed : goal.returns-clause-installed
returns-clause-installed g c =
    let at = (goal.at.returns-clause-installed g c).After-push_entries in
    let f = c.self.inside in
    let now : Moment g.row.M-State.Denot = c.cut_back-steps.result.moment in
    subst (λ (x : Held _ _). IsInstalled (network_of g.M.Atomic.meaning x.network) c.args.chain.run c.args.chain.cause x.process
    (seen (arc_value f.network) f.component now f.line f.cancel f.floor c.push_entries.new.history.items c.take_steps-counts.new.lists).process (record { installed = c.len-installed.result; stop = c.unwrap_or-stop.result }))
    c.self.view_is (all g at).is

pub returns-then-not-stands_at_start-clause-installed : goal.returns-then-not-stands_at_start-clause-installed
returns-then-not-stands_at_start-clause-installed g c =
    let f = c.self.inside in
    let net = network_of g.M.Atomic.meaning c.args.self.now.network in
    let r = c.args.chain.run in
    let away : c.args.self.now.process.now ≡ r.start.now → ⊥ = λ e. let both = sym c.if-not-stands_at_start.true ∙ c.stands_at_start.ensures.1 (ap (λ p. p.process.now) c.self.view_is ∙ e) in cc both in
    elim c.if-len-eq0.branch [
      | then-len-eq0 w ↦ not_begun net r c.args.chain.cause c.args.self.now.process c.if-len-eq0.stop away (λ z. w.stop-is ∙ ap Ended w.cause.ensures) (λ some. absurd (omega (arith, some, c.len.ensures, w.if-len-eq0.true)))
      | else-len-eq0 w ↦ not_begun net r c.args.chain.cause c.args.self.now.process c.if-len-eq0.stop away (λ z. absurd (w.if-len-eq0.false (c.len.ensures ∙ z))) (λ some. w.stop-is)
    ]

pub cut_back-steps-requires-clause-count : goal.cut_back-steps-requires-clause-count
cut_back-steps-requires-clause-count g c =
    let es = c.steps.result.now in
    let counts = c.take_steps-counts.result.counts in
    omega (arith, c.len-installed.ensures, counts.ok.0, c.take_steps-counts.ensures.within, length-map es (chain.shown {S = g.row.M-State.Denot} {R = g.row.M-Residue.Denot}), ap length c.steps.ensures)

pub returns-clause-others : goal.returns-clause-others
returns-clause-others g c =
    let f = c.self.inside in
    let now : Moment g.row.M-State.Denot = c.cut_back-steps.result.moment in
    let new = seen (arc_value f.network) f.component now f.line f.cancel f.floor c.push_entries.new.history.items c.take_steps-counts.new.lists in
    ap (λ (x : Held _ _). record x { process = new.process; spare = new.spare }) c.self.view_is
