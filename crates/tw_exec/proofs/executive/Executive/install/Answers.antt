use Rattle.std.proofs.Common.{◌≡◌, ◌≤◌, Some, length, refl, ap, sym, subst, ◌∙◌, arith}
use Rattle.std.specs.Arc.{arc_value}
use Rattle.std.specs.Prelude.{slice_get, slice_set}
use Rattle.std.proofs.lemmas.Option.{slice_get_read}
use Rattle.tw_exec.specs.Running.{IsHeld, shown}
use Rattle.tw_exec.proofs.Installs.{installed_held, is_home, steps_made}
use Rattle.tw_exec.proofs.Kept.{as_many_columns, columns_of_models}
use Rattle.tw_exec.proofs.Worlds.{process_at}
use Rattle.tw_laws.specs.Chains.{steps_of_one}
use Rattle.tw_network.specs.Contents.{network_of}
use Rattle.tw_theory.proofs.Elements.{present}
use Rattle.tw_theory.specs.Chains.{IsHome}
use Rattle.tw_theory.specs.Executive.{replay}
use Rattle.tw_theory.specs.Installing.{IsInstalled}
use Rattle.tw_vtime.specs.Stamps.{stamp}
use Rattle.tw_exec.proofs.executive.Executive.install.Given.{Over}
use Rattle.tw_exec.proofs.executive.Executive.install.Goals.{After-index_mut-process}
use Rattle.tw_exec.proofs.executive.Executive.install.Goals as goal

there_is : (g : Over) (c : After-index_mut-process g) → slice_get c.self.inside.processes.items c.args.component ≡ Some c.index_mut-process.result.now
there_is g c =
    let ps = c.self.inside.processes in
    slice_get_read ps.items _ c.args.component c.index_mut-process.result.now ps.ok.0 (omega (arith, c.if-component-len.false, c.len.ensures, ps.ok.0)) c.index_mut-process.ensures.value

same_network : (g : Over) (c : After-index_mut-process g) → c.args.self.now.network ≡ c.index_mut-process.result.now.network
same_network g c = ap (λ e. e.network) (sym c.self.view_is) ∙ sym (c.self.invariant.0.own c.args.component c.index_mut-process.result.now (there_is g c)).network_is

same_component : (g : Over) (c : After-index_mut-process g) → c.args.component ≡ c.index_mut-process.result.now.component
same_component g c = sym (c.self.invariant.0.own c.args.component c.index_mut-process.result.now (there_is g c)).component_is

pub install-requires-clause-component : goal.install-requires-clause-component
install-requires-clause-component g c = c.requires.component ∙ same_component g (goal.at.install-requires-clause-component g c).After-index_mut-process

pub install-requires-clause-limit : goal.install-requires-clause-limit
install-requires-clause-limit g c = c.requires.limit ∙ ap (λ n. n.micro_limit) (same_network g (goal.at.install-requires-clause-limit g c).After-index_mut-process)

pub install-requires-clause-alike : goal.install-requires-clause-alike
install-requires-clause-alike g c = λ m at. c.requires.alike m ((λ i. slice_get (same_network g (goal.at.install-requires-clause-alike g c).After-index_mut-process i).models (same_component g (goal.at.install-requires-clause-alike g c).After-index_mut-process i)) ∙ at)

-- the chain is at home
home : (g : Over) (c : After-index_mut-process g) → IsHome (network_of g.M.Atomic.meaning (arc_value c.self.inside.network)) (g.M.Atomic.meaning c.args.chain.model) c.args.chain.run.start
home g c =
    let n = arc_value c.self.inside.network in
    let h = c.self.invariant.0 in
    let view = ap (λ e. e.network) c.self.view_is in
    let m = present n.models c.args.component (omega (arith, c.if-component-len.false, c.len.ensures, c.self.inside.processes.ok.0, as_many_columns h, columns_of_models h)) in
    is_home g.M.Atomic.meaning n m.0 (g.M.Atomic.meaning c.args.chain.model) c.args.chain.run.start (ap (slice_get n.models) c.requires.component ∙ m.1)
    (c.requires.alike m.0 (ap (λ x. slice_get x.models c.args.component) (sym view) ∙ m.1)).means
    (c.requires.limit ∙ ap (λ x. x.micro_limit) (sym view))

pub invariant_of-self : goal.invariant_of-self
invariant_of-self g c =
    let m = g.M.Atomic.meaning in
    let n = arc_value c.self.inside.network in
    let run = c.args.chain.run in
    let old = c.index_mut-process.result.now in
    let o = c.self.invariant.0.own c.args.component old (there_is g (goal.at.invariant_of-self g c).After-index_mut-process) in
    let here = ap (slice_get c.self.inside.processes.items) c.requires.component ∙ there_is g (goal.at.invariant_of-self g c).After-index_mut-process in
    let made = subst (λ x. IsInstalled (network_of m x) run c.args.chain.cause old.process c.install.new.self.process c.install.result) o.network_is c.install.ensures.installed in
    let bound = subst (λ u. run.start.before ≤ stamp u 0 0) (ap (λ e. e.until) (sym c.self.view_is)) c.requires.bound in
    let held = installed_held c.self.invariant.0 (m c.args.chain.model) run c.args.chain.cause old c.install.new.self c.install.result (home g (goal.at.invariant_of-self g c).After-index_mut-process) c.facts.ensures.run bound here made c.install.ensures.others in
    (subst (λ k. IsHeld m n c.self.inside.until c.self.inside.end c.self.inside.gvt (slice_set c.self.inside.processes.items k c.install.new.self) c.self.inside.mail.boxes c.self.inside.columns.items) c.requires.component held, c.self.invariant.1)

pub returns-clause-installed : goal.returns-clause-installed
returns-clause-installed g c =
    let m = g.M.Atomic.meaning in
    let n = arc_value c.self.inside.network in
    let run = c.args.chain.run in
    let old = c.index_mut-process.result.now in
    let o = c.self.invariant.0.own c.args.component old (there_is g (goal.at.returns-clause-installed g c).After-index_mut-process) in
    let here = ap (slice_get c.self.inside.processes.items) c.requires.component ∙ there_is g (goal.at.returns-clause-installed g c).After-index_mut-process in
    let made = subst (λ x. IsInstalled (network_of m x) run c.args.chain.cause old.process c.install.new.self.process c.install.result) o.network_is c.install.ensures.installed in
    let bound = subst (λ u. run.start.before ≤ stamp u 0 0) (ap (λ e. e.until) (sym c.self.view_is)) c.requires.bound in
    let steps = steps_made c.self.invariant.0 (m c.args.chain.model) run c.args.chain.cause old c.install.new.self c.install.result (home g (goal.at.returns-clause-installed g c).After-index_mut-process) c.facts.ensures.run bound here made c.install.ensures.others in
    let view = c.self.view_is in
    record {
      before = old.process;
      after = c.install.new.self.process;
      at = ap (λ e. slice_get e.world.processes run.start.component) (sym view) ∙ process_at c.self.inside.processes.items c.self.inside.mail.boxes c.self.inside.columns.items c.self.inside.gvt run.start.component old here;
      made = subst (λ x. IsInstalled (network_of m x) run c.args.chain.cause old.process c.install.new.self.process c.install.result) (ap (λ e. e.network) view) made;
      steps =
          ap (λ k. record { network = n; until = c.self.inside.until; world = shown (slice_set c.self.inside.processes.items k c.install.new.self) c.self.inside.mail.boxes c.self.inside.columns.items c.self.inside.gvt }) (sym c.requires.component)
          ∙ ap (λ w. record { network = n; until = c.self.inside.until; world = w }) steps
          ∙ (λ i. record { network = (view i).network; until = (view i).until; world = replay (network_of m (view i).network) (view i).until (view i).world (steps_of_one run.start.component c.install.result.installed) });
    }

pub returns-then-component-len-clause-no_such : goal.returns-then-component-len-clause-no_such
returns-then-component-len-clause-no_such g c = (λ same. omega (arith, c.if-component-len.true, c.len.ensures, c.self.inside.processes.ok.0, as_many_columns c.self.invariant.0, columns_of_models c.self.invariant.0, ap (λ e. length e.network.models) c.self.view_is), λ past. refl)

pub returns-clause-no_such : goal.returns-clause-no_such
returns-clause-no_such g c = (λ same. absurd (cc), λ past. absurd (omega (arith, past, c.if-component-len.false, c.len.ensures, c.self.inside.processes.ok.0, as_many_columns c.self.invariant.0, columns_of_models c.self.invariant.0, ap (λ e. length e.network.models) c.self.view_is)))
