use Rattle.std.proofs.Common.{◌≡◌, ◌<◌, ◌≤◌, ◌+◌, ◌++◌, [], Some, Err, length, take, refl, ap, sym, subst, ◌∙◌, arith, rules}
use Rattle.std.specs.Arc.{arc_value}
use Rattle.std.specs.Prelude.{slice_get, slice_set, Ok, Err}
use Rattle.std.proofs.lemmas.Option.{get_or_from_slice_get, same_Some, slice_get_read}
use Rattle.std.proofs.lemmas.Result.{err_from_is_err_and}
use Rattle.tw_exec.specs.Running.{AreExact, answer, after, shown}
use Rattle.tw_exec.proofs.Acts.{harvest_none}
use Rattle.tw_exec.proofs.Commits.{counted, harvest_acted}
use Rattle.tw_exec.proofs.Kept.{IsActed, as_many_columns}
use Rattle.tw_exec.proofs.Worlds.{set_back}
use Rattle.tw_theory.specs.Contents.{records_of, steps_before}
use Rattle.tw_theory.specs.Executive.{Harvest, Harvested}
use Rattle.tw_exec.proofs.Exactly.{exact_known, exact_taken, harvest_exact}
use Rattle.tw_exec.specs.declared.refused.Refused.TheVariants as refused
use Rattle.tw_theory.specs.Executive as theory
use Rattle.tw_actions.specs.declared.action.Done.TheVariants as done
use Rattle.tw_exec.proofs.executive.Executive.harvest.Given.{Over}
use Rattle.tw_exec.proofs.executive.Executive.harvest.Goals as goal

same : (g : Over) (c : goal.After-self-3-1 g) → c.index.result.now ≡ c.index_mut.result.now
same g c =
    let ps = c.self.inside.processes in
    let near : c.args.component < length ps.items = omega (arith, c.if-component-len.false, c.len.ensures, c.self.inside.processes.ok.0) in
    same_Some c.index.result.now c.index_mut.result.now
    (sym (slice_get_read ps.items _ c.args.component c.index.result.now ps.ok.0 (omega (arith, near, ps.ok.0)) c.index.ensures)
    ∙ slice_get_read ps.items _ c.args.component c.index_mut.result.now ps.ok.0 (omega (arith, near, ps.ok.0)) c.index_mut.ensures.value)

column_at : (g : Over) (c : goal.After-self-3-1 g) → slice_get c.self.inside.columns.items c.args.component ≡ Some c.index_mut-column.result.now
column_at g c =
    let columns = c.self.inside.columns in
    slice_get_read columns.items _ c.args.component c.index_mut-column.result.now columns.ok.0 (omega (arith, c.if-component-len.false, c.len.ensures, c.self.inside.processes.ok.0, columns.ok.0, as_many_columns c.self.invariant.0)) c.index_mut-column.ensures.value

acted : (g : Over) (c : goal.After-self-3-1 g) → IsActed g.M.Atomic.meaning (arc_value c.self.inside.network) c.self.inside.until c.self.inside.end c.self.inside.gvt c.self.inside.gvt c.self.inside.processes.items (slice_set c.self.inside.processes.items c.args.component c.harvest.new.process) c.self.inside.mail.boxes c.self.inside.mail.boxes c.self.inside.columns.items (slice_set c.self.inside.columns.items c.args.component c.harvest.new.column) (Harvest c.args.component) (Ok (Harvested c.in_ok-committed.committed))
acted g c =
    let ps = c.self.inside.processes in
    let old = c.index_mut.result.now in
    let at = slice_get_read ps.items _ c.args.component old ps.ok.0 (omega (arith, c.if-component-len.false, c.len.ensures, c.self.inside.processes.ok.0)) c.index_mut.ensures.value in
    let column = c.in_ok-committed.ensures.column ∙ ap (λ l. l ++ records_of (take (steps_before c.self.inside.gvt old.process.history) old.process.history)) (sym (get_or_from_slice_get c.self.inside.columns.items c.args.component c.index_mut-column.result.now [] (column_at g c))) in
    let done = harvest_acted c.self.invariant.0 c.args.component old c.harvest.new.process c.harvest.new.column at c.in_ok-committed.ensures.harvested column in
    subst (λ k. IsActed g.M.Atomic.meaning (arc_value c.self.inside.network) c.self.inside.until c.self.inside.end c.self.inside.gvt c.self.inside.gvt c.self.inside.processes.items (slice_set c.self.inside.processes.items c.args.component c.harvest.new.process) c.self.inside.mail.boxes c.self.inside.mail.boxes c.self.inside.columns.items (slice_set c.self.inside.columns.items c.args.component c.harvest.new.column) (Harvest c.args.component) (Ok (Harvested k))) (sym c.in_ok-committed.ensures.count) done

pub invariant_of-self-2 : goal.invariant_of-self-2
invariant_of-self-2 g c =
    let history = c.index_mut.result.now.process.history in
    let n : c.steps_before-count.result ≡ steps_before c.self.inside.gvt history = c.steps_before-count.ensures.count ∙ ap (λ p. steps_before c.self.inside.gvt p.process.history) (same g c) in
    let within : c.steps_before-count.result ≤ length history = omega (arith, c.steps_before-count.ensures.within, ap (λ p. length p.process.history) (same g c)) in
    let added : c.in-Some.records ≡ c.self.inside.records + c.steps_before-count.result = search rules in
    let column = c.in_ok-committed.ensures.column ∙ ap (λ k. c.index_mut-column.result.now ++ records_of (take k history)) (sym n) in
    ((acted g c).held, added ∙ counted c.self.inside.columns.items c.args.component c.steps_before-count.result c.self.inside.records c.index_mut-column.result.now c.harvest.new.column history (column_at g c) within column c.self.invariant.1)

pub returns-then-component-len : goal.returns-then-component-len
returns-then-component-len g c =
    let refused_is = ap (λ e. answer g.M.Atomic.meaning (Harvest c.args.component) e) (sym c.self.view_is)
    ∙ ap (λ x. x.0) (harvest_none g.M.Atomic.meaning (arc_value c.self.inside.network) c.self.inside.until c.self.inside.gvt c.self.inside.processes.items c.self.inside.mail.boxes c.self.inside.columns.items c.args.component (omega (arith, c.if-component-len.true, c.len.ensures, c.self.inside.processes.ok.0))) in
    record {
      acted = record {
        done = search rules;
        answer = search rules;
        refused = refused_is;
        exact = exact_known g.M.Atomic.meaning (Harvest c.args.component) c.args.self.now refused.NoSuch theory.NoSuch refl refused_is;
        full = search rules;
        stays = search rules;
      };
    }

pub returns : goal.returns
returns g c =
    let answer_is = ap (λ e. answer g.M.Atomic.meaning (Harvest c.args.component) e) (sym c.self.view_is) ∙ ap (λ x. x.0) (acted g c).acts in
    record {
      acted = record {
        done = ap (λ x. record { network = arc_value c.self.inside.network; until = c.self.inside.until; world = x.1 }) (sym (acted g c).acts) ∙ ap (λ e. after g.M.Atomic.meaning (Harvest c.args.component) e) c.self.view_is;
        answer = answer_is;
        refused = search rules;
        exact = exact_taken g.M.Atomic.meaning (Harvest c.args.component) c.args.self.now (done.Harvested c.in_ok-committed.committed) answer_is;
        full = search rules;
        stays = search rules;
      };
    }

pub returns-in_default : goal.returns-in_default
returns-in_default g c =
    record {
      acted = record {
        done = search rules;
        answer = search rules;
        refused = search rules;
        exact = subst (λ e. AreExact g.M.Atomic.meaning (Harvest c.args.component) e (Err refused.OutOfMemory)) c.self.view_is
            (harvest_exact c.self.invariant.0 refused.OutOfMemory refl c.args.component (omega (arith, c.if-component-len.false, c.len.ensures, c.self.inside.processes.ok.0)));
        full = search rules;
        stays = search rules;
      };
    }

pub returns-in_err-committed : goal.returns-in_err-committed
returns-in_err-committed g c =
    let p = err_from_is_err_and c.from_residual.result c.from_residual.ensures.1 in
    let ps = c.self.inside.processes in
    let old = c.index_mut.result.now in
    let at = slice_get_read ps.items _ c.args.component old ps.ok.0 (omega (arith, c.if-component-len.false, c.len.ensures, c.self.inside.processes.ok.0)) c.index_mut.ensures.value in
    let columns = c.self.inside.columns in
    let column = slice_get_read columns.items _ c.args.component c.index_mut-column.result.now columns.ok.0 (omega (arith, c.if-component-len.false, c.len.ensures, c.self.inside.processes.ok.0, columns.ok.0, as_many_columns c.self.invariant.0)) c.index_mut-column.ensures.value in
    let processes = set_back ps.items c.args.component old c.harvest.new.process at c.in_err-committed.ensures.stays in
    let same_columns = set_back columns.items c.args.component c.index_mut-column.result.now c.harvest.new.column column c.in_err-committed.ensures.column_stays in
    record {
      acted = record {
        done = search rules;
        answer = search rules;
        refused = search rules;
        exact = rw (p.1, p.2)
            (subst (λ e. AreExact g.M.Atomic.meaning (Harvest c.args.component) e (Err refused.OutOfMemory)) c.self.view_is
            (harvest_exact c.self.invariant.0 refused.OutOfMemory refl c.args.component (omega (arith, c.if-component-len.false, c.len.ensures, c.self.inside.processes.ok.0))));
        full = search rules;
        stays = rw (p.1) ((λ i. record { network = arc_value c.self.inside.network; until = c.self.inside.until; world = shown (processes i) c.self.inside.mail.boxes (same_columns i) c.self.inside.gvt }) ∙ c.self.view_is);
      };
    }

pub index_mut-column-requires : goal.index_mut-column-requires
index_mut-column-requires g c = omega (arith, c.if-component-len.false, c.len.ensures, c.self.inside.processes.ok.0, c.self.inside.columns.ok.0, as_many_columns c.self.invariant.0)
