use Rattle.std.proofs.Common.{◌≡◌, subst, rules}
use Rattle.std.specs.Arc.{arc_value}
use Rattle.std.specs.Prelude.{List}
use Rattle.tw_any_model.specs.AnyModel.{any_meaning}
use Rattle.tw_engine.proofs.Passing.{on_err}
use Rattle.tw_engine.proofs.Showing.{unmade, worked_whole}
use Rattle.tw_engine.specs.Runs.{IsShown, IsWorked}
use Rattle.tw_exec.specs.Running.{start}
use Rattle.tw_msgs.specs.declared.record.Record.{Record}
use Rattle.tw_engine.proofs.job_run.run_network.Goals as goal

pub returns-in_ok-made-in-Some : goal.returns-in_ok-made-in-Some
returns-in_ok-made-in-Some g c =
    let made = c.in_ok-made-in-Some.made in
    let old = g.W.Write.contents c.args.out.now in
    let new = g.W.Write.contents c.write_made.new.out in
    let same : c.deref.result.now ≡ arc_value made.network = search rules in
    let listed = subst (λ (rs : List Record). IsShown c.deref.result.now rs made.fault c.write_made.result old new) c.as_slice-records.ensures.value c.write_made.ensures in
    worked_whole c.args.network c.args.plan.cancel c.args.plan.until made c.write_made.result old new c.in_ok-made-in-Some.ensures.network c.in_ok-made-in-Some.ensures.whole
    (subst (λ n. IsShown n made.records.items made.fault c.write_made.result old new) same listed)

pub returns-in_err-made-in-Some : goal.returns-in_err-made-in-Some
returns-in_err-made-in-Some g c =
    let old = g.W.Write.contents c.args.out.now in
    on_err (λ end. IsWorked (start any_meaning c.args.network c.args.plan.cancel c.args.plan.until) end old old) c.from_residual.result c.in_err-made-in-Some.field-0.0 c.from_residual.ensures.1
    (unmade c.args.network c.args.plan.cancel c.args.plan.until c.in_err-made-in-Some.field-0.0 old c.in_err-made-in-Some.ensures.err)
