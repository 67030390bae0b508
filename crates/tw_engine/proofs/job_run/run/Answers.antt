use Rattle.std.proofs.Common.{inl}
use Rattle.tw_engine.proofs.Passing.{on_err}
use Rattle.tw_engine.proofs.Showing.{no_run, run_of_worked}
use Rattle.tw_engine.specs.Runs.{IsRunByWorkers}
use Rattle.tw_engine.proofs.job_run.run.Goals as goal

pub returns : goal.returns
returns g c = run_of_worked c.args.bytes.now c.args.plan.cancel c.args.plan.until c.in_ok-network.network c.run_network.result _ _ c.in_ok-network.ensures.ok c.run_network.ensures

pub returns-in_err-network : goal.returns-in_err-network
returns-in_err-network g c =
    let bytes = c.args.bytes.now in
    let old = g.W.Write.contents c.args.out.now in
    let why = c.in_err-network.field-0.0 in
    on_err (λ end. IsRunByWorkers bytes c.args.plan.cancel c.args.plan.until end old old) c.from_residual.result why c.from_residual.ensures.1
    (inl (no_run bytes c.args.plan.until why old c.in_err-network.ensures.err))
