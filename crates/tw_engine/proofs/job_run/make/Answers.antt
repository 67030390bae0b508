use Rattle.tw_engine.proofs.Showing.{given_up}
use Rattle.tw_engine.proofs.job_run.make.Goals as goal

pub returns-in-Err-clause-err : goal.returns-in-Err-clause-err
returns-in-Err-clause-err g c =
    given_up c.args.network c.args.plan.cancel c.args.plan.until c.in_ok-executive.executive c.in-Err.why c.in_ok-executive.ensures.start c.in-Err.ensures.err c.in-Err.ensures.full
