use Rattle.std.proofs.Common.{◌∙◌, subst}
use Rattle.std.specs.Prelude.{IfOk}
use Rattle.tw_any_model.specs.AnyModel.{any_meaning}
use Rattle.tw_network.specs.Contents.{network_of}
use Rattle.tw_exchange.specs.Ends.{IsEnd}
use Rattle.tw_workers_progress.proofs.workers.run_by_workers.Goals as goal

pub returns-in-Ok-Fault-clause-records : goal.returns-in-Ok-Fault-clause-records
returns-in-Ok-Fault-clause-records g c =
    let e = c.args.executive in
    let met = c.in-Ok-Fault in
    let outcome = subst (λ r. IfOk r (IsEnd any_meaning e.network e.until)) met.is c.run_told-ended.ensures.outcome in
    let ended = subst (λ outcome. IsEnd any_meaning e.network e.until outcome) met.field-0-is outcome in
    ended.1 ∙ c.outcome_law.ensures.before_fault (network_of any_meaning e.network) e.until c.facts.ensures.network c.facts.ensures.bound met.fault ended.0
