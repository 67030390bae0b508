use Rattle.std.proofs.Common.{subst}
use Rattle.tw_exchange.specs.Ends.{IsOver}
use Rattle.tw_exchange.proofs.Ended.{complete_all, complete_end, fault_all, fault_end}
use Rattle.tw_exchange.proofs.outcome.outcome_of.Goals as goal

pub returns-in-Complete-clause-outcome : goal.returns-in-Complete-clause-outcome
returns-in-Complete-clause-outcome g c =
    let e = c.args.executive in
    let trace = c.in-Ok.trace.items in
    let state = subst (λ end. IsOver g.M.Atomic.meaning e end) c.in-Complete.is c.requires in
    record {
      end = complete_end g.M.Atomic.meaning e c.facts.ensures trace state c.in-Ok.ensures.sequential;
      committed = complete_all g.M.Atomic.meaning e c.facts.ensures trace state c.in-Ok.ensures.merged;
    }

pub returns-in-Fault-clause-outcome : goal.returns-in-Fault-clause-outcome
returns-in-Fault-clause-outcome g c =
    let e = c.args.executive in
    let trace = c.in-Ok.trace.items in
    let over = subst (λ end. IsOver g.M.Atomic.meaning e end) c.in-Fault.is c.requires in
    record {
      end = fault_end g.M.Atomic.meaning e c.facts.ensures c.in-Fault.fault trace over.1 over.0 c.in-Ok.ensures.sequential;
      committed = fault_all g.M.Atomic.meaning e c.facts.ensures c.in-Fault.fault trace over.1 over.0 c.in-Ok.ensures.merged;
    }
