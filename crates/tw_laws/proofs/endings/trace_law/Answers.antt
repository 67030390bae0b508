use Rattle.tw_laws.proofs.Traces.{one_trace, trace_law}
use Rattle.tw_laws.proofs.endings.trace_law.Goals as goal

pub returns-clause-one : goal.returns-clause-one
returns-clause-one g c = one_trace

pub returns-clause-sequential : goal.returns-clause-sequential
returns-clause-sequential g c = trace_law
