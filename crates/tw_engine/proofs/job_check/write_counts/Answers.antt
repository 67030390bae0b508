use Rattle.tw_engine.proofs.job_check.write_counts.Goals as goal

pub returns-in-Ok-clause-ok : goal.returns-in-Ok-clause-ok
returns-in-Ok-clause-ok g c = rw (c.len-components.ensures, c.couplings.ensures, c.inputs.ensures) at c.in-Ok.ensures.bytes
