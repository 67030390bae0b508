use Rattle.tw_engine.proofs.job_stats.write_up.Goals as goal

pub returns-in-Ok : goal.returns-in-Ok
returns-in-Ok g c = (c.in_ok-line.ensures, c.in-Ok.ensures.written)
