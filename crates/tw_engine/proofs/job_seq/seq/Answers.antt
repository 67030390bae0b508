use Rattle.tw_engine.proofs.Showing.{run_of_ordered}
use Rattle.tw_engine.proofs.job_seq.seq.Goals as goal

pub returns : goal.returns
returns g c = run_of_ordered c.args.bytes.now c.args.until c.in_ok-network.network c.simulate.result _ _ c.in_ok-network.ensures.ok c.simulate.ensures
