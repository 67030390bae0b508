use Rattle.tw_engine.proofs.Showing.{demo_of_worked}
use Rattle.tw_engine.proofs.job_demo.demo.Goals as goal

pub returns : goal.returns
returns g c = demo_of_worked c.in_ok-network.network c.run_network.result _ _ c.in_ok-network.ensures c.run_network.ensures
