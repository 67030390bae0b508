use Rattle.std.proofs.Common.{refl}
use Rattle.std.specs.Fmt.{digits}
use Rattle.tw_engine.proofs.job_demo.demo_law.Goals as goal
use Rattle.tw_theory.specs.Transitions.{output, moved, transition}
use Rattle.tw_theory.specs.Simulator.{sequential, rounds, round}

pub returns : goal.returns
unfolding sequential rounds round output moved transition digits
returns c = refl
