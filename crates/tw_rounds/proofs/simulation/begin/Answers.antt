-- Nothing was handed over yet.
use Rattle.std.proofs.Common.{arith}
use Rattle.tw_rounds.proofs.Parted.{part_begun}
use Rattle.tw_rounds.proofs.simulation.begin.Goals as goal

pub returns-clause-begun : goal.returns-clause-begun
returns-clause-begun g c = record {
  part = part_begun g.M.Atomic.valid g.M.Atomic.meaning c.args.network.now c.args.until c.in_ok-run.run' (let small = c.if-until-gt-MAX_TICK.false in omega (arith, small)) c.in_ok-run.ensures.run c.in_ok-run.ensures.underway;
  agenda = c.in_ok-bench.ensures.agenda;
  empty = c.in_ok-bench.ensures.bags;
}
