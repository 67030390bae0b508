use Rattle.std.proofs.Common.{arith}
use Rattle.tw_tournament.proofs.Winning.{double_power}
use Rattle.tw_tournament.proofs.tournament.row_of.Goals as goal

pub loop-row-preserved : goal.loop-row-preserved
loop-row-preserved c =
    let some = c.loop-row.invariant.some in
    let more = c.loop-row-test.true in
    record {
      some = omega arith;
      bound = omega arith;
      power = double_power c.loop-row.row c.loop-row.invariant.power;
    }
