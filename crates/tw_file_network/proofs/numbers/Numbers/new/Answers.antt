use Rattle.tw_file_network.proofs.Counting.{counted_more}
use Rattle.tw_file_network.proofs.numbers.Numbers.new.Goals as goal

pub loop-i-preserved : goal.loop-i-preserved
loop-i-preserved c = λ name.
    counted_more c.args.names.now c.loop-i.by_name c.insert.new.self name c.loop-i.i _ c.loop-i-test.true c.loop-i.auto.i
    c.in_ok-insert.ensures.updates (c.loop-i.invariant name)
