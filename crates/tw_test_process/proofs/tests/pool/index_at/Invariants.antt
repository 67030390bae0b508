use Rattle.std.specs.Prelude.{IfSome}
use Rattle.tw_pool.specs.Lists.{IsLive}
use Rattle.tw_test_process.proofs.tests.pool.index_at.Given as goal

abbrev pub invariant-loop : goal.invariant-loop
invariant-loop l = record { live : IfSome l.at (λ index. IsLive index l.pool.lists) }
