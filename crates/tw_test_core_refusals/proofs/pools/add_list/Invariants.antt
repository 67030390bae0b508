use Rattle.std.specs.Prelude.{IfSome}
use Rattle.tw_pool.specs.Lists.{IsLive}
use Rattle.tw_test_core_refusals.proofs.pools.add_list.Given as goal

abbrev pub invariant-loop : goal.invariant-loop
invariant-loop l = record { live : IfSome l.at (λ index. IsLive index l.pool.lists) }
