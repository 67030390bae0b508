use Rattle.std.proofs.Common.{rules, ◌≡◌, true, false}
use Rattle.std.specs.List.Sorted.{IsPartitionPoint}
use Rattle.std.proofs.lemmas.List.Sorted.{IsPartitionPoint-from_clause}
use Rattle.tw_network.proofs.RouteOrder.{stands_before, is_partitioned, start_at}
use Rattle.tw_network.proofs.routes.start_of.Goals as goal

pub returns : goal.returns
returns c =
    let found : IsPartitionPoint (λ k. stands_before c.args.component c.args.port k ≡ true) (λ k. stands_before c.args.component c.args.port k ≡ false) c.args.sorted.now c.partition_point.result =
    IsPartitionPoint-from_clause (stands_before c.args.component c.args.port) c.args.sorted.now c.partition_point.result c.partition_point.ensures.partitioned
    (is_partitioned c.args.component c.args.port c.args.sorted.now c.requires.port c.requires.ports c.requires.in_order)
    (λ a r f called. search rules) in
    start_at c.args.component c.args.port c.args.sorted.now c.partition_point.result c.requires.port c.requires.ports c.partition_point.ensures.bound found
