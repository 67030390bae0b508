-- Of one column more those before the line are counted, since it is in order.
use Rattle.std.proofs.Common.{rules, ◌≡◌, ◌+◌, true, false, length, ap, sym, subst, arith}
use Rattle.std.specs.List.Sorted.{IsPartitionPoint}
use Rattle.std.specs.Prelude.{nat_lt}
use Rattle.std.proofs.lemmas.List.Sorted.{IsPartitionedBy-ltb, IsPartitionPoint-from_clause}
use Rattle.tw_fossils.proofs.Counting.{column_at, counted, in_order, to_take_more}
use Rattle.std.proofs.lemmas.Grind.{common_steps}
use Rattle.tw_fossils.specs.Columns.{IsRising}
use Rattle.tw_theory.specs.Traces.{before}
use Rattle.tw_fossils.proofs.first.count_before.Goals as goal

pub loop-column-preserved : goal.loop-column-preserved
loop-column-preserved c =
    let column = c.column-item.result in
    let i = c.loop-column.column-index in
    let n = c.partition_point-more.result in
    let line = c.args.line in
    let rising = column_at 0 i c.args.columns.now column c.requires c.loop-column-test.true c.column-item.is in
    let found : IsPartitionPoint (λ r. nat_lt r.stamp line ≡ true) (λ r. nat_lt r.stamp line ≡ false) c.records.result.now n =
    IsPartitionPoint-from_clause (λ r. nat_lt r.stamp line) c.records.result.now n c.partition_point-more.ensures.partitioned
    (IsPartitionedBy-ltb (λ r. r.stamp) c.records.result.now line (in_order c.records.result.now (subst IsRising (sym c.records.ensures) rising)))
    (λ a r f called. search rules) in
    let one : length (before line c.records.result.now) ≡ n = counted (λ r. nat_lt r.stamp line) c.records.result.now n c.partition_point-more.ensures.bound found in
    let sum : c.in_ok-count.count ≡ c.loop-column.count + n = grind (arith, common_steps) in
    omega (arith, sum, one, ap (λ rs. length (before line rs)) c.records.ensures, c.loop-column.invariant, to_take_more line i c.args.columns.now column c.loop-column-test.true c.column-item.is)
