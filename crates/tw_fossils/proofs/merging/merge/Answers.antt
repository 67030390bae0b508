use Rattle.std.proofs.Common.{vec_len, vec_capacity, refl, sym, subst, arith}
use Rattle.tw_fossils.proofs.Taking.{all_taken, merging_from}
use Rattle.tw_fossils.specs.Merging.{IsReady}
use Rattle.tw_fossils.proofs.merging.merge.Goals as goal

pub loop-next-init : goal.loop-next-init
loop-next-init c =
    let all = c.in_ok-left.ensures in record {
      ready = subst (λ left. IsReady c.args.line left c.in_ok-heads.heads.times (vec_len c.in_ok-trace.trace) (vec_capacity c.in_ok-trace.trace)) (sym all) (record {
        heads_are = c.in_ok-heads.ensures;
        room = omega (arith, c.in_ok-trace.ensures.len, c.in_ok-trace.ensures.capacity, c.in_ok-count_before.ensures);
      });
      merging = merging_from c.args.line c.args.columns.now _ c.in_ok-trace.trace.items all c.in_ok-trace.ensures.items c.requires;
    }

pub loop-next-preserved : goal.loop-next-preserved
loop-next-preserved c = record {
  ready = c.in_ok-copy_first.ensures.ready;
  merging = c.in_ok-copy_first.ensures.merging c.args.columns.now c.loop-next.invariant.merging;
}

pub returns-clause-records : goal.returns-clause-records
returns-clause-records c =
    (all_taken c.args.line c.args.columns.now _ c.loop-next.trace.items c.loop-next.heads.times c.facts.ensures c.loop-next.invariant.ready.heads_are (c.in_default.ensures.none refl) c.loop-next.invariant.merging).1
