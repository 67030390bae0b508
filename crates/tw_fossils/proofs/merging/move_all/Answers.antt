use Rattle.std.proofs.Common.{length, vec_capacity, refl, ap, sym, subst₂, ◌∙◌}
use Rattle.tw_fossils.proofs.Taking.{all_taken, merging_from}
use Rattle.tw_fossils.specs.Merging.{IsReady}
use Rattle.tw_fossils.proofs.merging.move_all.Goals as goal

pub loop-next-init : goal.loop-next-init
loop-next-init c =
    let all = c.as_queues-left.ensures in record {
      ready = subst₂ (λ left n. IsReady c.args.line left c.args.room.heads.times n (vec_capacity c.args.room.trace)) (sym all)
          (ap length (sym c.requires.none_taken) ∙ sym c.args.room.trace.ok.0) c.requires.heads;
      merging = merging_from c.args.line c.args.columns.items _ c.args.room.trace.items all c.requires.none_taken c.requires.columns;
    }

pub loop-next-preserved : goal.loop-next-preserved
loop-next-preserved c = record {
  ready = c.move_first.ensures.ready;
  merging = c.move_first.ensures.merging c.args.columns.items c.loop-next.invariant.merging;
}

pub returns-clause-records : goal.returns-clause-records
returns-clause-records c =
    (all_taken c.args.line c.args.columns.items _ c.loop-next.trace.items c.loop-next.heads.times c.facts.ensures c.loop-next.invariant.ready.heads_are (c.in_default.ensures.none refl) c.loop-next.invariant.merging).1
