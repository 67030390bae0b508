use Rattle.std.proofs.Common.{◌<◌, true, false, slice_index_or, arith, replicate, length, ◌∙◌}
use Rattle.std.proofs.lemmas.List.{length-replicate, length-set}
use Rattle.tw_nested.specs.Reach.{Edge}
use Rattle.tw_nested.proofs.Passes.{first_pass, closed_at_seen, closed_at_unseen, all_seen, seen_by_read, unseen_by_read}
use Rattle.tw_nested.proofs.reach.reached.Goals as goal
use Rattle.tw_nested.proofs.reach.reached.Goals.{then-index, else-index}

pub loop-from-init : goal.loop-from-init
loop-from-init c =
    rw (c.in_ok-seen.ensures.items_if_clones_equal (λ y e. e))
    (length-set (replicate c.args.count false) c.args.start true ∙ length-replicate c.args.count false, first_pass c.args.edges.now c.args.count c.args.start c.requires.start)

pub loop-from-preserved : goal.loop-from-preserved
loop-from-preserved c =
    let e : Edge = slice_index_or c.args.edges.now c.loop-from.from-index (0, 0) in
    let all = c.requires.within c.loop-from.from-index (0, 0) c.loop-from-test.true in
    let from : e.0 < length c.loop-from.seen.items = omega (arith, all.from, c.loop-from.invariant.0) in
    let to : e.1 < length c.loop-from.seen.items = omega (arith, all.to, c.loop-from.invariant.0) in
    elim c.if-index.branch [
      | then-index w ↦ (rw w.seen-is (
        length-set c.loop-from.seen.items e.1 true ∙ c.loop-from.invariant.0,
        closed_at_seen c.args.edges.now c.args.start c.loop-from.seen.items c.loop-from.from-index (0, 0) c.requires.rises c.loop-from-test.true to (seen_by_read c.loop-from.seen.items e.0 c.index.result.now from c.index.ensures w.if-index.true) c.loop-from.invariant.1,
      ))
      | else-index w ↦ (rw w.seen-is (
        c.loop-from.invariant.0,
        closed_at_unseen c.args.edges.now c.args.start c.loop-from.seen.items c.loop-from.from-index (0, 0) c.loop-from-test.true (unseen_by_read c.loop-from.seen.items e.0 c.index.result.now from c.index.ensures w.if-index.false) c.loop-from.invariant.1,
      ))
    ]

pub returns-clause-exact : goal.returns-clause-exact
returns-clause-exact c = λ v lt. (
  c.loop-from.invariant.1.sound v,
  λ r. all_seen c.args.edges.now c.args.start c.loop-from.seen.items c.loop-from.invariant.1.first (λ j d below. c.loop-from.invariant.1.closed j d (omega (arith, below, c.loop-from-test.false))) v r,
)
