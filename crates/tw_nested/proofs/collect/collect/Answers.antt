use Rattle.std.proofs.Common.{arith}
use Rattle.tw_nested.proofs.Collecting.{too_many, now_reached, not_reached, flat_here, not_flat_here}
use Rattle.tw_nested.proofs.collect.collect.Goals as goal
use Rattle.tw_nested.proofs.collect.collect.Goals.{then-seen-in_of+else-len-ge-MAX_COUPLINGS+in_ok-push, else-seen-in_of}

pub returns-then-len-ge-MAX_COUPLINGS-clause-err : goal.returns-then-len-ge-MAX_COUPLINGS-clause-err
returns-then-len-ge-MAX_COUPLINGS-clause-err c = λ _.
    too_many c.args.count c.args.edges.now c.args.atoms.now c.loop-to.flat.items c.args.from c.loop-to.to
    (omega (arith, c.if-len-ge-MAX_COUPLINGS.true, c.len.ensures))
    (flat_here c.args.count c.args.edges.now c.args.atoms.now c.args.seen.now c.args.from c.loop-to.to c.in_of.result c.requires.atoms c.requires.from c.loop-to-test.true c.requires.seen c.in_of.ensures c.if-seen-in_of.true)
    c.loop-to.invariant

pub loop-to-preserved : goal.loop-to-preserved
loop-to-preserved c = elim c.if-seen-in_of.branch [
  | then-seen-in_of+else-len-ge-MAX_COUPLINGS+in_ok-push w ↦ (rw (w.flat-is, w.in_ok-push.ensures.items)
      (now_reached c.args.count c.args.edges.now c.args.atoms.now c.loop-to.flat.items c.args.from c.loop-to.to
      (omega (arith, w.if-len-ge-MAX_COUPLINGS.false, w.len.ensures))
      (flat_here c.args.count c.args.edges.now c.args.atoms.now c.args.seen.now c.args.from c.loop-to.to c.in_of.result c.requires.atoms c.requires.from c.loop-to-test.true c.requires.seen c.in_of.ensures w.if-seen-in_of.true)
      c.loop-to.invariant))
  | else-seen-in_of w ↦ (rw w.flat-is
      (not_reached c.args.count c.args.edges.now c.args.atoms.now c.loop-to.flat.items c.args.from c.loop-to.to
      (not_flat_here c.args.count c.args.edges.now c.args.atoms.now c.args.seen.now c.args.from c.loop-to.to c.in_of.result c.requires.atoms c.requires.from c.loop-to-test.true c.requires.seen c.in_of.ensures w.if-seen-in_of.false)
      c.loop-to.invariant))
]
