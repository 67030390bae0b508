use Rattle.std.proofs.Common.{arith, refl, ap, ◌∙◌}
use Rattle.tw_pool.specs.Lists.{live_count, item_of}
use Rattle.tw_pool.proofs.LinkChanges.{others_holds}
use Rattle.tw_pool.proofs.LinksHold.{holds_is, holds_linked}
use Rattle.tw_pool.proofs.ListsByIndex.{item_of-without_other}
use Rattle.tw_pool.proofs.ListsSeen.{item_free}
use Rattle.tw_pool.proofs.lists.Pool.take.Goals as goal

pub invariant_of-self : goal.invariant_of-self
invariant_of-self g c =
    let holds = others_holds _ _ _ _ _ c.remove-item.ensures.updates c.unlink.ensures.free c.unlink.ensures.linked in
    let lists = ap live_count (holds_is _ _ _ holds) in
    let fewer = c.unlink.ensures.fewer in
    let same = c.unlink.ensures.same.len in
    let len = c.remove-item.ensures.len in
    let counted = c.self.invariant.counted in
    let limited = c.self.invariant.limited in
    record {
      linked = holds_linked _ _ _ holds;
      counted = omega arith;
      limited = omega arith;
    }

pub returns-clause-lists : goal.returns-clause-lists
returns-clause-lists g c =
    let holds = others_holds _ _ _ _ _ c.remove-item.ensures.updates c.unlink.ensures.free c.unlink.ensures.linked in
    rw (holds_is _ _ _ holds, c.unlink.ensures.lists, ← c.self.view_is) refl

pub returns-clause-gone : goal.returns-clause-gone
returns-clause-gone g c =
    let holds = others_holds _ _ _ _ _ c.remove-item.ensures.updates c.unlink.ensures.free c.unlink.ensures.linked in
    rw (holds_is _ _ _ holds) (item_free c.args.index _ c.unlink.ensures.free)

pub returns-clause-others : goal.returns-clause-others
returns-clause-others g c = λ other differs.
    ap (item_of other) (returns-clause-lists g c) ∙ item_of-without_other c.args.index other c.args.self.now.lists differs
