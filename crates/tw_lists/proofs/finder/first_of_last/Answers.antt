use Rattle.std.proofs.Common.{rules, ◌+◌, IfSome, arith, sym, subst, ◌∙◌}
use Rattle.tw_pool.specs.Lists.{IsLive}
use Rattle.tw_pool.proofs.MovesToEnd.{Walked, walk_live, walk_step, walk_never}
use Rattle.tw_lists.proofs.finder.first_of_last.Goals.{in-Some, in_default}
use Rattle.tw_lists.proofs.finder.first_of_last.Goals as goal

pub prev-before-requires : goal.prev-before-requires
prev-before-requires c = (
  search rules,
  walk_live c.args.pool.now.lists c.args.list c.loop.counter c.in-Some.index _ c.lists_law.ensures.distinct (omega (arith, c.requires.list, c.lists_law.ensures.count)) (omega (arith, c.requires.n))
      (subst (λ b. Walked c.args.pool.now.lists c.args.list c.loop.counter c.loop.first b) c.in-Some.is c.loop.invariant.walked),
)

pub loop-preserved : goal.loop-preserved
loop-preserved c =
    let lists = c.args.pool.now.lists in
    elim c.match-before.branch [
      | in-Some w ↦
          let here = subst (λ b. Walked lists c.args.list c.loop.counter c.loop.first b) w.in-Some.is c.loop.invariant.walked in
          record {
            walked = subst (λ f. Walked lists c.args.list (c.loop.counter + 1) f c.match-before.before) (sym w.first-is)
                (walk_step lists c.args.list c.loop.counter w.in-Some.index c.loop.first c.match-before.before c.lists_law.ensures.distinct (omega (arith, c.requires.list, c.lists_law.ensures.count)) (omega (arith, c.requires.n)) here
                (w.before-is ∙ w.prev-before.ensures.value));
            live = subst (λ o. IfSome o (λ index. IsLive index lists)) (sym w.first-is)
                (walk_live lists c.args.list c.loop.counter w.in-Some.index _ c.lists_law.ensures.distinct (omega (arith, c.requires.list, c.lists_law.ensures.count)) (omega (arith, c.requires.n)) here);
          }
      | in_default w ↦ absurd (walk_never c.args.pool.now.lists c.args.list c.loop.counter c.loop.first (omega (arith, c.requires.n))
          (subst (λ b. Walked c.args.pool.now.lists c.args.list c.loop.counter c.loop.first b) w.in_default.is c.loop.invariant.walked))
    ]
