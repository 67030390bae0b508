use Rattle.tw_pool.specs.Lists.{item_of}
use Rattle.std.proofs.Common.{rules, ◌+◌, arith, sym, subst, ap, ◌∙◌}
use Rattle.tw_pool.proofs.MovesToEnd.{Walked, Spliced, walk_live, walk_step, walk_never, splice_live, splice_step, splice_never, splice_done}
use Rattle.tw_pool.proofs.lists.Pool.relink_last.Goals.{in-Some, in_default, in-Some-first, in_default-first}
use Rattle.tw_pool.proofs.lists.Pool.relink_last.Goals as goal

pub prev-before-requires : goal.prev-before-requires
prev-before-requires g c = (
  search rules,
  walk_live c.args.self.now.lists c.args.from c.loop.counter c.in-Some.index _ c.lists_law.ensures.distinct (omega (arith, c.requires.from, c.lists_law.ensures.count)) (omega (arith, c.requires.count))
      (subst (λ b. Walked c.args.self.now.lists c.args.from c.loop.counter c.loop.first b) c.in-Some.is c.loop.invariant.walked),
)

pub loop-preserved : goal.loop-preserved
loop-preserved g c =
    elim c.match-before.branch [
      | in-Some w ↦ record {
        walked = subst (λ f. Walked c.args.self.now.lists c.args.from (c.loop.counter + 1) f c.match-before.before) (sym w.first-is)
            (walk_step c.args.self.now.lists c.args.from c.loop.counter w.in-Some.index c.loop.first c.match-before.before c.lists_law.ensures.distinct (omega (arith, c.requires.from, c.lists_law.ensures.count)) (omega (arith, c.requires.count))
            (subst (λ b. Walked c.args.self.now.lists c.args.from c.loop.counter c.loop.first b) w.in-Some.is c.loop.invariant.walked)
            (w.before-is ∙ w.prev-before.ensures.value));
      }
      | in_default w ↦ absurd (walk_never c.args.self.now.lists c.args.from c.loop.counter c.loop.first (omega (arith, c.requires.count))
          (subst (λ b. Walked c.args.self.now.lists c.args.from c.loop.counter c.loop.first b) w.in_default.is c.loop.invariant.walked))
    ]

pub next-first-requires : goal.next-first-requires
next-first-requires g c = (
  search rules,
  splice_live c.args.self.now.lists c.loop-2.self.lists c.args.from c.args.to c.args.count c.loop-2.counter c.in-Some-first.index c.lists_law-in-loop-2.ensures.distinct (omega (arith, c.requires.from, c.lists_law.ensures.count))
      (subst (λ b. Spliced c.args.self.now.lists c.loop-2.self.lists c.args.from c.args.to c.args.count c.loop-2.counter b) c.in-Some-first.is c.loop-2.invariant.spliced),
)

pub relink-requires : goal.relink-requires
relink-requires g c = (
  search rules,
  (
    splice_live c.args.self.now.lists c.loop-2.self.lists c.args.from c.args.to c.args.count c.loop-2.counter c.in-Some-first.index c.lists_law-in-loop-2.ensures.distinct (omega (arith, c.requires.from, c.lists_law.ensures.count))
        (subst (λ b. Spliced c.args.self.now.lists c.loop-2.self.lists c.args.from c.args.to c.args.count c.loop-2.counter b) c.in-Some-first.is c.loop-2.invariant.spliced),
    c.requires.to,
  ),
)

pub loop-2-preserved : goal.loop-2-preserved
loop-2-preserved g c =
    elim c.match-first.branch [
      | in-Some-first w ↦ record {
        spliced = subst (λ p. Spliced c.args.self.now.lists p.lists c.args.from c.args.to c.args.count (c.loop-2.counter + 1) c.match-first.first) (sym w.self-is)
            (splice_step c.args.self.now.lists c.loop-2.self.lists w.relink.new.self.lists c.args.from c.args.to c.args.count c.loop-2.counter w.in-Some-first.index c.match-first.first
            c.requires.other (omega (arith, c.requires.from, c.lists_law.ensures.count)) (omega (arith, c.requires.to, c.lists_law.ensures.count)) c.lists_law-in-loop-2.ensures.distinct
            (subst (λ b. Spliced c.args.self.now.lists c.loop-2.self.lists c.args.from c.args.to c.args.count c.loop-2.counter b) w.in-Some-first.is c.loop-2.invariant.spliced)
            w.relink.ensures.lists (w.first-is ∙ w.next-first.ensures.value));
        items = λ each. ap (λ p. item_of each p.lists) w.self-is ∙ w.relink.ensures.items each ∙ c.loop-2.invariant.items each;
        room = ap (λ p. p.room) w.self-is ∙ w.relink.ensures.room ∙ c.loop-2.invariant.room;
        top = ap (λ p. p.top) w.self-is ∙ w.relink.ensures.top ∙ c.loop-2.invariant.top;
      }
      | in_default-first w ↦ absurd (splice_never c.args.self.now.lists c.loop-2.self.lists c.args.from c.args.to c.args.count c.loop-2.counter (omega arith) c.requires.count
          (subst (λ b. Spliced c.args.self.now.lists c.loop-2.self.lists c.args.from c.args.to c.args.count c.loop-2.counter b) w.in_default-first.is c.loop-2.invariant.spliced))
    ]

pub returns-clause-lists : goal.returns-clause-lists
returns-clause-lists g c =
    splice_done c.args.self.now.lists c.loop-2.self.lists c.args.from c.args.to c.args.count c.loop-2.counter c.loop-2.first c.requires.other (omega (arith, c.requires.from, c.lists_law.ensures.count)) (omega (arith, c.requires.to, c.lists_law.ensures.count)) c.requires.count (omega arith) c.loop-2.invariant.spliced
