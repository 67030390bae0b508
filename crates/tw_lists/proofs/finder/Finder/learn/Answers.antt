use Rattle.std.proofs.Common.{rules, ◌-◌, ap, sym, subst, ◌∙◌, arith}
use Rattle.std.proofs.lemmas.Option.{same_Some}
use Rattle.tw_pool.specs.Lists.{list_at}
use Rattle.tw_lists.proofs.Learning.{FindsAt, finds_as, finds_from, learn_step}
use Rattle.tw_lists.proofs.finder.Finder.learn.Goals as goal

pub loop-preserved : goal.loop-preserved
loop-preserved c =
    let lists = c.args.pool.now.lists in
    let nodes = list_at lists c.args.list in
    let here = subst (λ at. FindsAt c.loop.self.known c.loop.self.late nodes at) c.in-Some.is c.loop.invariant.finds in
    let step = learn_step c.loop.self.known c.loop.self.late lists c.args.list c.in-Some.index c.lists_law.ensures.distinct (omega (arith, c.requires.list, c.lists_law.ensures.count)) here in
    let item = same_Some step.item c.get.result.now (sym step.got ∙ c.get.ensures) in
    let knows = c.if-not-learn_one.ensures.yes (search rules) step.front step.item (ap (λ x. x.message) item) step.knows in
    record {
      finds = subst (λ at. FindsAt c.learn_one.new.known (c.loop.self.late - 1) nodes at) (sym c.next-at.ensures.value) (step.more c.learn_one.new.known knows);
      live = c.next-at.ensures.live;
    }

pub loop-init : goal.loop-init
loop-init c = record {
  finds = finds_from c.args.self.now.known c.args.self.now.late (list_at c.args.pool.now.lists c.args.list) c.first_of_last-at.result c.requires.finds c.first_of_last-at.ensures.first;
  live = c.first_of_last-at.ensures.live;
}

pub returns-then-not-learn_one : goal.returns-then-not-learn_one
returns-then-not-learn_one c =
    let w = c.loop.invariant.finds in
    finds_as c.learn_one.new.known c.loop.self.late (list_at c.args.pool.now.lists c.args.list) c.loop.at
    (record { front = w.front; back = w.back; split = w.split; late_is = w.late_is; knows = c.learn_one.ensures.no c.if-not-learn_one.true w.front w.knows; at_is = w.at_is })
