use Rattle.std.proofs.Common.{◌+◌, Some, ap, sym, subst, ◌∙◌, arith}
use Rattle.std.proofs.lemmas.Option.{same_Some}
use Rattle.tw_pool.specs.Lists.{list_at}
use Rattle.tw_vtime.specs.Stamps.{is_overdue}
use Rattle.tw_lists.proofs.Overdue.{ReadBack, back_begun, back_step}
use Rattle.tw_lists.proofs.reading.first_overdue.Goals as goal

pub loop-init : goal.loop-init
loop-init c = record { walked = back_begun c.args.pool.now.lists 5 c.last-before.result c.last-before.ensures.value; live = c.last-before.ensures.live }

pub returns-then-not-is_overdue : goal.returns-then-not-is_overdue
returns-then-not-is_overdue c =
    let lists = c.args.pool.now.lists in
    let s = c.args.next in
    let read = subst (λ o. ReadBack (list_at lists 5) c.loop.counter c.loop.first o) c.in-Some.is c.loop.invariant.walked in
    let at = back_step s lists 5 c.loop.counter c.in-Some.index c.loop.first c.lists_law.ensures.distinct (omega (arith, c.lists_law.ensures.count)) read in
    let item = same_Some at.item c.get.result.now (sym at.got ∙ c.get.ensures) in
    at.timely c.requires (ap (λ x. is_overdue x.message.stamp s) item ∙ sym c.is_overdue.ensures ∙ c.if-not-is_overdue.true)

pub loop-preserved : goal.loop-preserved
loop-preserved c =
    let lists = c.args.pool.now.lists in
    let read = subst (λ o. ReadBack (list_at lists 5) c.loop.counter c.loop.first o) c.in-Some.is c.loop.invariant.walked in
    let at = back_step c.args.next lists 5 c.loop.counter c.in-Some.index c.loop.first c.lists_law.ensures.distinct (omega (arith, c.lists_law.ensures.count)) read in
    record {
      walked = subst (λ o. ReadBack (list_at lists 5) (c.loop.counter + 1) (Some c.in-Some.index) o) (sym c.prev-before.ensures.value) at.on;
      live = c.prev-before.ensures.live;
    }
