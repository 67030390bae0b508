use Rattle.std.proofs.Common.{◌≡◌, ◌+◌, IfSome, ap, sym, subst, ◌∙◌, arith}
use Rattle.std.proofs.lemmas.Map.Keys.{ge_from_not_lt}
use Rattle.std.proofs.lemmas.Option.{same_Some}
use Rattle.tw_pool.specs.Lists.{list_at, next_of, backward, IsLive}
use Rattle.tw_lists.proofs.Falling.{FallsBack, back_begun, back_step, back_never}
use Rattle.tw_lists.proofs.settling.top_of_last.Goals.{in-Some+else-lt, in_default}
use Rattle.tw_lists.proofs.settling.top_of_last.Goals as goal

pub loop-init : goal.loop-init
loop-init c = record { walked = back_begun c.args.pool.now.lists c.args.list 0 c.last-at.result c.last-at.ensures.value; live = c.last-at.ensures.live }

pub loop-preserved : goal.loop-preserved
loop-preserved c =
    let lists = c.args.pool.now.lists in
    let l = list_at lists c.args.list in
    let k = c.loop.counter in
    elim c.match-at.branch [
      | in-Some+else-lt w ↦
          let here = subst (λ o. FallsBack l k c.loop.top o) w.in-Some.is c.loop.invariant.walked in
          let at = back_step lists c.args.list k c.loop.top w.in-Some.index c.lists_law.ensures.distinct (omega (arith, c.requires.list, c.lists_law.ensures.count)) here in
          let stamp : at.item.message.stamp ≡ c.match-at.top = ap (λ x. x.message.stamp) (same_Some at.item w.get.result.now (sym at.got ∙ w.get.ensures)) ∙ sym w.top-is in
          let rises = ge_from_not_lt w.get.result.now.message.stamp c.loop.top (sym w.lt.ensures ∙ w.if-lt.false) in
          record {
            walked = subst (λ o. FallsBack l (k + 1) c.match-at.top o) (sym (w.at-is ∙ w.prev-at.ensures.value))
                (subst (λ s. FallsBack l (k + 1) s (next_of w.in-Some.index (backward lists))) stamp (at.on (omega (arith, rises, stamp, w.top-is))));
            live = subst (λ o. IfSome o (λ index. IsLive index lists)) (sym w.at-is) w.prev-at.ensures.live;
          }
      | in_default w ↦ absurd (back_never l k c.loop.top (omega (arith, c.requires.n, c.loop-test.true)) (subst (λ o. FallsBack l k c.loop.top o) w.in_default.is c.loop.invariant.walked))
    ]
