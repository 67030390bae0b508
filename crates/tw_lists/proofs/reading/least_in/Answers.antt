use Rattle.std.proofs.Common.{◌≡◌, ◌+◌, ◌≤◌, drop, map, min, length, None, IfSome, ap, sym, subst, ◌∙◌, arith, drop_of_length-le}
use Rattle.std.proofs.lemmas.Option.{same_Some}
use Rattle.tw_pool.specs.Lists.{list_at, first_of, IsLive}
use Rattle.tw_vtime.proofs.Comparing.{ord_min-is}
use Rattle.tw_theory.specs.Bundles.{least_stamp}
use Rattle.tw_lists.specs.Lists.{item_at}
use Rattle.tw_lists.proofs.Finding.{find_step, ended_first}
use Rattle.tw_lists.proofs.Owing.{ended_owed}
use Rattle.tw_lists.proofs.Walks.{least_more, least_end, least_top}
use Rattle.tw_lists.proofs.reading.least_in.Goals.{in-Some, in_default}
use Rattle.tw_lists.proofs.reading.least_in.Goals as goal

pub loop-init : goal.loop-init
loop-init c = record {
  at_is = c.first-at.ensures.value;
  all = least_top (map item_at (list_at c.args.pool.now.lists c.args.list));
  top = omega arith;
  live = c.first-at.ensures.live;
}

pub loop-preserved : goal.loop-preserved
loop-preserved c =
    let lists = c.args.pool.now.lists in
    let l = list_at lists c.args.list in
    let k = c.loop.counter in
    elim c.match-at.branch [
      | in-Some w ↦
          let at = find_step lists c.args.list k w.in-Some.index c.lists_law.ensures.distinct (omega (arith, c.requires, c.lists_law.ensures.count)) (sym w.in-Some.is ∙ c.loop.invariant.at_is) in
          let item = same_Some w.get.result.now at.item (sym w.get.ensures ∙ at.got) in
          record {
            at_is = w.at-is ∙ w.next-at.ensures.value ∙ at.next;
            all = least_more l k (w.in-Some.index, at.item) at.behind c.loop.least _ _ (w.least-is ∙ w.min-least.ensures ∙ ord_min-is c.loop.least w.get.result.now.message.stamp ∙ ap (λ x. min c.loop.least x.message.stamp) item) at.dropped at.behind_is c.loop.invariant.all;
            top = omega (arith, w.least-is ∙ w.min-least.ensures ∙ ord_min-is c.loop.least w.get.result.now.message.stamp, c.loop.invariant.top);
            live = subst (λ o. IfSome o (λ index. IsLive index lists)) (sym w.at-is) w.next-at.ensures.live;
          }
      | in_default w ↦
          let none : None ≡ first_of (drop k l) = sym w.in_default.is ∙ c.loop.invariant.at_is in
          let end = ended_owed l k none in
          record {
            at_is = w.at-is ∙ w.in_default.is ∙ ended_first l k none;
            all = ap (λ x. min x (least_stamp (map item_at (drop (k + 1) l)))) w.least-is ∙ least_end l k c.loop.least _ end.now end.later c.loop.invariant.all;
            top = omega (arith, w.least-is, c.loop.invariant.top);
            live = subst (λ o. IfSome o (λ index. IsLive index lists)) (sym (w.at-is ∙ w.in_default.is)) tt;
          }
    ]

pub returns : goal.returns
returns c =
    let l = list_at c.args.pool.now.lists c.args.list in
    let over : length l ≤ c.loop.counter = omega (arith, c.loop.auto.counter-end, c.loop-test.false, c.len-end.ensures.value) in
    let rest = ap (λ r. least_stamp (map item_at r)) (drop_of_length-le l over) in
    omega (arith, c.loop.invariant.all, rest, c.loop.invariant.top)
