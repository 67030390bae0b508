use Rattle.std.proofs.Common.{◌≡◌, ◌+◌, drop, None, IfSome, ap, sym, subst, ◌∙◌}
use Rattle.tw_pool.specs.Lists.{list_at, first_of, IsLive}
use Rattle.tw_lists.specs.Nodes.{IsSettled}
use Rattle.tw_lists.proofs.Finding.{ended_first}
use Rattle.tw_lists.proofs.Owing.{next_owed, settled_more, settled_end, live_at}
use Rattle.tw_lists.proofs.settling.post_overdue.Goals.{in-Some, in_default}
use Rattle.tw_lists.proofs.settling.post_overdue.Goals as goal

pub loop-preserved : goal.loop-preserved
loop-preserved c =
    let lists = c.args.pool.now.lists in
    let l = list_at lists 5 in
    let k = c.loop.counter in
    let s = c.args.next in
    elim c.match-at.branch [
      | in-Some w ↦
          let next = next_owed lists c.loop.pool.lists s k w.in-Some.index c.lists_law.ensures.count w.lists_law-in-Some.ensures.distinct c.loop.invariant.settled (sym w.in-Some.is ∙ c.loop.invariant.at_is) in
          let posted = w.post_one.ensures.lists next.item next.got in
          record {
            at_is = w.at-is ∙ w.next-at.ensures.value ∙ next.next;
            settled = subst (λ p. IsSettled s (k + 1) lists p.lists) (sym w.pool-is) (settled_more lists c.loop.pool.lists w.post_one.new.pool.lists s k w.in-Some.index c.lists_law.ensures.count w.lists_law-in-Some.ensures.distinct c.loop.invariant.settled next posted);
            live = subst (λ o. IfSome o (λ index. IsLive index c.match-at.pool.lists)) (sym w.at-is) (subst (λ p. IfSome w.next-at.result (λ index. IsLive index p.lists)) (sym w.pool-is) (live_at w.next-at.result c.loop.pool.lists w.post_one.new.pool.lists w.post_one.ensures.items w.next-at.ensures.live));
            room = ap (λ p. p.room) w.pool-is ∙ w.post_one.ensures.room ∙ c.loop.invariant.room;
            top = ap (λ p. p.top) w.pool-is ∙ w.post_one.ensures.top ∙ c.loop.invariant.top;
          }
      | in_default w ↦
          let none : None ≡ first_of (drop k l) = sym w.in_default.is ∙ c.loop.invariant.at_is in
          record {
            at_is = w.at-is ∙ w.in_default.is ∙ ended_first l k none;
            settled = subst (λ p. IsSettled s (k + 1) lists p.lists) (sym w.pool-is) (settled_end lists c.loop.pool.lists s k none c.loop.invariant.settled);
            live = subst (λ o. IfSome o (λ index. IsLive index c.match-at.pool.lists)) (sym (w.at-is ∙ w.in_default.is)) tt;
            room = ap (λ p. p.room) w.pool-is ∙ c.loop.invariant.room;
            top = ap (λ p. p.top) w.pool-is ∙ c.loop.invariant.top;
          }
    ]
