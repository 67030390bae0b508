use Rattle.std.proofs.Common.{◌≡◌, drop, map, None, IfSome, ap, sym, subst, ◌∙◌, arith}
use Rattle.std.proofs.lemmas.Option.{same_Some}
use Rattle.tw_msgs.specs.Messages.{same_message}
use Rattle.tw_msgs.specs.Counting.{total, one_at}
use Rattle.tw_msgs.proofs.Messages.{same_fields-is}
use Rattle.tw_pool.specs.Lists.{list_at, first_of, IsLive}
use Rattle.tw_lists.specs.Lists.{message_at}
use Rattle.tw_lists.proofs.Finding.{find_step, ended_first}
use Rattle.tw_lists.proofs.Owing.{count_step, ended_owed}
use Rattle.tw_lists.proofs.sending.owed_count.Goals.{in-Some, in_default}
use Rattle.tw_lists.proofs.sending.owed_count.Goals as goal

pub loop-preserved : goal.loop-preserved
loop-preserved c =
    let lists = c.args.pool.now.lists in
    let l = list_at lists 5 in
    let k = c.loop.counter in
    let m = c.args.message.now in
    elim c.match-at.branch [
      | in-Some w ↦
          let at = find_step lists 5 k w.in-Some.index c.lists_law.ensures.distinct (omega (arith, c.lists_law.ensures.count)) (sym w.in-Some.is ∙ c.loop.invariant.at_is) in
          let item = same_Some at.item w.get.result.now (sym at.got ∙ w.get.ensures) in
          let same : same_message m at.item.message ≡ w.eq.result = ap (λ x. same_message m x.message) item ∙ sym (w.eq.ensures ∙ same_fields-is w.get.result.now.message m) in
          let one = count_step m l k w.in-Some.index at.item at.behind at.dropped at.behind_is w.eq.result same in
          record {
            at_is = w.at-is ∙ w.next-at.ensures.value ∙ at.next;
            count_is = omega (arith, w.count-is, w.one_if-count.ensures.value, one, c.loop.invariant.count_is);
            within = omega (arith, w.count-is, w.one_if-count.ensures.small, c.loop.invariant.within);
            live = subst (λ o. IfSome o (λ index. IsLive index lists)) (sym w.at-is) w.next-at.ensures.live;
          }
      | in_default w ↦
          let none : None ≡ first_of (drop k l) = sym w.in_default.is ∙ c.loop.invariant.at_is in
          let end = ended_owed l k none in
          record {
            at_is = w.at-is ∙ w.in_default.is ∙ ended_first l k none;
            count_is = omega (arith, w.count-is, c.loop.invariant.count_is, ap (λ x. total (one_at m) (map message_at x)) end.now, ap (λ x. total (one_at m) (map message_at x)) end.later);
            within = omega (arith, w.count-is, c.loop.invariant.within);
            live = subst (λ o. IfSome o (λ index. IsLive index lists)) (sym (w.at-is ∙ w.in_default.is)) tt;
          }
    ]
