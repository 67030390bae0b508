use Rattle.std.proofs.Common.{◌≡◌, ◌+◌, ◌++◌, drop, map, None, IfSome, ap, sym, subst, ◌∙◌, arith}
use Rattle.std.proofs.lemmas.Option.{same_Some}
use Rattle.std.proofs.lemmas.Result.{IfOk-from_err}
use Rattle.tw_pool.specs.Lists.{list_at, first_of, IsLive}
use Rattle.tw_lists.specs.Lists.{message_at}
use Rattle.tw_lists.proofs.Finding.{find_step, ended_first}
use Rattle.tw_lists.proofs.Owing.{ended_owed}
use Rattle.tw_lists.proofs.Walks.{read_more, read_end, read_whole}
use Rattle.tw_lists.proofs.reading.messages_in.Goals.{in-Some+in_ok-push, in_default}
use Rattle.tw_lists.proofs.reading.messages_in.Goals as goal

pub loop-preserved : goal.loop-preserved
loop-preserved c =
    let lists = c.args.pool.now.lists in
    let l = list_at lists c.args.list in
    let k = c.loop.counter in
    elim c.match-at.branch [
      | in-Some+in_ok-push w ↦
          let at = find_step lists c.args.list k w.in-Some.index c.lists_law.ensures.distinct (omega (arith, c.requires, c.lists_law.ensures.count)) (sym w.in-Some.is ∙ c.loop.invariant.at_is) in
          let item = same_Some w.get.result.now at.item (sym w.get.ensures ∙ at.got) in
          record {
            at_is = w.at-is ∙ w.next-at.ensures.value ∙ at.next;
            all = ap (λ v. v ++ map message_at (drop (k + 1) l)) (ap (λ v. v.items) w.messages-is ∙ w.in_ok-push.ensures.items)
                ∙ read_more message_at l k (w.in-Some.index, at.item) at.behind c.loop.messages.items _ (ap (λ x. x.message) item) at.dropped at.behind_is c.loop.invariant.all;
            live = subst (λ o. IfSome o (λ index. IsLive index lists)) (sym w.at-is) w.next-at.ensures.live;
          }
      | in_default w ↦
          let none : None ≡ first_of (drop k l) = sym w.in_default.is ∙ c.loop.invariant.at_is in
          let end = ended_owed l k none in
          record {
            at_is = w.at-is ∙ w.in_default.is ∙ ended_first l k none;
            all = ap (λ v. v.items ++ map message_at (drop (k + 1) l)) w.messages-is ∙ read_end message_at l k c.loop.messages.items end.now end.later c.loop.invariant.all;
            live = subst (λ o. IfSome o (λ index. IsLive index lists)) (sym (w.at-is ∙ w.in_default.is)) tt;
          }
    ]

pub returns : goal.returns
returns c = read_whole message_at (list_at c.args.pool.now.lists c.args.list) c.loop.counter c.loop.messages.items (omega (arith, c.loop-test.false, c.len-end.ensures.value)) c.loop.invariant.all

pub returns-in_err-push : goal.returns-in_err-push
returns-in_err-push c = IfOk-from_err _ _ c.from_residual.ensures.0
