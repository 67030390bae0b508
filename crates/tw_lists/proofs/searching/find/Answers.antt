use Rattle.std.proofs.Common.{◌≡◌, drop, None, IfSome, ap, sym, subst, ◌∙◌, arith}
use Rattle.std.proofs.lemmas.Option.{same_Some}
use Rattle.tw_msgs.specs.Messages.{same_message}
use Rattle.tw_msgs.proofs.Messages.{same_fields-is}
use Rattle.tw_pool.specs.Lists.{list_at, first_of, IsLive}
use Rattle.tw_lists.proofs.Finding.{find_step, found_here, found_later, ended, ended_first}
use Rattle.tw_lists.proofs.searching.find.Goals.{in-Some+else-eq, in_default}
use Rattle.tw_lists.proofs.searching.find.Goals as goal

pub returns-then-eq : goal.returns-then-eq
returns-then-eq c =
    let lists = c.args.pool.now.lists in
    let at = find_step lists c.args.list c.loop.counter c.in-Some.index c.lists_law.ensures.distinct (omega (arith, c.requires, c.lists_law.ensures.count)) (sym c.in-Some.is ∙ c.loop.invariant.at_is) in
    let item = same_Some at.item c.get.result.now (sym at.got ∙ c.get.ensures) in
    let same : same_message c.args.message.now at.item.message ≡ c.eq.result = ap (λ x. same_message c.args.message.now x.message) item ∙ sym (c.eq.ensures ∙ same_fields-is c.get.result.now.message c.args.message.now) in
    sym (c.loop.invariant.still ∙ found_here c.args.message.now lists c.args.list c.loop.counter c.in-Some.index at (same ∙ c.if-eq.true))

pub loop-preserved : goal.loop-preserved
loop-preserved c =
    let lists = c.args.pool.now.lists in
    let l = list_at lists c.args.list in
    let k = c.loop.counter in
    elim c.match-at.branch [
      | in-Some+else-eq w ↦
          let at = find_step lists c.args.list k w.in-Some.index c.lists_law.ensures.distinct (omega (arith, c.requires, c.lists_law.ensures.count)) (sym w.in-Some.is ∙ c.loop.invariant.at_is) in
          let item = same_Some at.item w.get.result.now (sym at.got ∙ w.get.ensures) in
          let same : same_message c.args.message.now at.item.message ≡ w.eq.result = ap (λ x. same_message c.args.message.now x.message) item ∙ sym (w.eq.ensures ∙ same_fields-is w.get.result.now.message c.args.message.now) in
          record {
            at_is = w.at-is ∙ w.next-at.ensures.value ∙ at.next;
            still = c.loop.invariant.still ∙ found_later c.args.message.now lists c.args.list k w.in-Some.index at (same ∙ w.if-eq.false);
            live = subst (λ o. IfSome o (λ index. IsLive index lists)) (sym w.at-is) w.next-at.ensures.live;
          }
      | in_default w ↦
          let none : None ≡ first_of (drop k l) = sym w.in_default.is ∙ c.loop.invariant.at_is in
          record {
            at_is = w.at-is ∙ w.in_default.is ∙ ended_first l k none;
            still = c.loop.invariant.still ∙ ended l k c.args.message.now none;
            live = subst (λ o. IfSome o (λ index. IsLive index lists)) (sym (w.at-is ∙ w.in_default.is)) tt;
          }
    ]
