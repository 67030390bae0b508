use Rattle.std.proofs.Common.{rules, ◌≡◌, ◌+◌, ap, sym, subst, ◌∙◌, arith}
use Rattle.std.proofs.lemmas.Option.{same_Some}
use Rattle.tw_msgs.specs.Messages.{same_message}
use Rattle.tw_msgs.proofs.Messages.{same_fields-is}
use Rattle.tw_pool.specs.Lists.{list_at}
use Rattle.tw_lists.proofs.Comings.{found_live}
use Rattle.tw_lists.proofs.Learning.{Ahead, ahead_of, ahead_step}
use Rattle.tw_lists.proofs.finder.next_equal.Goals as goal

pub next-at-requires : goal.next-at-requires
next-at-requires c = (search rules, found_live c.args.pool.now.lists c.args.list c.args.index c.args.message.now (omega (arith, c.requires.list, c.lists_law.ensures.count)) c.lists_law.ensures.distinct c.requires.first)

pub loop-init : goal.loop-init
loop-init c =
    let ahead = ahead_of c.args.message.now c.args.pool.now.lists c.args.list c.args.index c.lists_law.ensures.distinct (omega (arith, c.requires.list, c.lists_law.ensures.count)) c.requires.first in
    record {
      ahead = subst (λ at. Ahead c.args.message.now (list_at c.args.pool.now.lists c.args.list) c.args.index 0 at) (sym c.next-at.ensures.value) ahead;
      live = c.next-at.ensures.live;
    }

pub returns-then-eq : goal.returns-then-eq
returns-then-eq c =
    let m = c.args.message.now in
    let lists = c.args.pool.now.lists in
    let ahead = subst (λ at. Ahead m (list_at lists c.args.list) c.args.index c.loop.counter at) c.in-Some.is c.loop.invariant.ahead in
    let at = ahead_step m lists c.args.list c.args.index c.loop.counter c.in-Some.next c.lists_law.ensures.distinct (omega (arith, c.requires.list, c.lists_law.ensures.count)) ahead in
    let item = same_Some at.item c.get.result.now (sym at.got ∙ c.get.ensures) in
    let same : same_message m at.item.message ≡ c.eq.result = ap (λ x. same_message m x.message) item ∙ sym (c.eq.ensures ∙ same_fields-is c.get.result.now.message m) in
    sym (at.here (same ∙ c.if-eq.true))

pub loop-preserved : goal.loop-preserved
loop-preserved c =
    let m = c.args.message.now in
    let lists = c.args.pool.now.lists in
    let ahead = subst (λ at. Ahead m (list_at lists c.args.list) c.args.index c.loop.counter at) c.in-Some.is c.loop.invariant.ahead in
    let at = ahead_step m lists c.args.list c.args.index c.loop.counter c.in-Some.next c.lists_law.ensures.distinct (omega (arith, c.requires.list, c.lists_law.ensures.count)) ahead in
    let item = same_Some at.item c.get.result.now (sym at.got ∙ c.get.ensures) in
    let same : same_message m at.item.message ≡ c.eq.result = ap (λ x. same_message m x.message) item ∙ sym (c.eq.ensures ∙ same_fields-is c.get.result.now.message m) in
    record {
      ahead = subst (λ o. Ahead m (list_at lists c.args.list) c.args.index (c.loop.counter + 1) o) (sym c.next-at-in-loop.ensures.value) (at.on (same ∙ c.if-eq.false));
      live = c.next-at-in-loop.ensures.live;
    }
