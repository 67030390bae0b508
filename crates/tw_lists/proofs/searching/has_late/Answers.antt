use Rattle.std.proofs.Common.{◌≡◌, ◌+◌, ◌<◌, ap, sym, subst, ◌∙◌, arith}
use Rattle.std.proofs.lemmas.Option.{same_Some}
use Rattle.tw_msgs.specs.Messages.{same_message}
use Rattle.tw_msgs.proofs.Messages.{same_fields-is}
use Rattle.tw_vtime.proofs.Comparing.{lt_from_is_lt}
use Rattle.tw_pool.specs.Lists.{list_at}
use Rattle.tw_lists.proofs.Behind.{WalkedBack, begun, next_back}
use Rattle.tw_lists.proofs.searching.has_late.Goals as goal

pub loop-init : goal.loop-init
loop-init c = record { walked = begun c.args.message.now c.args.pool.now.lists c.args.list c.last-at.result c.last-at.ensures.value; live = c.last-at.ensures.live }

pub returns-then-eq : goal.returns-then-eq
returns-then-eq c =
    let m = c.args.message.now in
    let lists = c.args.pool.now.lists in
    let walked = subst (λ o. WalkedBack m (list_at lists c.args.list) c.loop.counter o) c.in-Some.is c.loop.invariant.walked in
    let at = next_back m lists c.args.list c.loop.counter c.in-Some.index c.lists_law.ensures.distinct (omega (arith, c.requires.list, c.lists_law.ensures.count)) walked in
    let item = same_Some at.item c.get.result.now (sym at.got ∙ c.get.ensures) in
    let same : same_message m at.item.message ≡ c.eq.result = ap (λ x. same_message m x.message) item ∙ sym (c.eq.ensures ∙ same_fields-is c.get.result.now.message m) in
    sym (at.found (same ∙ c.if-eq.true))

pub returns-then-lt : goal.returns-then-lt
returns-then-lt c =
    let m = c.args.message.now in
    let lists = c.args.pool.now.lists in
    let walked = subst (λ o. WalkedBack m (list_at lists c.args.list) c.loop.counter o) c.in-Some.is c.loop.invariant.walked in
    let at = next_back m lists c.args.list c.loop.counter c.in-Some.index c.lists_law.ensures.distinct (omega (arith, c.requires.list, c.lists_law.ensures.count)) walked in
    let item = same_Some at.item c.get.result.now (sym at.got ∙ c.get.ensures) in
    let less : c.get.result.now.message.stamp < m.stamp = lt_from_is_lt c.get.result.now.message.stamp m.stamp (sym c.lt.ensures ∙ c.if-lt.true) in
    sym (at.past c.requires.sorted (subst (λ x. x.message.stamp < m.stamp) (sym item) less))

pub loop-preserved : goal.loop-preserved
loop-preserved c =
    let m = c.args.message.now in
    let lists = c.args.pool.now.lists in
    let walked = subst (λ o. WalkedBack m (list_at lists c.args.list) c.loop.counter o) c.in-Some.is c.loop.invariant.walked in
    let at = next_back m lists c.args.list c.loop.counter c.in-Some.index c.lists_law.ensures.distinct (omega (arith, c.requires.list, c.lists_law.ensures.count)) walked in
    let item = same_Some at.item c.get.result.now (sym at.got ∙ c.get.ensures) in
    let same : same_message m at.item.message ≡ c.eq.result = ap (λ x. same_message m x.message) item ∙ sym (c.eq.ensures ∙ same_fields-is c.get.result.now.message m) in
    record {
      walked = subst (λ o. WalkedBack m (list_at lists c.args.list) (c.loop.counter + 1) o) (sym c.prev-at.ensures.value) (at.on (same ∙ c.if-eq.false));
      live = c.prev-at.ensures.live;
    }
