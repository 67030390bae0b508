use Rattle.std.proofs.Common.{◌++◌, ◌≤◌, ◌-◌, [], drop, length, sym, subst, ap, ◌∙◌, arith}
use Rattle.std.proofs.lemmas.Map.Keys.{le_from_is_le}
use Rattle.std.proofs.lemmas.Option.{same_Some}
use Rattle.tw_pool.specs.Lists.{list_at}
use Rattle.tw_pool.proofs.ListsByIndex.{item_is, last_of, last_none}
use Rattle.tw_lists.specs.Falling.{IsFalling}
use Rattle.tw_lists.proofs.Falling.{AreFrom, falling_joined, from_last}
use Rattle.tw_lists.proofs.settling.falls_behind.Goals as goal

pub returns-in-Some-last : goal.returns-in-Some-last
returns-in-Some-last c below falls =
    let lists = c.args.pool.now.lists in
    let owed = list_at lists 5 in
    let sent = list_at lists 2 in
    let at = last_of lists 5 c.in-Some-last.index (sym c.last.ensures.value ∙ c.in-Some-last.is) in
    let got = item_is lists c.in-Some-last.index 5 at.item at.before [] c.lists_law.ensures.distinct (omega (arith, c.lists_law.ensures.count)) at.split in
    let item = same_Some at.item c.get.result.now (sym got ∙ c.get.ensures) in
    let top : c.in-Some.top ≤ at.item.message.stamp =
    let le = le_from_is_le c.in-Some.top c.get.result.now.message.stamp (sym c.le.ensures ∙ below) in omega (arith, le, ap (λ x. x.message.stamp) item) in
    let from : AreFrom c.in-Some.top owed = subst (λ l. AreFrom c.in-Some.top l) (sym at.split) (from_last c.in-Some.top at.before (c.in-Some-last.index, at.item) (subst (λ l. IsFalling l) at.split falls) top) in
    falling_joined owed (drop (length sent - c.args.n) sent) c.in-Some.top falls c.in-Some.ensures.falling from c.in-Some.ensures.top

pub returns-in-None : goal.returns-in-None
returns-in-None c any falls =
    let lists = c.args.pool.now.lists in
    let sent = list_at lists 2 in
    let none = last_none lists 5 (sym c.last.ensures.value ∙ c.in-None.is) in
    subst (λ l. IsFalling (l ++ drop (length sent - c.args.n) sent)) (sym none) c.in-Some.ensures.falling
