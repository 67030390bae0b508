use Rattle.std.proofs.Common.{◌≤◌, [], map, sym, subst, ap, ◌∙◌, arith}
use Rattle.std.proofs.lemmas.Option.{same_Some}
use Rattle.tw_pool.proofs.ListsByIndex.{item_is, last_of}
use Rattle.tw_theory.specs.Bundles.{least_stamp}
use Rattle.tw_vtime.specs.Stamps.{never}
use Rattle.tw_lists.specs.Falling.{IsFalling}
use Rattle.tw_lists.specs.Lists.{item_at}
use Rattle.tw_lists.proofs.Falling.{least_last, within_never}
use Rattle.tw_lists.proofs.reading.last_in.Goals as goal

pub returns-in-Some : goal.returns-in-Some
returns-in-Some c =
    let lists = c.args.pool.now.lists in
    let at = last_of lists c.args.list c.in-Some.index (sym c.last.ensures.value ∙ c.in-Some.is) in
    let got = item_is lists c.in-Some.index c.args.list at.item at.before [] c.lists_law.ensures.distinct (omega (arith, c.requires.list, c.lists_law.ensures.count)) at.split in
    let stamp = ap (λ x. x.message.stamp) (same_Some at.item c.get.result.now (sym got ∙ c.get.ensures)) in
    let within : at.item.message.stamp ≤ never = omega (arith, stamp, within_never c.get.result.now.message.stamp c.facts.ensures) in
    sym stamp ∙ least_last at.before (c.in-Some.index, at.item) (subst (λ l. IsFalling l) at.split c.requires.falling) within ∙ ap (λ l. least_stamp (map item_at l)) (sym at.split)
