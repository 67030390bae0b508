use Rattle.std.proofs.Common.{◌++◌, ◌∷◌, [], nat_le, cond, map, take, length, ap, sym, ◌∙◌, arith}
use Rattle.std.proofs.lemmas.List.{take_more}
use Rattle.tw_pool.specs.Lists.{list_at}
use Rattle.tw_theory.specs.Bundles.{sent_anew}
use Rattle.tw_lists.specs.Lists.{message_at}
use Rattle.tw_lists.proofs.Owing.{fresh_more}
use Rattle.tw_lists.proofs.sending.fresh_count.Goals as goal

pub loop-number-preserved : goal.loop-number-preserved
loop-number-preserved c =
    let ms = c.args.messages.now in
    let i = c.loop-number.number in
    let owed = map message_at (list_at c.args.pool.now.lists 5) in
    let m = c.index-messages-number.result in
    let within = c.loop-number-test.true in
    let next = take_more ms i m within ∙ ap (λ y. take i ms ++ y ∷ []) (sym c.index-messages-number.is) in
    let more = ap (λ l. length (sent_anew owed l)) next ∙ fresh_more owed (take i ms) m in
    let one = c.one_if-count.ensures.value ∙ (λ j. cond (nat_le (c.owed_count.ensures j) (c.earlier_count.ensures j)) 1 0) in
    record {
      count_is = omega (arith, more, one, c.loop-number.invariant.count_is);
      within = omega (arith, c.loop-number.invariant.within, c.one_if-count.ensures.small);
    }
