use Rattle.std.proofs.Common.{◌≡◌, ◌++◌, ◌∷◌, [], take, ap, sym, ◌∙◌, arith}
use Rattle.std.proofs.lemmas.List.{take_more}
use Rattle.tw_msgs.specs.Messages.{same_message}
use Rattle.tw_msgs.proofs.Messages.{same_fields-is}
use Rattle.tw_lists.proofs.Owing.{total_more}
use Rattle.tw_lists.proofs.sending.earlier_count.Goals as goal

pub loop-earlier-preserved : goal.loop-earlier-preserved
loop-earlier-preserved c =
    let ms = take c.args.number c.args.messages.now in
    let i = c.loop-earlier.earlier-index in
    let m = c.args.message.now in
    let x = c.earlier-item.result in
    let within = c.loop-earlier-test.true in
    let same : same_message m x ≡ c.eq.result = sym (c.eq.ensures ∙ same_fields-is x m) in
    let more = total_more m ms i x within (take_more ms i x within ∙ ap (λ y. take i ms ++ y ∷ []) (sym c.earlier-item.is)) c.eq.result same in
    record {
      count_is = omega (arith, more, c.loop-earlier.invariant.count_is, c.one_if-count.ensures.value);
      within = omega (arith, c.loop-earlier.invariant.within, c.one_if-count.ensures.small);
    }
