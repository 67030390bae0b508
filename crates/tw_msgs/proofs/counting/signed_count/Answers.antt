-- The count so far is no further from 0 than items were seen, and memory holds fewer than 2^63 of them.
use Rattle.std.proofs.Common.{arith, ◌≡◌, ◌∙◌, sym, ◌<◌, ◌^◌, length}
use Rattle.std.proofs.lemmas.Int.{ints}
use Rattle.tw_msgs.specs.Messages.{same_message}
use Rattle.tw_msgs.proofs.Messages.{same_fields-is}
use Rattle.tw_msgs.proofs.SignedCounts.{signed_count_more, signed_count_within, share-positive, share-anti, share-other}
use Rattle.tw_msgs.proofs.counting.signed_count.Goals as goal
use Rattle.tw_msgs.proofs.counting.signed_count.Goals.{then-eq+in-Positive, then-eq+in-Anti, else-eq}

pub overflow_add-count : goal.overflow_add-count
overflow_add-count c =
    let few : length c.args.items.now < 2 ^ 63 = omega arith in
    let within = signed_count_within c.args.message.now c.args.items.now c.loop-item.item-index in
    let so_far = c.loop-item.invariant in
    omega (arith, ints, few, within, so_far)

pub overflow_sub-count : goal.overflow_sub-count
overflow_sub-count c =
    let few : length c.args.items.now < 2 ^ 63 = omega arith in
    let within = signed_count_within c.args.message.now c.args.items.now c.loop-item.item-index in
    let so_far = c.loop-item.invariant in
    omega (arith, ints, few, within, so_far)

pub loop-item-preserved : goal.loop-item-preserved
loop-item-preserved c =
    let few : length c.args.items.now < 2 ^ 63 = omega arith in
    let within = signed_count_within c.args.message.now c.args.items.now c.loop-item.item-index in
    let so_far = c.loop-item.invariant in
    let more = signed_count_more c.args.message.now c.args.items.now c.loop-item.item-index c.item-item.result c.loop-item-test.true c.item-item.is in
    let same : c.eq.result ≡ same_message c.args.message.now c.item-item.result.message = c.eq.ensures ∙ same_fields-is c.item-item.result.message c.args.message.now in
    elim c.if-eq.branch [
      | then-eq+in-Positive w ↦
          let one = share-positive c.args.message.now c.item-item.result (sym same ∙ w.if-eq.true) w.in-Positive.is in
          omega (arith, ints, few, within, so_far, more, one)
      | then-eq+in-Anti w ↦
          let one = share-anti c.args.message.now c.item-item.result (sym same ∙ w.if-eq.true) w.in-Anti.is in
          omega (arith, ints, few, within, so_far, more, one)
      | else-eq w ↦
          let none = share-other c.args.message.now c.item-item.result (sym same ∙ w.if-eq.false) in
          omega (arith, ints, few, within, so_far, more, none)
    ]
