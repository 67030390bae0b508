use Rattle.std.proofs.Common.{FitsSigned, w64, [], ◌∷◌, ◌++◌, ap, sym, ◌∙◌, rules}
use Rattle.std.proofs.lemmas.Bool.{eqb-true, not-false}
use Rattle.std.proofs.lemmas.Int.{to_z-of_z}
use Rattle.tw_lists.proofs.Loops.{bag_begun, bag_on}
use Rattle.tw_lists.proofs.lists.EventLists.consume_bag.Goals as goal

pub loop-message-init : goal.loop-message-init
loop-message-init c =
    let on = bag_begun c.args.stamp c.args.self.now c.new-bag.result c.new-bag.ensures in
    record { same = on.same; bag_is = on.bag_is; back = on.back; within = on.within }

pub loop-message-preserved : goal.loop-message-preserved
loop-message-preserved c =
    let l = c.loop-message in
    let m = c.in-Some.message in
    let value : FitsSigned w64 m.value = search rules in
    let pushed = c.in_default-push.ensures.ok ∙ ap (λ v. l.bag ++ (m.port, v) ∷ []) (to_z-of_z w64 m.value value) in
    let on = bag_on c.args.stamp c.args.self.now l.self c.consume_first.new.self l.bag c.push.new.self m (sym c.in-Some.is ∙ c.first.ensures)
    (eqb-true _ _ (not-false _ (sym c.if-ne.ensures))) c.consume_first.ensures pushed
    (record { same = l.invariant.same; bag_is = l.invariant.bag_is; back = l.invariant.back; within = l.invariant.within }) in
    record { same = on.same; bag_is = on.bag_is; back = on.back; within = on.within }
