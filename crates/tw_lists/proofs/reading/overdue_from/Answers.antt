use Rattle.std.proofs.Common.{◌≡◌, ◌+◌, ◌++◌, List, [], ◌∷◌, ap, sym, subst, ◌∙◌, arith}
use Rattle.std.proofs.lemmas.Option.{same_Some}
use Rattle.std.proofs.lemmas.Result.{IfOk-from_err}
use Rattle.tw_pool.specs.Lists.{list_at, next_of}
use Rattle.tw_msgs.specs.declared.message.Message.{Message}
use Rattle.tw_vtime.specs.Stamps.{is_overdue}
use Rattle.tw_lists.proofs.Overdue.{ReadOn, on_begun, on_ended, on_live, on_past, on_step}
use Rattle.tw_lists.proofs.reading.overdue_from.Goals.{then-is_overdue+in_ok-push, else-is_overdue}
use Rattle.tw_lists.proofs.reading.overdue_from.Goals as goal

pub loop-init : goal.loop-init
loop-init c =
    let lists = c.args.pool.now.lists in
    let begun = on_begun c.args.next (list_at lists 5) c.args.from c.requires in
    record {
      walked = subst (λ ms. ReadOn c.args.next (list_at lists 5) 0 c.args.from ms) (sym c.new-messages.ensures.items) begun;
      live = on_live c.args.next lists 5 0 c.args.from [] c.lists_law.ensures.distinct (omega (arith, c.lists_law.ensures.count)) begun;
    }

pub loop-preserved : goal.loop-preserved
loop-preserved c =
    let lists = c.args.pool.now.lists in
    let s = c.args.next in
    let k = c.loop.counter in
    let read = subst (λ o. ReadOn s (list_at lists 5) k o c.loop.messages.items) c.in-Some.is c.loop.invariant.walked in
    let at = on_step s lists 5 k c.in-Some.index c.loop.messages.items c.lists_law.ensures.distinct (omega (arith, c.lists_law.ensures.count)) read in
    let item = same_Some at.item c.get.result.now (sym at.got ∙ c.get.ensures) in
    let is : is_overdue at.item.message.stamp s ≡ c.is_overdue.result = ap (λ x. is_overdue x.message.stamp s) item ∙ sym c.is_overdue.ensures in
    let more : List Message → Type 0 = λ ms. ReadOn s (list_at lists 5) (k + 1) (next_of c.in-Some.index lists) ms in
    let on : more c.if-is_overdue.messages.items =
    elim c.if-is_overdue.branch [
      | then-is_overdue+in_ok-push w ↦
          let pushed = ap (λ v. v.items) w.messages-is ∙ w.in_ok-push.ensures.items ∙ ap (λ x. c.loop.messages.items ++ x.message ∷ []) (sym item) in
          subst more (sym pushed) (at.due (is ∙ w.if-is_overdue.true))
      | else-is_overdue w ↦ subst more (sym (ap (λ v. v.items) w.messages-is)) (at.early (is ∙ w.if-is_overdue.false))
    ] in
    record {
      walked = subst (λ o. ReadOn s (list_at lists 5) (k + 1) o c.if-is_overdue.messages.items) (sym c.next-at.ensures.value) on;
      live = c.next-at.ensures.live;
    }

pub returns : goal.returns
returns c = on_past c.args.next (list_at c.args.pool.now.lists 5) c.loop.counter c.loop.at c.loop.messages.items (omega (arith, c.loop-test.false, c.len-end.ensures.value)) c.loop.invariant.walked

pub returns-in_default : goal.returns-in_default
returns-in_default c = on_ended c.args.next (list_at c.args.pool.now.lists 5) c.loop.counter c.loop.at c.loop.messages.items c.in_default.is c.loop.invariant.walked

pub returns-in_err-push : goal.returns-in_err-push
returns-in_err-push c = IfOk-from_err _ _ c.from_residual.ensures.0
