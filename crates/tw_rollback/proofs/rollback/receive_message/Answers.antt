use Rattle.std.proofs.Common.{◌≡◌, ◌≢◌, false, ap, sym, subst, ◌∙◌}
use Rattle.tw_msgs.specs.Messages.{has}
use Rattle.tw_theory.specs.Contents.{placed, cut, steps_from, receive_message, Straggler as straggler}
use Rattle.tw_theory.specs.Memory.{need_of_received}
use Rattle.tw_process.specs.Process.{with_spare, with_placed, with_cut, CanCome}
use Rattle.tw_theory.proofs.Histories.{floor_within, cut_before}
use Rattle.tw_process.proofs.Outcomes.{on_err_always}
use Rattle.tw_rollback.proofs.Receiving.{cleared_same, message_straggles, message_placed, message_needs, limit_refused, limit_given, cut_none}
use Rattle.tw_rollback.proofs.rollback.receive_message.Given.{Over}
use Rattle.tw_rollback.proofs.rollback.receive_message.Goals.{Else-clear_orphan, After-back_to-overtaken}
use Rattle.tw_rollback.proofs.rollback.receive_message.Goals as goal

none_waits : (g : Over) (c : Else-clear_orphan g) → has c.args.message.now c.args.process.now.process.waiting ≡ false
none_waits g c = sym c.clear_orphan.ensures.answer ∙ c.if-clear_orphan.false

pub returns-in_err-reserve-clause-stays : goal.returns-in_err-reserve-clause-stays
returns-in_err-reserve-clause-stays g c =
    let p = c.args.process.now in
    let r = c.reserve.new.self in
    let q = c.clear_orphan.new.self in
    let none = none_waits g (goal.at.returns-in_err-reserve-clause-stays g c).Else-clear_orphan in
    on_err_always (r ≡ with_spare r.spare p) c.from_residual.result (c.reserve.ensures.contents ∙ ap (with_spare r.spare) (c.clear_orphan.ensures.contents ∙ ap (with_spare q.spare) (cleared_same p c.args.message.now none)))

pub put_reserved-requires-clause-come : goal.put_reserved-requires-clause-come
put_reserved-requires-clause-come g c =
    let m = c.args.message.now in
    let p = c.args.process.now in
    let none = none_waits g (goal.at.put_reserved-requires-clause-come g c).Else-clear_orphan in
    let r = c.reserve.new.self in
    let q = c.clear_orphan.new.self in
    let is : c.back_to-overtaken.new.process ≡ with_cut m.stamp (with_spare r.spare p) =
    c.back_to-overtaken.ensures.cut ∙ ap (with_cut m.stamp) (c.reserve.ensures.contents ∙ ap (with_spare r.spare) (c.clear_orphan.ensures.contents ∙ ap (with_spare q.spare) (cleared_same p m none))) in
    subst (λ b. CanCome b m) (sym is) (record {
      fits = c.requires.fits;
      after = floor_within p.floor m.stamp (cut m.stamp p.process).history c.requires.after (cut_before m.stamp p.process);
    })

pub returns-then-overtaken-eq0-clause-received : goal.returns-then-overtaken-eq0-clause-received
returns-then-overtaken-eq0-clause-received g c =
    let m = c.args.message.now in
    let p = c.args.process.now in
    let none = none_waits g (goal.at.returns-then-overtaken-eq0-clause-received g c).Else-clear_orphan in
    let r = c.reserve.new.self in
    let q = c.clear_orphan.new.self in
    let n = c.put_reserved.new.self in
    let start : r ≡ with_spare r.spare p = c.reserve.ensures.contents ∙ ap (with_spare r.spare) (c.clear_orphan.ensures.contents ∙ ap (with_spare q.spare) (cleared_same p m none)) in
    let zero : steps_from m.stamp p.process ≡ 0 = sym (ap (λ x. steps_from m.stamp x.process) start) ∙ sym c.back_to-overtaken.ensures.count ∙ c.if-overtaken-eq0.true in
    let all : n ≡ record p { process = placed p.process m; spare = n.spare } =
    c.put_reserved.ensures ∙ ap (λ b. with_spare n.spare (with_placed m b)) (c.back_to-overtaken.ensures.cut ∙ ap (with_cut m.stamp) start)
    ∙ ap (λ x. record p { process = placed x m; spare = n.spare }) (cut_none m.stamp p.process zero) in
    let came = message_placed p.process m none zero in
    record { process = all ∙ sym (ap (λ x. record p { process = x.1; spare = n.spare }) came); answer = sym (ap (λ x. x.0) came) }

pub returns-clause-received : goal.returns-clause-received
returns-clause-received g c =
    let m = c.args.message.now in
    let p = c.args.process.now in
    let none = none_waits g (goal.at.returns-clause-received g c).Else-clear_orphan in
    let r = c.reserve.new.self in
    let q = c.clear_orphan.new.self in
    let n = c.put_reserved.new.self in
    let start : r ≡ with_spare r.spare p = c.reserve.ensures.contents ∙ ap (with_spare r.spare) (c.clear_orphan.ensures.contents ∙ ap (with_spare q.spare) (cleared_same p m none)) in
    let count : c.back_to-overtaken.result ≡ steps_from m.stamp p.process = c.back_to-overtaken.ensures.count ∙ ap (λ x. steps_from m.stamp x.process) start in
    let all : n ≡ record p { process = placed (cut m.stamp p.process) m; spare = n.spare } =
    c.put_reserved.ensures ∙ ap (λ b. with_spare n.spare (with_placed m b)) (c.back_to-overtaken.ensures.cut ∙ ap (with_cut m.stamp) start) in
    let some : steps_from m.stamp p.process ≢ 0 = λ zero. c.if-overtaken-eq0.false (count ∙ zero) in
    let came = message_straggles p.process m none some in
    record { process = all ∙ sym (ap (λ x. record p { process = x.1; spare = n.spare }) came); answer = ap straggler count ∙ sym (ap (λ x. x.0) came) }

same_process : (g : Over) (c : Else-clear_orphan g) → c.clear_orphan.new.self.process ≡ c.args.process.now.process
same_process g c = ap (λ x. x.process) (c.clear_orphan.ensures.contents ∙ ap (with_spare c.clear_orphan.new.self.spare) (cleared_same c.args.process.now c.args.message.now (none_waits g c)))

needs : (g : Over) (c : Else-clear_orphan g) → need_of_received (receive_message c.args.process.now.process c.args.message.now).0 ≡ 1
needs g c = message_needs c.args.process.now.process c.args.message.now (none_waits g c)

pub returns-in_err-reserve-clause-limit : goal.returns-in_err-reserve-clause-limit
returns-in_err-reserve-clause-limit g c =
    let at = (goal.at.returns-in_err-reserve-clause-limit g c).Else-clear_orphan in
    limit_refused _ _ _ _ c.reserve.result (same_process g at) (needs g at) c.reserve.ensures.limit c.in_err-reserve.field-0.0 c.from_residual.result c.in_err-reserve.was c.from_residual.ensures

pub returns-then-overtaken-eq0-clause-limit : goal.returns-then-overtaken-eq0-clause-limit
returns-then-overtaken-eq0-clause-limit g c =
    let at = (goal.at.returns-then-overtaken-eq0-clause-limit g c).Else-clear_orphan in
    limit_given _ _ _ _ c.reserve.result (same_process g at) (needs g at) c.reserve.ensures.limit _ _ c.in_ok-reserve.was

pub returns-clause-limit : goal.returns-clause-limit
returns-clause-limit g c =
    let at = (goal.at.returns-clause-limit g c).Else-clear_orphan in
    limit_given _ _ _ _ c.reserve.result (same_process g at) (needs g at) c.reserve.ensures.limit _ _ c.in_ok-reserve.was
