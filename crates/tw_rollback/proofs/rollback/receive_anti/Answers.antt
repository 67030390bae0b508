use Rattle.std.proofs.Common.{◌≡◌, ◌++◌, ◌∷◌, [], true, false, ap, sym, ◌∙◌}
use Rattle.tw_msgs.specs.Messages.{has}
use Rattle.tw_theory.specs.Contents.{removed, cut, steps_from, consumed_by, receive_anti, with_waiting, Annihilated as annihilated}
use Rattle.tw_theory.specs.Memory.{need_of_received}
use Rattle.tw_process.specs.Process.{with_spare, with_removed, with_noted, with_cut}
use Rattle.tw_process.proofs.Outcomes.{on_err_always}
use Rattle.tw_rollback.proofs.Receiving.{removed_same, anti_consumed, anti_waits, anti_needs, limit_refused, limit_given}
use Rattle.tw_rollback.proofs.rollback.receive_anti.Given.{Over}
use Rattle.tw_rollback.proofs.rollback.receive_anti.Goals.{Else-withdraw}
use Rattle.tw_rollback.proofs.rollback.receive_anti.Goals as goal

none_pending : (g : Over) (c : Else-withdraw g) → has c.args.message.now c.args.process.now.process.pending ≡ false
none_pending g c = sym c.withdraw.ensures.answer ∙ c.if-withdraw.false

start : (g : Over) (c : Else-withdraw g) → c.withdraw.new.self ≡ with_spare c.withdraw.new.self.spare c.args.process.now
start g c = c.withdraw.ensures.contents ∙ ap (with_spare c.withdraw.new.self.spare) (removed_same c.args.process.now c.args.message.now (none_pending g c))

pub returns-then-has_consumed-clause-received : goal.returns-then-has_consumed-clause-received
returns-then-has_consumed-clause-received g c =
    let m = c.args.message.now in
    let p = c.args.process.now in
    let at = (goal.at.returns-then-has_consumed-clause-received g c).Else-withdraw in
    let first = start g at in
    let n = c.withdraw-then-has_consumed.new.self in
    let there : has m (consumed_by p.process.history) ≡ true = sym (ap (λ x. has m (consumed_by x.process.history)) first) ∙ sym c.has_consumed.ensures ∙ c.if-has_consumed.true in
    let count : c.back_to-undone.result ≡ steps_from m.stamp p.process = c.back_to-undone.ensures.count ∙ ap (λ x. steps_from m.stamp x.process) first in
    let all : n ≡ record p { process = removed (cut m.stamp p.process) m; spare = n.spare } =
    c.withdraw-then-has_consumed.ensures.contents ∙ ap (λ b. with_spare n.spare (with_removed m b)) (c.back_to-undone.ensures.cut ∙ ap (with_cut m.stamp) first) in
    let came = anti_consumed p.process m (none_pending g at) there in
    record { process = all ∙ sym (ap (λ x. record p { process = x.1; spare = n.spare }) came); answer = ap annihilated count ∙ sym (ap (λ x. x.0) came) }

pub returns-in_err-note_orphan-clause-stays : goal.returns-in_err-note_orphan-clause-stays
returns-in_err-note_orphan-clause-stays g c =
    let n = c.note_orphan.new.self in
    on_err_always (n ≡ with_spare n.spare c.args.process.now) c.from_residual.result (c.in_err-note_orphan.ensures.stays ∙ ap (with_spare n.spare) (start g (goal.at.returns-in_err-note_orphan-clause-stays g c).Else-withdraw))

pub returns-clause-received : goal.returns-clause-received
returns-clause-received g c =
    let m = c.args.message.now in
    let p = c.args.process.now in
    let at = (goal.at.returns-clause-received g c).Else-withdraw in
    let first = start g at in
    let n = c.note_orphan.new.self in
    let none : has m (consumed_by p.process.history) ≡ false = sym (ap (λ x. has m (consumed_by x.process.history)) first) ∙ sym c.has_consumed.ensures ∙ c.if-has_consumed.false in
    let all : n ≡ record p { process = with_waiting p.process (p.process.waiting ++ m ∷ []); spare = n.spare } =
    c.in_ok-note_orphan.ensures.noted ∙ ap (λ b. with_spare n.spare (with_noted m b)) first in
    let came = anti_waits p.process m (none_pending g at) none in
    record { process = all ∙ sym (ap (λ x. record p { process = x.1; spare = n.spare }) came); answer = sym (ap (λ x. x.0) came) }

same_process : (g : Over) (c : Else-withdraw g) → c.withdraw.new.self.process ≡ c.args.process.now.process
same_process g c = ap (λ x. x.process) (start g c)

needs : (g : Over) (c : Else-withdraw g) → has c.args.message.now (consumed_by c.withdraw.new.self.process.history) ≡ false → need_of_received (receive_anti c.args.process.now.process c.args.message.now).0 ≡ 1
needs g c none = anti_needs c.args.process.now.process c.args.message.now (none_pending g c) (sym (ap (λ x. has c.args.message.now (consumed_by x.history)) (same_process g c)) ∙ none)

pub returns-in_err-note_orphan-clause-limit : goal.returns-in_err-note_orphan-clause-limit
returns-in_err-note_orphan-clause-limit g c =
    let at = (goal.at.returns-in_err-note_orphan-clause-limit g c).Else-withdraw in
    limit_refused _ _ _ _ c.note_orphan.result (same_process g at) (needs g at (sym c.has_consumed.ensures ∙ c.if-has_consumed.false)) c.note_orphan.ensures.limit c.in_err-note_orphan.field-0.0 c.from_residual.result c.in_err-note_orphan.was c.from_residual.ensures

pub returns-clause-limit : goal.returns-clause-limit
returns-clause-limit g c =
    let at = (goal.at.returns-clause-limit g c).Else-withdraw in
    limit_given _ _ _ _ c.note_orphan.result (same_process g at) (needs g at (sym c.has_consumed.ensures ∙ c.if-has_consumed.false)) c.note_orphan.ensures.limit _ _ c.in_ok-note_orphan.was
