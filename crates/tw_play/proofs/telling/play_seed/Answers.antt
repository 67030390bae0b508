use Rattle.std.proofs.Common.{arith, ◌≡◌, ◌∙◌, ap, sym, subst, string_bytes, ◌+◌}
use Rattle.std.specs.Prelude.{None, Some}
use Rattle.std.proofs.lemmas.Result.{IfOk-from_err}
use Rattle.tw_play.proofs.OneMore.{IsDrawing, drawing_done, drawing_idle, drawing_more, drawing_short, failed_only, on_ok, passed_on}
use Rattle.tw_seeded.specs.Schedules.{action_drawn, drawn, seeded}
use Rattle.tw_play.proofs.telling.play_seed.Goals as goal

pub loop-preserved : goal.loop-preserved
loop-preserved g c =
    let draws : action_drawn c.loop.player.executive (drawn c.loop.schedule) ≡ Some c.in-Some.action = ap (λ e. action_drawn e (drawn c.loop.schedule)) (sym c.executive.ensures) ∙ sym c.in-Some.ensures.action in
    subst (λ s. IsDrawing g.M.Atomic.meaning (seeded c.args.seed) (c.loop.counter + 1) c.args.player.now c.obey-answer.new.self s (g.W.Write.contents c.args.out.now) (g.W.Write.contents c.tell.new.out) (string_bytes c.tell.new.replies))
    (sym c.next_action.ensures.drawn)
    (drawing_more c.loop.counter c.loop.player c.obey-answer.new.self c.loop.schedule c.in-Some.action c.obey-answer.result _ _ _ _
    c.loop.invariant draws c.obey-answer.ensures c.in_ok-tell.ensures.enough c.in_ok-tell.ensures.told)

pub returns-in_default-clause-played : goal.returns-in_default-clause-played
returns-in_default-clause-played g c =
    let none : action_drawn c.loop.player.executive (drawn c.loop.schedule) ≡ None = ap (λ e. action_drawn e (drawn c.loop.schedule)) (sym c.executive.ensures) ∙ sym c.in_default.ensures.action in
    on_ok c.write_out.result _ _ (drawing_idle c.loop.counter c.args.steps c.loop.player c.loop.schedule _ _ _ (omega (arith, c.loop-test.true)) c.loop.invariant none) c.write_out.ensures.ok

pub returns-in_default-clause-wanting : goal.returns-in_default-clause-wanting
returns-in_default-clause-wanting g c = failed_only c.write_out.result _ c.write_out.ensures.err

pub returns-in_err-tell-clause-wanting : goal.returns-in_err-tell-clause-wanting
returns-in_err-tell-clause-wanting g c =
    let draws : action_drawn c.loop.player.executive (drawn c.loop.schedule) ≡ Some c.in-Some.action = ap (λ e. action_drawn e (drawn c.loop.schedule)) (sym c.executive.ensures) ∙ sym c.in-Some.ensures.action in
    passed_on c.from_residual.result c.in_err-tell.field-0.0 _ c.from_residual.ensures.1
    (λ e. drawing_short c.loop.counter c.args.steps c.loop.player c.obey-answer.new.self c.loop.schedule c.in-Some.action c.obey-answer.result _ _ _
    (omega (arith, c.loop-test.true)) c.loop.invariant draws c.obey-answer.ensures (c.in_err-tell.ensures.wanting e))

pub returns-clause-played : goal.returns-clause-played
returns-clause-played g c =
    on_ok c.write_out-2.result _ _ (drawing_done c.loop.counter c.args.steps c.loop.player c.loop.schedule _ _ _ (omega (arith, c.loop-test.false, c.loop.auto.counter-end)) c.loop.invariant) c.write_out-2.ensures.ok

pub returns-clause-wanting : goal.returns-clause-wanting
returns-clause-wanting g c = failed_only c.write_out-2.result _ c.write_out-2.ensures.err

pub returns-in_err-tell-clause-played : goal.returns-in_err-tell-clause-played
returns-in_err-tell-clause-played g c = IfOk-from_err _ _ c.from_residual.ensures.0
