use Rattle.std.proofs.Common.{inl, inr}
use Rattle.tw_engine.proofs.Driven.{keeps_all}
use Rattle.tw_engine.proofs.Passing.{on_err}
use Rattle.tw_engine.specs.Drawings.{IsScriptDrawnBy}
use Rattle.tw_engine.proofs.job_draw.draw_by_script.Goals as goal

pub returns-in_err-lines-clause-done : goal.returns-in_err-lines-clause-done
returns-in_err-lines-clause-done g c =
    let old = g.W.Write.contents c.args.out.now in
    on_err (λ end. IsScriptDrawnBy c.args.bytes.now c.args.warp.start.until end (g.S.Read.remaining c.args.script.now) old old)
    c.from_residual-in_err-lines.result c.in_err-lines.field-0.0 c.from_residual-in_err-lines.ensures.1
    (inr (c.in_ok-network.network, c.in_ok-network.ensures.ok, inl (c.in_err-lines.ensures.err, keeps_all old)))
