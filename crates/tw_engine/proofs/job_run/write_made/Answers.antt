use Rattle.tw_texts.specs.Refusals.{not_written_refusal}
use Rattle.tw_engine.specs.Ends.{failed_of}
use Rattle.tw_engine.specs.Runs.{IsShown}
use Rattle.tw_engine.proofs.Passing.{on_err}
use Rattle.tw_engine.proofs.Showing.{text_short}
use Rattle.tw_engine.proofs.job_run.write_made.Goals as goal

pub returns-in_err-write_trace : goal.returns-in_err-write_trace
returns-in_err-write_trace g c =
    let n = c.args.network.now in
    let old = g.W.Write.contents c.args.out.now in
    let new = g.W.Write.contents c.write_trace.new.out in
    on_err (λ end. IsShown n c.args.records.now c.args.fault end old new) c.from_residual-in_err-write_trace.result (failed_of (not_written_refusal c.in_err-write_trace.field-0.0))
    c.from_residual-in_err-write_trace.ensures.1 (text_short n c.args.records.now c.args.fault c.in_err-write_trace.field-0.0 old new c.in_err-write_trace.ensures.err)
