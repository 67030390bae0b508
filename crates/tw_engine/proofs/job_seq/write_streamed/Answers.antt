use Rattle.tw_any_model.specs.AnyModel.{any_meaning}
use Rattle.tw_network.specs.Contents.{network_of}
use Rattle.tw_texts.specs.Refusals.{not_written_refusal}
use Rattle.tw_theory.specs.Simulator.{sequential}
use Rattle.tw_engine.specs.Ends.{failed_of}
use Rattle.tw_engine.specs.Runs.{IsShown}
use Rattle.tw_engine.proofs.Passing.{on_err}
use Rattle.tw_engine.proofs.Showing.{text_short}
use Rattle.tw_engine.proofs.job_seq.write_streamed.Goals as goal

pub returns-in_err-write_lines : goal.returns-in_err-write_lines
returns-in_err-write_lines g c =
    let n = c.args.run.now.network.now in
    let records = (sequential (network_of any_meaning n) c.args.run.now.until).records in
    let old = g.W.Write.contents c.args.out.now in
    let new = g.W.Write.contents c.write_lines.new.out in
    on_err (λ end. IsShown n records c.args.fault end old new) c.from_residual-in_err-write_lines.result (failed_of (not_written_refusal c.in_err-write_lines.field-0.0))
    c.from_residual-in_err-write_lines.ensures.1 (text_short n records c.args.fault c.in_err-write_lines.field-0.0 old new c.in_err-write_lines.ensures.err)
