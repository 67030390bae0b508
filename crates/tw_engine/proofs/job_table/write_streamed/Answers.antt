use Rattle.tw_engine.proofs.Passing.{on_err}
use Rattle.tw_engine.proofs.Viewed.{text_begun}
use Rattle.tw_engine.specs.Ends.{failed_of}
use Rattle.tw_engine.specs.Views.{IsTableWritten, listing_text}
use Rattle.tw_texts.specs.Refusals.{not_written_refusal}
use Rattle.tw_engine.proofs.job_table.write_streamed.Goals as goal

pub returns-in_err-write_table : goal.returns-in_err-write_table
returns-in_err-write_table g c =
    let l = c.args.listing.now in
    let old = g.W.Write.contents c.args.out.now in
    let new = g.W.Write.contents c.write_table.new.out in
    let why = c.in_err-write_table.field-0.0 in
    on_err (λ end. IsTableWritten l.run.network.now c.args.fault (listing_text l) end old new) c.from_residual-in_err-write_table.result (failed_of (not_written_refusal why))
    c.from_residual-in_err-write_table.ensures.1 (text_begun l.run.network.now c.args.fault (listing_text l) why old new c.in_err-write_table.ensures.err)
