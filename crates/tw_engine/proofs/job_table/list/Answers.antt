use Rattle.std.proofs.Common.{inl, subst}
use Rattle.std.specs.Prelude.{Option}
use Rattle.tw_engine.specs.Ends.{Fault}
use Rattle.tw_engine.specs.Views.{IsTableWritten, listing_text}
use Rattle.tw_engine.proofs.job_table.list.Goals as goal

pub returns : goal.returns
returns g c =
    let l = c.args.listing.now in
    let old = g.W.Write.contents c.args.out.now in
    let new = g.W.Write.contents c.write_streamed-2.new.out in
    inl (subst (λ (f : Option Fault). IsTableWritten l.run.network.now f (listing_text l) c.write_streamed-2.result old new) c.in_ok-fault.ensures.fault c.write_streamed-2.ensures)
