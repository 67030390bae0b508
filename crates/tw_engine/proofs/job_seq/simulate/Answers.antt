use Rattle.std.proofs.Common.{inl, subst}
use Rattle.std.specs.Prelude.{Option}
use Rattle.tw_any_model.specs.AnyModel.{any_meaning}
use Rattle.tw_network.specs.Contents.{network_of}
use Rattle.tw_theory.specs.Simulator.{sequential}
use Rattle.tw_engine.specs.Ends.{Fault}
use Rattle.tw_engine.specs.Runs.{IsShown}
use Rattle.tw_engine.proofs.job_seq.simulate.Goals as goal

pub returns : goal.returns
returns g c =
    let n = c.args.run.now.network.now in
    let old = g.W.Write.contents c.args.out.now in
    let new = g.W.Write.contents c.write_streamed-2.new.out in
    inl (subst (λ (f : Option Fault). IsShown n (sequential (network_of any_meaning n) c.args.run.now.until).records f c.write_streamed-2.result old new)
    c.in_ok-fault.ensures.fault c.write_streamed-2.ensures)
