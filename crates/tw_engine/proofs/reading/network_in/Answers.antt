use Rattle.std.proofs.Common.{◌∙◌, ap, subst, sym}
use Rattle.tw_engine.proofs.NoNetwork.{no_network}
use Rattle.tw_engine.specs.Ends.{failed_of}
use Rattle.tw_engine.specs.Runs.{HasNoNetwork}
use Rattle.tw_engine.proofs.reading.network_in.Goals as goal

pub returns-in-Err-clause-err : goal.returns-in-Err-clause-err
returns-in-Err-clause-err c =
    subst (HasNoNetwork c.args.bytes.now) (sym (c.from-in-Err.ensures ∙ ap failed_of c.from.ensures)) (no_network c.args.bytes.now c.in-Err.refused c.in-Err.ensures.first_fault)
