use Rattle.std.proofs.Common.{◌∙◌, ap, subst, sym}
use Rattle.serde_json.specs.View.{view}
use Rattle.tw_engine.proofs.NoNetwork.{no_network}
use Rattle.tw_engine.specs.Ends.{failed_of}
use Rattle.tw_engine.specs.Runs.{HasNoNetwork}
use Rattle.tw_file_network.proofs.BytesOfValue.{no_value, value_fails, value_means}
use Rattle.tw_engine.proofs.reading.file_in.Goals as goal

-- the bytes are no JSON
pub returns-in-Err-clause-err : goal.returns-in-Err-clause-err
returns-in-Err-clause-err c =
    subst (HasNoNetwork c.args.bytes.now) (sym (c.from-in-Err.ensures ∙ ap failed_of c.from.ensures))
    (no_network c.args.bytes.now c.in-Err.refused
    (λ other. no_value c.args.bytes.now c.in-Err.refused (c.in-Err.ensures.first_fault other)))

pub returns-in-Ok-network_of_value-clause-network : goal.returns-in-Ok-network_of_value-clause-network
returns-in-Ok-network_of_value-clause-network c =
    value_means c.args.bytes.now (view c.in-Ok.value) c.in-Ok.ensures.value c.in-Ok-network_of_value.network c.in-Ok-network_of_value.ensures.network

pub returns-in-Err-network_of_value-clause-err : goal.returns-in-Err-network_of_value-clause-err
returns-in-Err-network_of_value-clause-err c =
    subst (HasNoNetwork c.args.bytes.now) (sym (c.from-in-Err-network_of_value-2.ensures ∙ ap failed_of c.from-in-Err-network_of_value.ensures))
    (no_network c.args.bytes.now c.in-Err-network_of_value.refused
    (λ other. value_fails c.args.bytes.now (view c.in-Ok.value) c.in-Ok.ensures.value c.in-Err-network_of_value.refused (c.in-Err-network_of_value.ensures.first_fault other)))
