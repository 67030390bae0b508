use Rattle.serde_json.specs.View.{view}
use Rattle.tw_file_network.specs.TreeMeaning.{IsFault}
use Rattle.tw_file_network.proofs.BytesOfValue.{bytes_fail, bytes_mean, no_value}
use Rattle.tw_file_network.proofs.PartsInOrder.{passed_on}
use Rattle.tw_file_network.proofs.trees.network_of_any_file.Goals as goal

pub returns-in_err-value-clause-first_fault : goal.returns-in_err-value-clause-first_fault
returns-in_err-value-clause-first_fault c =
    passed_on c.from_residual.result c.in_err-value.field-0.0 (IsFault c.args.bytes.now) c.from_residual.ensures.1
    (λ other. no_value c.args.bytes.now c.in_err-value.field-0.0 (c.in_err-value.ensures.first_fault other))

pub returns-clause-network : goal.returns-clause-network
returns-clause-network c =
    bytes_mean c.args.bytes.now (view c.in_ok-value.value) c.in_ok-value.ensures.value c.network_of_value.result c.network_of_value.ensures.network

pub returns-clause-first_fault : goal.returns-clause-first_fault
returns-clause-first_fault c =
    bytes_fail c.args.bytes.now (view c.in_ok-value.value) c.in_ok-value.ensures.value c.network_of_value.result c.network_of_value.ensures.first_fault
