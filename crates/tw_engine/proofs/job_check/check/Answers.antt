use Rattle.tw_engine.proofs.Checked.{checked_fault}
use Rattle.tw_file_network.proofs.BytesOfValue.{no_value}
use Rattle.tw_engine.proofs.job_check.check.Goals as goal

pub returns-in-Ok : goal.returns-in-Ok
returns-in-Ok g c = c.check_value.ensures c.args.bytes.now c.in-Ok.ensures.value

-- the bytes are no JSON
pub returns-in-Err : goal.returns-in-Err
returns-in-Err g c =
    checked_fault c.args.bytes.now c.args.strict c.in-Err.fault c.write_fault.result _ _
    (λ other. no_value c.args.bytes.now c.in-Err.fault (c.in-Err.ensures.first_fault other)) c.write_fault.ensures
