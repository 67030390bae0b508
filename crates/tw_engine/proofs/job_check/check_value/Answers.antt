use Rattle.std.proofs.Common.{◌∙◌, ap, subst}
use Rattle.std.specs.Prelude.{List, map}
use Rattle.serde_json.specs.View.{view}
use Rattle.tw_engine.proofs.Checked.{checked_fault, checked_network, warned_of_bytes}
use Rattle.tw_engine.specs.Checks.{IsWarned}
use Rattle.tw_file_network.proofs.BytesOfValue.{value_fails, value_means}
use Rattle.tw_machine_warnings.specs.Warning.{Warning, warning}
use Rattle.tw_engine.proofs.job_check.check_value.Goals as goal

pub returns-in_ok-warnings-in-Ok : goal.returns-in_ok-warnings-in-Ok
returns-in_ok-warnings-in-Ok g c = λ bytes json.
    let n = c.in-Ok.network in
    let old = g.W.Write.contents c.args.out.now in
    let new = g.W.Write.contents c.write_checked.new.out in
    let same = ap (map warning) c.as_slice.ensures.value ∙ c.in_ok-warnings-in-Ok.ensures ∙ warned_of_bytes bytes (view c.args.value.now) json in
    checked_network bytes n c.args.strict c.write_checked.result old new
    (value_means bytes (view c.args.value.now) json n c.in-Ok.ensures.network)
    (subst (λ (ws : List Warning). IsWarned n ws c.args.strict c.write_checked.result old new) same c.write_checked.ensures)

pub returns-in-Err : goal.returns-in-Err
returns-in-Err g c = λ bytes json.
    checked_fault bytes c.args.strict c.in-Err.fault c.write_fault.result _ _
    (λ other. value_fails bytes (view c.args.value.now) json c.in-Err.fault (c.in-Err.ensures.first_fault other)) c.write_fault.ensures
