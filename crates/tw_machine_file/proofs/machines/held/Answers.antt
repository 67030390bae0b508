-- A machine that is used is held by nothing here, another by its limits.
use Rattle.std.proofs.Common.{◌∙◌, ap, sym, subst, Bool, Ok, Result}
use Rattle.std.specs.Prelude.{if◌then◌else◌}
use Rattle.serde_json.specs.View.{view}
use Rattle.tw_machine_declaration.specs.Seen as plain
use Rattle.tw_machine_file.specs.Answers.{FailsBy}
use Rattle.tw_machine_file.specs.Fault.{Fault}
use Rattle.tw_machine_file.specs.Machines.{within_limits}
use Rattle.tw_machine_file.specs.Used.{is_used}
use Rattle.tw_machine_file.proofs.machines.held.Goals as goal

pub returns-then-is_used-clause-ok : goal.returns-then-is_used-clause-ok
returns-then-is_used-clause-ok c =
    let limits = within_limits (plain.declaration c.args.machine.now.declaration) in
    ap (λ (used : Bool). if used then Ok tt else limits) (ap (is_used (view c.args.file.now)) (sym c.as_str.ensures.value) ∙ sym c.is_used.ensures ∙ c.if-is_used.true)

pub returns-clause-err : goal.returns-clause-err
returns-clause-err c =
    let limits = within_limits (plain.declaration c.args.machine.now.declaration) in
    subst (λ (said : Result (Unit {0}) Fault). FailsBy c.within_limits.result said)
    (sym (ap (λ (used : Bool). if used then Ok tt else limits) (ap (is_used (view c.args.file.now)) (sym c.as_str.ensures.value) ∙ sym c.is_used.ensures ∙ c.if-is_used.false)))
    c.within_limits.ensures.err
