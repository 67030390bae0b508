use Rattle.std.proofs.Common.{codes, rules}
use Rattle.tw_script.proofs.Saying.{no_component, no_delivery, no_rollback, no_verb, one_said}
use Rattle.tw_script.proofs.line.command_with.Goals as goal

pub returns-in_default-clause-none : goal.returns-in_default-clause-none
returns-in_default-clause-none g c = no_verb c.args.network.now.names c.args.verb.now c.args.operands.now c.requires c.in_default.not-step c.in_default.not-post c.in_default.not-harvest c.in_default.not-show c.in_default.not-deliver c.in_default.not-back

pub returns-in_err-find-in-step-clause-none : goal.returns-in_err-find-in-step-clause-none
returns-in_err-find-in-step-clause-none g c =
    rw c.from_residual.ensures (no_component c.args.network.now.names c.args.verb.now c.args.operands.now c.requires (search rules) (search rules) c.in_err-find-in-step.ensures.absent)

pub returns-in_err-find-in-post-clause-none : goal.returns-in_err-find-in-post-clause-none
returns-in_err-find-in-post-clause-none g c =
    rw c.from_residual-in_err-find-in-post.ensures (no_component c.args.network.now.names c.args.verb.now c.args.operands.now c.requires (search rules) (search rules) c.in_err-find-in-post.ensures.absent)

pub returns-in_err-find-in-harvest-clause-none : goal.returns-in_err-find-in-harvest-clause-none
returns-in_err-find-in-harvest-clause-none g c =
    rw c.from_residual-in_err-find-in-harvest.ensures (no_component c.args.network.now.names c.args.verb.now c.args.operands.now c.requires (search rules) (search rules) c.in_err-find-in-harvest.ensures.absent)

pub returns-in_err-find-in-show-clause-none : goal.returns-in_err-find-in-show-clause-none
returns-in_err-find-in-show-clause-none g c =
    rw c.from_residual-in_err-find-in-show.ensures (no_component c.args.network.now.names c.args.verb.now c.args.operands.now c.requires (search rules) (search rules) c.in_err-find-in-show.ensures.absent)

pub returns-in_ok-find-in-step-clause-said : goal.returns-in_ok-find-in-step-clause-said
returns-in_ok-find-in-step-clause-said g c =
    let is = one_said c.args.network.now.names c.in_ok-find-in-step.field-0 (codes "step") c.args.verb.now c.args.operands.now c.in-step.is c.in_ok-find-in-step.ensures.found in
    record { fits = is.0; is_line = is.1 }

pub returns-in_ok-find-in-post-clause-said : goal.returns-in_ok-find-in-post-clause-said
returns-in_ok-find-in-post-clause-said g c =
    let is = one_said c.args.network.now.names c.in_ok-find-in-post.field-0 (codes "post") c.args.verb.now c.args.operands.now c.in-post.is c.in_ok-find-in-post.ensures.found in
    record { fits = is.0; is_line = is.1 }

pub returns-in_ok-find-in-harvest-clause-said : goal.returns-in_ok-find-in-harvest-clause-said
returns-in_ok-find-in-harvest-clause-said g c =
    let is = one_said c.args.network.now.names c.in_ok-find-in-harvest.field-0 (codes "harvest") c.args.verb.now c.args.operands.now c.in-harvest.is c.in_ok-find-in-harvest.ensures.found in
    record { fits = is.0; is_line = is.1 }

pub returns-in_ok-find-in-show-clause-said : goal.returns-in_ok-find-in-show-clause-said
returns-in_ok-find-in-show-clause-said g c =
    let is = one_said c.args.network.now.names c.in_ok-find-in-show.field-0 (codes "show") c.args.verb.now c.args.operands.now c.in-show.is c.in_ok-find-in-show.ensures.found in
    record { fits = is.0; is_line = is.1 }

pub returns-in_err-delivery-in-deliver-clause-none : goal.returns-in_err-delivery-in-deliver-clause-none
returns-in_err-delivery-in-deliver-clause-none g c =
    rw c.from_residual-in_err-delivery-in-deliver.ensures (no_delivery c.args.network.now.names c.args.verb.now c.args.operands.now c.requires c.in-deliver.is c.in_err-delivery-in-deliver.ensures.none)

pub returns-in_err-rollback-in-back-clause-none : goal.returns-in_err-rollback-in-back-clause-none
returns-in_err-rollback-in-back-clause-none g c =
    rw c.from_residual-in_err-rollback-in-back.ensures (no_rollback c.args.network.now.names c.args.verb.now c.args.operands.now c.requires c.in-back.is c.in_err-rollback-in-back.ensures.none)
