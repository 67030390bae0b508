use Rattle.std.proofs.Common.{None, Some, arith, subst, sym}
use Rattle.std.specs.Prelude.{IfNone, IfSome}
use Rattle.std.proofs.lemmas.Str.Pattern.{split_parts}
use Rattle.tw_script.proofs.line.command_of.Goals as goal
use Rattle.tw_script.specs.Scripts.{Says}
use Rattle.tw_script.specs.declared.command.Command.{Command}

pub command_alone-requires : goal.command_alone-requires
command_alone-requires g c = split_parts 32 c.args.line.now None c.in-None.ensures.cases (omega arith)

pub command_with-requires : goal.command_with-requires
command_with-requires g c = (split_parts 32 c.args.line.now (Some (c.in-Some.verb, c.in-Some.operands)) c.in-Some.ensures.cases (omega arith)).1

pub returns-in-Some-clause-said : goal.returns-in-Some-clause-said
returns-in-Some-clause-said g c =
    let parts = split_parts 32 c.args.line.now (Some (c.in-Some.verb, c.in-Some.operands)) c.in-Some.ensures.cases (omega arith) in
    subst (λ l. IfSome c.command_with.result (λ command. Says c.args.network.now.names command l)) (sym parts.0) c.command_with.ensures.said

pub returns-in-Some-clause-none : goal.returns-in-Some-clause-none
returns-in-Some-clause-none g c =
    let parts = split_parts 32 c.args.line.now (Some (c.in-Some.verb, c.in-Some.operands)) c.in-Some.ensures.cases (omega arith) in
    subst (λ l. IfNone c.command_with.result ((command : Command) → Says c.args.network.now.names command l → ⊥)) (sym parts.0) c.command_with.ensures.none
