-- A command with one argument or one subcommand more.
use Rattle.std.proofs.Common.{◌≡◌, ◌∙◌, ◌||◌, ap}
use Rattle.std.specs.Prelude.{Bool, Result, Ok, Err, IfOk}
use Rattle.std.proofs.lemmas.Result.{IfOk-at_ok}
use Rattle.clap.specs.Words.{AddsArg, AddsSubcommand, App, Rule, app_of, rule_of, with_rule, with_subcommand}
use Rattle.clap.specs.declared.builder.arg.Arg.{Arg}
use Rattle.clap.specs.declared.builder.command.Command.{Command}
use Rattle.clap.specs.declared.builder.command.Command.TheViews.{out-Command}
use Rattle.tw_cli.specs.Lines.{IsArg, IsCommand, IsJoined}

-- it has the argument's rule more
pub grown : (old new : Command) (a : Arg) (app : App) (rule : Rule) → AddsArg old a new → IsArg rule a → IsCommand app old → IsCommand (with_rule app rule) new
grown old new a app rule adds is_arg is_command = (
  adds.shape is_arg.1 ∙ ap (λ (x : App). with_rule x (rule_of a)) is_command.0 ∙ ap (with_rule app) is_arg.0,
  adds.globals ∙ ap (λ (b : Bool). b || a.global) is_command.1 ∙ is_arg.1,
)

-- the same where it could be made
pub grows : {E : Type 0} (old : Command) (a : Arg) (app : App) (rule : Rule) (r : Result Command E)
    → IfOk r (AddsArg old a) → IsArg rule a → IsCommand app old → IfOk r (IsCommand (with_rule app rule))
grows old a app rule (Ok new) adds is_arg is_command = grown old new a app rule adds is_arg is_command
grows old a app rule (Err e) adds is_arg is_command = tt

-- it has the subcommand more
pub joined : (old sub new : Command) (app added : App)
    → AddsSubcommand old sub new → IsCommand added sub → IsCommand app old → IsCommand (with_subcommand app added.top) new
joined old sub new app added adds is_sub is_command = (
  adds.shape is_sub.1
      ∙ ap (λ (x : App). with_subcommand x (app_of sub).top) is_command.0
      ∙ ap (λ (x : App). with_subcommand app x.top) is_sub.0,
  adds.globals ∙ ap (λ (b : Bool). b || (out-Command sub).has_globals) is_command.1 ∙ is_sub.1,
)

-- the same of one that had to be made
pub with_made : {E : Type 0} (old new : Command) (made : Result Command E) (app added : App)
    → IsJoined old made new → IfOk made (IsCommand added) → IsCommand app old → IsCommand (with_subcommand app added.top) new
with_made old new made app added (sub, is, adds) is_sub is_command =
    joined old sub new app added adds (IfOk-at_ok (IsCommand added) is is_sub) is_command

-- the same where it could be added
pub joins : {E F : Type 0} (old : Command) (made : Result Command E) (app added : App) (r : Result Command F)
    → IfOk r (IsJoined old made) → IfOk made (IsCommand added) → IsCommand app old → IfOk r (IsCommand (with_subcommand app added.top))
joins old made app added (Ok new) joined is_sub is_command = with_made old new made app added joined is_sub is_command
joins old made app added (Err e) joined is_sub is_command = tt
