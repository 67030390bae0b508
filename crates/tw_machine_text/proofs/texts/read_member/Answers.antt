use Rattle.std.proofs.Common.{sym, ◌∙◌}
use Rattle.std.proofs.lemmas.Option.{same_Some}
use Rattle.tw_machine_text.specs.Kinds.{kinds_of}
use Rattle.tw_machine_text.specs.TextViews.{names_of, declarations}
use Rattle.tw_machine_text.specs.Views.{tree}
use Rattle.tw_machine_text.specs.declared.texts.Expression.{Expression}
use Rattle.tw_machine_text.proofs.Refusals.{moved_tree, refused_as}
use Rattle.tw_machine_text.proofs.texts.read_member.Goals as goal

pub returns-in-Ok-clause-only : goal.returns-in-Ok-clause-only
returns-in-Ok-clause-only c e h =
    sym (same_Some e (tree c.in-Ok.tree) (c.in-Ok.ensures.only e (moved_tree c.args.left c.args.member (names_of c.args.declared.now) c.args.timing c.deref.result.now (kinds_of (declarations c.args.declared.now)) c.as_bytes.result.now c.args.text.now e (c.deref.ensures.value ∙ c.in_ok-kinds.ensures) c.as_bytes.ensures.value h)))

pub returns-clause-only : goal.returns-clause-only
returns-clause-only c e h =
    refused_as tree (λ (x : Expression). tree x.tree) c.in-Err.refused c.refusal.result e c.refusal.ensures.memory (c.in-Err.ensures.only e (moved_tree c.args.left c.args.member (names_of c.args.declared.now) c.args.timing c.deref.result.now (kinds_of (declarations c.args.declared.now)) c.as_bytes.result.now c.args.text.now e (c.deref.ensures.value ∙ c.in_ok-kinds.ensures) c.as_bytes.ensures.value h))

pub returns-in-Ok-clause-found : goal.returns-in-Ok-clause-found
returns-in-Ok-clause-found c =
    moved_tree c.args.left c.args.member (names_of c.args.declared.now) c.args.timing (kinds_of (declarations c.args.declared.now)) c.deref.result.now c.args.text.now c.as_bytes.result.now (tree c.in-Ok.tree) (sym (c.deref.ensures.value ∙ c.in_ok-kinds.ensures)) (sym c.as_bytes.ensures.value) c.in-Ok.ensures.found
