use Rattle.std.proofs.Common.{sym, map, ◌∙◌}
use Rattle.std.proofs.lemmas.Option.{same_Some}
use Rattle.tw_machine_text.specs.Kinds.{kinds_of}
use Rattle.tw_machine_text.specs.TextViews.{names_of, declarations}
use Rattle.tw_machine_text.specs.Views.{body}
use Rattle.tw_machine_text.specs.declared.texts.Program.{Program}
use Rattle.tw_machine_text.proofs.Refusals.{moved, refused_as}
use Rattle.tw_machine_text.proofs.texts.read_program.Goals as goal

pub returns-in-Ok-clause-only : goal.returns-in-Ok-clause-only
returns-in-Ok-clause-only c program h =
    sym (same_Some program (body c.in-Ok.block) (c.in-Ok.ensures.only program (moved c.args.left (names_of c.args.declared.now) c.args.timing c.deref.result.now (kinds_of (declarations c.args.declared.now)) (map body c.args.procedures.now) c.as_bytes.result.now c.args.text.now program (c.deref.ensures.value ∙ c.in_ok-kinds.ensures) c.as_bytes.ensures.value h)))

pub returns-clause-only : goal.returns-clause-only
returns-clause-only c program h =
    refused_as body (λ (p : Program). body p.block) c.in-Err.refused c.refusal.result program c.refusal.ensures.memory (c.in-Err.ensures.only program (moved c.args.left (names_of c.args.declared.now) c.args.timing c.deref.result.now (kinds_of (declarations c.args.declared.now)) (map body c.args.procedures.now) c.as_bytes.result.now c.args.text.now program (c.deref.ensures.value ∙ c.in_ok-kinds.ensures) c.as_bytes.ensures.value h))

pub returns-in-Ok-clause-found : goal.returns-in-Ok-clause-found
returns-in-Ok-clause-found c =
    moved c.args.left (names_of c.args.declared.now) c.args.timing (kinds_of (declarations c.args.declared.now)) c.deref.result.now (map body c.args.procedures.now) c.args.text.now c.as_bytes.result.now (body c.in-Ok.block) (sym (c.deref.ensures.value ∙ c.in_ok-kinds.ensures)) (sym c.as_bytes.ensures.value) c.in-Ok.ensures.found
