use Rattle.std.proofs.Common.{◌∙◌, sym}
use Rattle.tw_machine.specs.Program.{text_of}
use Rattle.tw_machine_declaration.specs.Seen.{declaration}
use Rattle.tw_machine.specs.Seen.{seen_program}
use Rattle.tw_machine_compiler.proofs.Places.{limits_seen}
use Rattle.tw_machine_compiler.proofs.Logged.{within_any}
use Rattle.tw_machine_compiler.proofs.programs.limited.Goals as goal

-- the same of the parts where no box lies anywhere
pub program-requires : goal.program-requires
program-requires c =
    let p = text_of c.args.parts in
    let none = sym c.limit.ensures ∙ c.in-None.is in
    sym (limits_seen p) ∙ within_any c.args.standings.now (declaration c.args.declaration.now) (seen_program p) c.requires.internal c.requires.external none
