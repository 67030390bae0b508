-- The members decide first; where none is wrong, the limits. What these say does not hang on where boxes lie.
use Rattle.std.proofs.Common.{◌≡◌, ap, sym, ◌∙◌}
use Rattle.std.specs.Prelude.{List, Option, None}
use Rattle.tw_machine.specs.Program.{ProgramText}
use Rattle.tw_machine_declaration.specs.Seen.{Declaration, Given}
use Rattle.tw_machine_compiler.specs.declared.limits.BadMachine.{BadMachine}
use Rattle.tw_machine_declaration.specs.declared.names.Standing.{Standing}
use Rattle.tw_machine_declaration.specs.Names.{standings_of}
use Rattle.tw_machine.specs.Seen.{seen_program}
use Rattle.tw_machine_compiler.specs.Program.{program_of}
use Rattle.tw_machine_compiler.specs.Limits.{members_fault, limit, otherwise, fault_of}

pub from_members : (given : Given) (d : Declaration) (ss : List Standing) → ss ≡ standings_of given d.names → fault_of given d ≡ otherwise (members_fault given d ss) (limit ss d (program_of given d))
from_members given d ss e = ap (λ (s : List Standing). otherwise (members_fault given d s) (limit s d (program_of given d))) (sym e)

pub behind_members : (given : Given) (d : Declaration) (ss : List Standing) (p : ProgramText) → ss ≡ standings_of given d.names → seen_program p ≡ program_of given d → members_fault given d ss ≡ None → fault_of given d ≡ limit ss d p
behind_members given d ss p e f h =
    from_members given d ss e
    ∙ ap (λ (q : ProgramText). otherwise (members_fault given d ss) (limit ss d q)) (sym f)
    ∙ ap (λ (o : Option BadMachine). otherwise o (limit ss d p)) h
