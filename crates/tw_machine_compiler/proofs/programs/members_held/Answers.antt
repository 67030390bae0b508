use Rattle.std.proofs.Common.{◌≡◌, ◌∙◌, ap, sym, Option, Some, Result, Ok, Err, IfErr}
use Rattle.tw_machine_declaration.specs.Seen.{declaration, given}
use Rattle.tw_machine_compiler.specs.Limits.{otherwise}
use Rattle.tw_machine_compiler.specs.declared.limits.BadMachine.{BadMachine}
use Rattle.tw_machine_compiler.proofs.Faults.{from_members}
use Rattle.tw_machine_compiler.proofs.programs.members_held.Goals as goal

-- what is found first is the first of all
first_found : {A : Type 0} (r : Result A BadMachine) (all first later found : Option BadMachine) → all ≡ otherwise first later → found ≡ first → IfErr r (λ bad. found ≡ Some bad) → IfErr r (λ bad. all ≡ Some bad)
first_found (Ok x) all first later found e same h = tt
first_found (Err bad) all first later found e same h = e ∙ ap (λ (o : Option BadMachine). otherwise o later) (sym same ∙ h)

pub returns-clause-refused : goal.returns-clause-refused
returns-clause-refused c =
    first_found c.held.result _ _ _ _ (from_members (given c.args.given.now) (declaration c.args.declaration.now) c.args.standings.now c.requires) c.members_fault.ensures c.held.ensures.refused
