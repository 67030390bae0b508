use Rattle.std.proofs.Common.{◌≡◌, ◌≢◌, ◌∙◌, List, ap, map, sym, Option, Some, None, Result, Ok, Err, IfOk, IfErr}
use Rattle.tw_machine.specs.Program.{ProgramText, text_of}
use Rattle.tw_machine_declaration.specs.declared.names.Standing.{Standing}
use Rattle.tw_machine_declaration.specs.Seen.{declaration, given, name}
use Rattle.tw_machine_declaration.specs.Names.{standings_of}
use Rattle.tw_machine_compiler.specs.Statements.{block}
use Rattle.tw_machine_compiler.specs.Limits.{members_fault, limit, fault_of}
use Rattle.tw_machine_compiler.specs.declared.limits.BadMachine.{BadMachine}
use Rattle.tw_machine_compiler.specs.declared.limits.BadMachine.TheVariants.{OutOfMemory}
use Rattle.tw_machine_compiler.proofs.Faults.{behind_members}
use Rattle.tw_machine_compiler.proofs.programs.compile.Goals as goal

no_fault : {A : Type 0} (r : Result A BadMachine) (f g : Option BadMachine) → f ≡ g → IfOk r (λ _. g ≡ None) → IfOk r (λ _. f ≡ None)
no_fault (Ok x) f g e h = e ∙ h
no_fault (Err bad) f g e h = tt

first_fault : {A : Type 0} (r : Result A BadMachine) (f g : Option BadMachine) → f ≡ g → IfErr r (λ bad. g ≡ Some bad) → IfErr r (λ bad. bad ≢ OutOfMemory → f ≡ Some bad)
first_fault (Ok x) f g e h = tt
first_fault (Err bad) f g e h = λ _. e ∙ h

-- what is found of the parts is the machine's
found : (c : goal.After-drop-standings-2) → fault_of (given c.args.given.now) (declaration c.args.declaration.now) ≡ limit c.deref-3.result.now (declaration c.args.declaration.now) (text_of c.in_ok-parts.parts)
found c =
    let g = given c.args.given.now in
    let d = declaration c.args.declaration.now in
    let p = text_of c.in_ok-parts.parts in
    let same = c.in_ok-standings.ensures ∙ ap (λ names. standings_of g (map name names)) c.as_slice.ensures.value in
    let held = ap (members_fault g d) (sym c.deref.ensures.value) ∙ c.in_ok-members_held.ensures.held in
    behind_members g d c.in_ok-standings.standings.items p same c.in_ok-parts.ensures held
    ∙ ap (λ ss. limit ss d p) (sym c.deref-3.ensures.value)

pub returns-clause-sound : goal.returns-clause-sound
returns-clause-sound c = no_fault c.limited.result _ _ (found c) c.limited.ensures.sound

pub returns-clause-refused : goal.returns-clause-refused
returns-clause-refused c = first_fault c.limited.result _ _ (found c) c.limited.ensures.refused

pub limited-requires-clause-internal : goal.limited-requires-clause-internal
limited-requires-clause-internal c =
    let g = given c.args.given.now in
    let d = declaration c.args.declaration.now in
    let same = c.in_ok-standings.ensures ∙ ap (λ names. standings_of g (map name names)) c.as_slice.ensures.value in
    ap (λ (p : ProgramText). p.internal) c.in_ok-parts.ensures ∙ ap (λ (ss : List Standing). block ss d.internal) (sym (c.deref-3.ensures.value ∙ same))

pub limited-requires-clause-external : goal.limited-requires-clause-external
limited-requires-clause-external c =
    let g = given c.args.given.now in
    let d = declaration c.args.declaration.now in
    let same = c.in_ok-standings.ensures ∙ ap (λ names. standings_of g (map name names)) c.as_slice.ensures.value in
    ap (λ (p : ProgramText). p.external) c.in_ok-parts.ensures ∙ ap (λ (ss : List Standing). block ss d.external) (sym (c.deref-3.ensures.value ∙ same))
