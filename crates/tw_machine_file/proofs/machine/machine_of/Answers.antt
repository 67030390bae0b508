use Rattle.std.proofs.Common.{◌≡◌, ◌∙◌, ap, refl, sym, ℕ, List, Ok, codes}
use Rattle.std.specs.Prelude.{Option}
use Rattle.serde_json.specs.Data.{Data}
use Rattle.serde_json.specs.Find.{get}
use Rattle.serde_json.specs.View.{view}
use Rattle.tw_machine_declaration.specs.declared.declaration.Constant.{Constant}
use Rattle.tw_machine_file.specs.Answers.{names_in}
use Rattle.tw_machine_file.specs.Declares.{procedures_in, scope_of}
use Rattle.tw_machine_file.specs.Machine.{head_of, machine_made, machine_of, random_in, starts_of, texts_in}
use Rattle.tw_machine_file.specs.Seen.{Machine, Scope, Starts, Texts, scope, starts as seen_starts, texts as seen_texts}
use Rattle.tw_machine_file.specs.Shared.{SharedNames, shared}
use Rattle.tw_machine_file.specs.Timers.{least_in, timers_in}
use Rattle.tw_machine_file.proofs.machine.machine_of.Goals as goal

-- a machine of its parts
whole : (said : SharedNames) (before : List (List ℕ)) (d : Data) (name : List ℕ) (s p t : Scope) (random : Constant) (starts : Starts) (least : Option Constant) (texts : Texts)
    → head_of before d ≡ Ok name → scope_of said d ≡ Ok s → random_in s.numbers (get (codes "random") d) ≡ Ok random → procedures_in s (get (codes "procedures") d) ≡ Ok p
    → starts_of d p.timed p.numbers random ≡ Ok starts → timers_in p (get (codes "timers") d) ≡ Ok t → least_in t (get (codes "least") d) ≡ Ok least → texts_in said.fields t d ≡ Ok texts
    → machine_of said before d ≡ Ok (machine_made name t starts least texts)
whole said before d name s p t random starts least texts named declared drawn of begun timed short told = rw (named, declared, drawn, of, begun, timed, short, told) refl

pub returns-clause-ok : goal.returns-clause-ok
returns-clause-ok c =
    let s = scope c.in_ok-scope.scope in
    let p = scope c.in_ok-scope-2.scope in
    let t = scope c.in_ok-scope-3.scope in
    whole (shared c.args.said.now) (names_in c.args.before.now) (view c.args.value.now) c.in_ok-name.name.now s p t c.in_ok-random.random (seen_starts c.in_ok-starts.starts) c.in_ok-least.least (seen_texts c.in_ok-texts.texts)
    c.in_ok-name.ensures.ok
    c.in_ok-scope.ensures.ok
    c.in_ok-random.ensures.ok
    (ap (procedures_in s) (sym c.get.ensures) ∙ c.in_ok-scope-2.ensures.ok)
    c.in_ok-starts.ensures.ok
    (ap (timers_in p) (sym c.get-2.ensures) ∙ c.in_ok-scope-3.ensures.ok)
    (ap (least_in t) (sym c.get-3.ensures) ∙ c.in_ok-least.ensures.ok)
    c.in_ok-texts.ensures.ok
    ∙ ap (λ (m : Machine). Ok m) (sym c.in_ok-machine_made.ensures)
