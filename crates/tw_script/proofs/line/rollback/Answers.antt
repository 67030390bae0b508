use Rattle.std.proofs.Common.{rules, arith, ◌≡◌, ◌++◌, ◌∷◌}
use Rattle.std.proofs.lemmas.Str.Pattern.{split_after, split_parts}
use Rattle.tw_script.proofs.Named.{names_free}
use Rattle.tw_script.proofs.Saying.{is_named, rollback_said}
use Rattle.tw_script.specs.Scripts.{name_of}
use Rattle.tw_vtime.specs.Stamps.{stamp_text}
use Rattle.tw_script.proofs.line.rollback.Goals as goal

pub returns-in_err-component-clause-none : goal.returns-in_err-component-clause-none
returns-in_err-component-clause-none g c = rw c.from_residual.ensures (λ p s known is e.
    let names = c.args.network.now.names in
    let cut = split_after 32 c.args.operands.now (name_of names p) (stamp_text s) c.split_once.result c.split_once.ensures.cases (omega arith) e (names_free names c.facts.ensures.names p known) in
    search (rules, cut))

pub returns-in_err-component-2-clause-none : goal.returns-in_err-component-2-clause-none
returns-in_err-component-2-clause-none g c = rw c.from_residual-in_err-component-2.ensures (λ p s known is e.
    let names = c.args.network.now.names in
    let cut = split_after 32 c.args.operands.now (name_of names p) (stamp_text s) c.split_once.result c.split_once.ensures.cases (omega arith) e (names_free names c.facts.ensures.names p known) in
    let parts : (c.in_ok-component.component.now ≡ name_of names p) × (c.in_ok-component.at.now ≡ stamp_text s) = search (rules, cut) in
    c.in_err-component-2.ensures.absent (is_named names p _ known parts.0))

pub returns-in_err-stamp-clause-none : goal.returns-in_err-stamp-clause-none
returns-in_err-stamp-clause-none g c = rw c.from_residual-in_err-stamp.ensures (λ p s known is e.
    let names = c.args.network.now.names in
    let cut = split_after 32 c.args.operands.now (name_of names p) (stamp_text s) c.split_once.result c.split_once.ensures.cases (omega arith) e (names_free names c.facts.ensures.names p known) in
    let parts : (c.in_ok-component.component.now ≡ name_of names p) × (c.in_ok-component.at.now ≡ stamp_text s) = search (rules, cut) in
    c.in_err-stamp.ensures.none s is parts.1)

pub returns-clause-said : goal.returns-clause-said
returns-clause-said g c =
    let names = c.args.network.now.names in
    let first = split_parts 32 c.args.operands.now c.split_once.result c.split_once.ensures.cases (omega arith) in
    let parts : c.args.operands.now ≡ c.in_ok-component.component.now ++ 32 ∷ c.in_ok-component.at.now = search (rules, first) in
    rollback_said names _ _ c.args.operands.now c.in_ok-component.component.now c.in_ok-component.at.now parts c.in_ok-component-2.ensures.found c.in_ok-stamp.ensures.written (search rules)
