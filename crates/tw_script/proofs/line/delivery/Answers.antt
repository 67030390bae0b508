use Rattle.std.proofs.Common.{rules, arith, ◌≡◌, ◌++◌, ◌∷◌, decimal}
use Rattle.std.proofs.lemmas.Str.Pattern.{split_after, split_parts}
use Rattle.tw_script.proofs.Named.{names_free}
use Rattle.tw_script.proofs.Saying.{delivery_said, is_named}
use Rattle.tw_script.specs.Scripts.{name_of}
use Rattle.tw_script.proofs.line.delivery.Goals as goal

pub returns-in_err-receiver-clause-none : goal.returns-in_err-receiver-clause-none
returns-in_err-receiver-clause-none g c = rw c.from_residual.ensures (λ q i known small e.
    let names = c.args.network.now.names in
    let cut = split_after 32 c.args.operands.now (name_of names q) (decimal i) c.split_once.result c.split_once.ensures.cases (omega arith) e (names_free names c.facts.ensures.names q known) in
    search (rules, cut))

pub returns-in_err-receiver-2-clause-none : goal.returns-in_err-receiver-2-clause-none
returns-in_err-receiver-2-clause-none g c = rw c.from_residual-in_err-receiver-2.ensures (λ q i known small e.
    let names = c.args.network.now.names in
    let cut = split_after 32 c.args.operands.now (name_of names q) (decimal i) c.split_once.result c.split_once.ensures.cases (omega arith) e (names_free names c.facts.ensures.names q known) in
    let parts : (c.in_ok-receiver.receiver.now ≡ name_of names q) × (c.in_ok-receiver.place.now ≡ decimal i) = search (rules, cut) in
    c.in_err-receiver-2.ensures.absent (is_named names q _ known parts.0))

pub returns-in_err-number-clause-none : goal.returns-in_err-number-clause-none
returns-in_err-number-clause-none g c = rw c.from_residual-in_err-number.ensures (λ q i known small e.
    let names = c.args.network.now.names in
    let cut = split_after 32 c.args.operands.now (name_of names q) (decimal i) c.split_once.result c.split_once.ensures.cases (omega arith) e (names_free names c.facts.ensures.names q known) in
    let parts : (c.in_ok-receiver.receiver.now ≡ name_of names q) × (c.in_ok-receiver.place.now ≡ decimal i) = search (rules, cut) in
    c.in_err-number.ensures.none i small parts.1)

pub returns-clause-said : goal.returns-clause-said
returns-clause-said g c =
    let names = c.args.network.now.names in
    let first = split_parts 32 c.args.operands.now c.split_once.result c.split_once.ensures.cases (omega arith) in
    let parts : c.args.operands.now ≡ c.in_ok-receiver.receiver.now ++ 32 ∷ c.in_ok-receiver.place.now = search (rules, first) in
    delivery_said names _ _ c.args.operands.now c.in_ok-receiver.receiver.now c.in_ok-receiver.place.now parts c.in_ok-receiver-2.ensures.found c.in_ok-number.ensures.written (search rules)
