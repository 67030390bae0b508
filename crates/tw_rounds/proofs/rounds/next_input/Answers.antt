-- In order, the first input is the least.
use Rattle.std.proofs.Common.{◌≡◌, ◌+◌, ◌<◌, ◌∷◌, ◌∙◌, ap, sym, subst, drop, length}
use Rattle.std.proofs.lemmas.List.{drop_more}
use Rattle.std.specs.List.{AllByRecursion as Each}
use Rattle.std.proofs.lemmas.Bool.{ltb-true}
use Rattle.tw_theory.specs.Bundles.{Ascending}
use Rattle.tw_theory.specs.Simulator.{least_input}
use Rattle.tw_vtime.specs.Stamps.{never, phase_of}
use Rattle.tw_rounds.proofs.InputsGiven.{least_first}
use Rattle.tw_rounds.proofs.LeastTimes.{output_before}
use Rattle.tw_rounds.proofs.rounds.next_input.Goals as goal

pub returns-in-Some : goal.returns-in-Some
returns-in-Some c =
    let inputs = c.args.inputs.now in
    let i = c.args.given in
    let m = c.in-Some.message.now in
    let found = c.in-Some.ensures.lookup in
    let rest = drop (i + 1) inputs in
    let parts : drop i inputs ≡ m ∷ rest = drop_more inputs i m (ltb-true i (length inputs) (sym found.0)) ∙ ap (λ x. x ∷ rest) (sym found.1) in
    let phase = (subst (Each (λ x. (x.stamp < never) × (phase_of x.stamp ≡ 1))) parts c.requires.inputs).0.1 in
    c.output.ensures ∙ output_before m.stamp phase ∙ sym (least_first m rest (subst Ascending parts c.requires.order)) ∙ ap least_input (sym parts)
