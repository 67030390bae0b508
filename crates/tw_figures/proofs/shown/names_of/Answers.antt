-- One name more.
use Rattle.std.proofs.Common.{◌∙◌, ◌≤◌, ◌++◌, ◌∷◌, [], ℕ, List, length, map, ap, sym, arith}
use Rattle.std.proofs.Common.{Bor}
use Rattle.std.proofs.lemmas.List.{map-append, take_all, take_more}
use Rattle.std.proofs.lemmas.Option.{get_or_from_slice_get, slice_get_within}
use Rattle.tw_figures.proofs.shown.names_of.Goals as goal

pub loop-component-preserved : goal.loop-component-preserved
loop-component-preserved g c =
    let names = c.args.network.now.names in
    let at = c.loop-component.component in
    let name = c.name.result.now in
    let now = λ (n : Bor (List ℕ)). n.now in
    ap (map now) c.in_ok-push.ensures.items
    ∙ map-append now c.loop-component.names.items (c.as_bytes.result ∷ [])
    ∙ (λ i. c.loop-component.invariant i ++ (c.as_bytes.ensures.value ∙ sym (get_or_from_slice_get names at name name c.name.ensures)) i ∷ [])
    ∙ sym (take_more names at name (slice_get_within names at name c.name.ensures))

pub returns : goal.returns
returns g c =
    let named = c.facts.ensures.all_named in
    let over : length c.args.network.now.names ≤ c.loop-component.component = omega (arith, named, c.len-component-end.ensures, c.loop-component-test.false) in
    c.loop-component.invariant ∙ take_all c.loop-component.component c.args.network.now.names over
