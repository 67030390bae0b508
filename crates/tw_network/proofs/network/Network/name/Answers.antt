use Rattle.std.proofs.Common.{ap, arith, sym, ◌∙◌, ◌<◌, length, string_bytes, subst, Some}
use Rattle.std.specs.Option.{option_map}
use Rattle.std.specs.Prelude.{slice_get}
use Rattle.std.proofs.lemmas.List.{length-map}
use Rattle.std.proofs.lemmas.Option.{slice_get-map}
use Rattle.tw_network.proofs.network.Network.name.Goals as goal

pub returns : goal.returns
returns g c =
    ap (λ n. slice_get n.names c.args.component) (sym c.self.view_is)
    ∙ slice_get-map string_bytes c.self.inside.names.keys c.args.component
    ∙ ap (option_map string_bytes) c.index.ensures ∙ ap Some (sym c.as_str.ensures.value)

pub index-requires : goal.index-requires
index-requires g c =
    let known = subst (λ n. c.args.component < length n.models) (sym c.self.view_is) c.requires in
    omega (arith, known, c.self.invariant.0.all_named, length-map c.self.inside.names.keys string_bytes)
