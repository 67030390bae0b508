use Rattle.std.proofs.Common.{ap, sym, ◌∙◌, ◌<◌, length, refl, subst}
use Rattle.std.specs.Prelude.{slice_get}
use Rattle.std.proofs.lemmas.Option.{slice_get_read}
use Rattle.tw_network.proofs.network.Network.model.Goals as goal

pub returns : goal.returns
returns g c =
    let known = subst (λ n. c.args.component < length n.models) (sym c.self.view_is) c.requires in
    ap (λ n. slice_get n.models c.args.component) (sym c.self.view_is)
    ∙ slice_get_read c.self.inside.models.items _ c.args.component c.index.result.now refl known c.index.ensures
