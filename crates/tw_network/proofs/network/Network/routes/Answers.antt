use Rattle.std.proofs.Common.{◌≡◌, sym, ap, ◌∙◌, arith, ◌<◌, ◌≤◌, subst, length, List}
use Rattle.std.specs.List.{AllByRecursion as Each}
use Rattle.tw_network.specs.Contents.{IsPlace}
use Rattle.tw_network.proofs.Places.{places_few, places_are}
use Rattle.tw_network.proofs.RouteParts.{places_of_no_port, ports_of}
use Rattle.tw_network.proofs.network.Network.routes.Given.{Over}
use Rattle.tw_network.proofs.network.Network.routes.Goals as goal
use Rattle.tw_theory.specs.Network.{Destination, destinations}

pub returns-then-from-ge-PORTS-clause-routes : goal.returns-then-from-ge-PORTS-clause-routes
returns-then-from-ge-PORTS-clause-routes g c =
    let high : 15 < c.args.port = omega arith in
    rw (← c.self.view_is) (sym (places_of_no_port c.args.component c.args.port c.self.inside.couplings.items high (ports_of _ _ c.self.invariant.0.couplings)))

-- the part that is lent
is : (g : Over) (c : goal.After-part g) → c.part.result.now ≡ destinations c.args.component c.args.port c.self.inside.couplings.items
is g c =
    let known : c.args.component < length c.self.inside.models.items = omega (arith, c.requires, ap (λ n. length n.models) c.self.view_is) in
    (rw c.from-2.ensures at c.part.ensures) ∙ c.self.invariant.1.routes c.args.component c.args.port known (omega (arith, c.from.ensures, c.if-from-ge-PORTS.false))

pub returns-clause-few : goal.returns-clause-few
returns-clause-few g c =
    rw (← c.self.view_is) (subst (λ (ps : List Destination). length ps ≤ length c.self.inside.couplings.items) (sym (is g c)) (places_few c.args.component c.args.port c.self.inside.couplings.items))

pub returns-clause-places : goal.returns-clause-places
returns-clause-places g c =
    rw (← c.self.view_is) (subst (Each (IsPlace (length c.self.inside.models.items))) (sym (is g c)) (places_are (length c.self.inside.models.items) c.args.component c.args.port c.self.inside.couplings.items c.self.invariant.0.couplings))
