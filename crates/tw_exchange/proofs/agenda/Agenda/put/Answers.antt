use Rattle.std.proofs.Common.{◌∙◌, Some, sym, ap, arith, length}
use Rattle.std.specs.Prelude.{slice_set}
use Rattle.std.proofs.lemmas.List.{length-map, map-set}
use Rattle.tw_exchange.specs.Agenda.{time_of}
use Rattle.tw_exchange.proofs.agenda.Agenda.put.Goals as goal

pub set-requires : goal.set-requires
set-requires c = omega (arith, c.requires, ap length c.self.view_is, ap length c.self.invariant, length-map c.self.inside.stamps.items time_of)

pub invariant_of-self : goal.invariant_of-self
invariant_of-self c =
    c.set.ensures ∙ ap (λ l. slice_set l c.args.component c.args.stamp) c.self.invariant
    ∙ sym (map-set time_of c.self.inside.stamps.items c.args.component (Some c.args.stamp))
