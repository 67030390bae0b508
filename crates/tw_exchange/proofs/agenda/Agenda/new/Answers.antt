use Rattle.std.proofs.Common.{◌≡◌, ◌∙◌, None, sym, ap, map, rules}
use Rattle.std.specs.Prelude.{replicate}
use Rattle.tw_exchange.proofs.Indexing.{all_left}
use Rattle.tw_exchange.specs.Agenda.{time_of}
use Rattle.tw_exchange.proofs.agenda.Agenda.new.Goals as goal

pub invariant_of-result : goal.invariant_of-result
invariant_of-result c =
    let none : c.in_ok-stamps.stamps.items ≡ replicate c.args.count None = search rules in
    c.in_ok-times.ensures ∙ sym (all_left c.args.count) ∙ ap (map time_of) (sym none)
