use Rattle.std.proofs.Common.{List, map, sym, ap, ◌∙◌}
use Rattle.tw_machine_text.specs.Tree.{SourceStatement}
use Rattle.tw_machine_text.specs.declared.tree.Arms as rust
use Rattle.tw_machine_text.specs.Desugared.{around}
use Rattle.tw_machine_text.specs.Views.{told, chain}
use Rattle.tw_machine_text.proofs.Outwards.{around_last}
use Rattle.tw_machine_text.proofs.desugaring.chosen.Goals as goal

pub outwards-preserved : goal.outwards-preserved
outwards-preserved c =
    ap (λ (s : SourceStatement). around (map chain c.pop.new.self.items) s) c.in_ok-statement-2.ensures
    ∙ sym (around_last c.pop.new.self.items c.in-Some.arms (told c.outwards.statement))
    ∙ ap (λ (before : List rust.Arms). around (map chain before) (told c.outwards.statement)) (sym c.in-Some.ensures.items)
    ∙ c.outwards.invariant
