use Rattle.std.proofs.Common.{◌≤◌, ◌∙◌, ℕ, sym, subst}
use Rattle.tw_engine.proofs.Showing.{no_name}
use Rattle.tw_engine.proofs.names.NetworkNamesNames.name.Goals as goal

pub returns-else-component-len : goal.returns-else-component-len
returns-else-component-len c =
    no_name c.args.self.now.network.now.names c.args.component
    (subst (λ (n : ℕ). n ≤ c.args.component) (c.len.ensures ∙ sym c.facts.ensures.all_named) c.if-component-len.false)
