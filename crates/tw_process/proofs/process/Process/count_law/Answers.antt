use Rattle.std.proofs.Common.{ap, sym, ◌∙◌, arith}
use Rattle.std.specs.Arc.{arc_value}
use Rattle.tw_theory.specs.Memory.{live}
use Rattle.tw_process.proofs.Histories.{live_shown}
use Rattle.tw_process.proofs.process.Process.count_law.Goals as goal

pub returns : goal.returns
returns g c =
    let inside = c.self.inside in
    let x = c.self.invariant.model in
    let count = sym (live_shown (g.M.Atomic.valid x) (g.M.Atomic.meaning x) (g.M.Atomic.undone x) (arc_value inside.network) inside.component inside.moment inside.line inside.cancel inside.floor inside.history.items inside.lists c.self.invariant.by)
    ∙ ap (λ p. live p.process) c.self.view_is in
    omega (arith, count, c.count_law.ensures)
