use Rattle.std.proofs.Common.{ap, sym, ◌∙◌}
use Rattle.tw_process.proofs.Histories.{consumed_by_shown, sent_by_shown}
use Rattle.tw_theory.specs.Contents.{consumed_by, sent_by}
use Rattle.tw_process.proofs.process.Process.lists.Goals as goal

pub returns-clause-consumed : goal.returns-clause-consumed
returns-clause-consumed g c =
    let inside = c.self.inside in
    sym (consumed_by_shown inside.history.items inside.lists.consumed inside.lists.sent c.self.invariant.by.consumed_is) ∙ ap (λ p. consumed_by p.process.history) c.self.view_is

pub returns-clause-sent : goal.returns-clause-sent
returns-clause-sent g c =
    let inside = c.self.inside in
    sym (sent_by_shown inside.history.items inside.lists.consumed inside.lists.sent c.self.invariant.by.sent_is) ∙ ap (λ p. sent_by p.process.history) c.self.view_is
