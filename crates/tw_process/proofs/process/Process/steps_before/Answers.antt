use Rattle.std.proofs.Common.{◌≡◌, ◌≤◌, ap, sym, subst, ◌∙◌, length, refl}
use Rattle.tw_theory.specs.Contents.{steps_before}
use Rattle.tw_theory.proofs.Histories.{before_within}
use Rattle.tw_process.proofs.Commits.{before_shown}
use Rattle.tw_process.proofs.process.Process.steps_before.Given.{Over}
use Rattle.tw_process.proofs.process.Process.steps_before.Goals.{After-entries_before}
use Rattle.tw_process.proofs.process.Process.steps_before.Goals as goal

count : (g : Over) (c : After-entries_before g) → c.entries_before.result ≡ steps_before c.args.stamp c.args.self.now.process.history
count g c =
    let inside = c.self.inside in
    before_shown c.args.stamp c.entries_before.result inside.history.items c.self.inside.history.items inside.lists.consumed inside.lists.sent refl c.entries_before.ensures
    ∙ ap (λ p. steps_before c.args.stamp p.process.history) c.self.view_is

pub returns-clause-count : goal.returns-clause-count
returns-clause-count g c = count g c

pub returns-clause-within : goal.returns-clause-within
returns-clause-within g c = subst (λ n. n ≤ length c.args.self.now.process.history) (sym (count g c)) (before_within c.args.stamp c.args.self.now.process.history)
