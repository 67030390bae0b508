use Rattle.std.proofs.Common.{ap, sym, ◌∙◌}
use Rattle.tw_pool.specs.Lists.{list_at}
use Rattle.tw_theory.specs.Bundles.{least_owed}
use Rattle.tw_lists.proofs.Walks.{least_owed-is}
use Rattle.tw_lists.proofs.lists.EventLists.least_owed.Goals as goal

pub returns-then-self : goal.returns-then-self
returns-then-self c = c.last_in.ensures ∙ sym (least_owed-is (list_at c.self.inside.pool.lists 5)) ∙ ap (λ v. least_owed v.owed) c.self.view_is

pub returns-else-self : goal.returns-else-self
returns-else-self c = c.least_in.ensures ∙ sym (least_owed-is (list_at c.self.inside.pool.lists 5)) ∙ ap (λ v. least_owed v.owed) c.self.view_is
