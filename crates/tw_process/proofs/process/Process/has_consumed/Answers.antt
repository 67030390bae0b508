use Rattle.std.proofs.Common.{ap, sym, ◌∙◌}
use Rattle.tw_msgs.specs.Messages.{has}
use Rattle.tw_theory.specs.Contents.{consumed_by}
use Rattle.tw_theory.proofs.Standing.{sorted_left}
use Rattle.tw_process.proofs.Histories.{consumed_by_shown}
use Rattle.tw_process.proofs.process.Process.has_consumed.Goals as goal

pub has_consumed-requires : goal.has_consumed-requires
has_consumed-requires g c = sorted_left c.self.inside.lists.consumed c.self.inside.lists.pending c.self.invariant.by.sorted

pub returns : goal.returns
returns g c =
    let inside = c.self.inside in
    c.has_consumed.ensures
    ∙ ap (has c.args.message.now) (sym (consumed_by_shown inside.history.items inside.lists.consumed inside.lists.sent c.self.invariant.by.consumed_is))
    ∙ ap (λ p. has c.args.message.now (consumed_by p.process.history)) c.self.view_is
