use Rattle.tw_theory.proofs.MessageOrder.{sorted_right}
use Rattle.tw_theory.specs.Contents.{consumed_by}
use Rattle.std.proofs.Common.{◌∙◌}
use Rattle.tw_inspect.proofs.Parts.{both_of_all, described}
use Rattle.tw_inspect.proofs.reports.describe.Goals as goal

pub add_messages-requires : goal.add_messages-requires
add_messages-requires g c =
    let p = c.contents-process.result.now.process in
    sorted_right (consumed_by p.history) p.pending (c.facts.ensures.sound.each c.args.component p c.contents-process.ensures.process).sorted

pub returns : goal.returns
returns g c =
    both_of_all _ _ _ _ _ _ c.new-text.ensures.bytes c.in_ok-add_component.ensures c.in_ok-add_messages.ensures
    (described g.M.Atomic.meaning c.args.executive.now c.args.component c.deref-network.result.now c.name.result.now c.model.result.now c.contents-process.result.now.process
    c.mail-mail.result.now (c.deref-network.ensures ∙ c.network.ensures) c.name.ensures c.model.ensures c.contents-process.ensures.process c.mail-mail.ensures)
