use Rattle.std.proofs.lemmas.Result.{IfOk-from_err}
use Rattle.tw_file_network.specs.Draft.{coupling_view}
use Rattle.tw_file_network.specs.Numbering.{numbering}
use Rattle.tw_file_network.specs.TreeShape.{link_named}
use Rattle.tw_file_network.proofs.Numbered.{all_made, made_one_more}
use Rattle.tw_file_network.proofs.numbers.Numbers.links.Goals as goal

pub returns-in_err-push : goal.returns-in_err-push
returns-in_err-push c = IfOk-from_err _ _ c.from_residual-in_err-push.ensures.0

pub loop-draft-preserved : goal.loop-draft-preserved
loop-draft-preserved c =
    rw c.in_ok-push.ensures.items
    (made_one_more coupling_view (link_named (numbering c.args.self.now)) c.args.drafts.now c.loop-draft.draft-index c.loop-draft.links.items c.loop-draft.invariant _ c.link.result c.loop-draft-test.true c.link.ensures)

pub returns : goal.returns
returns c = all_made coupling_view (link_named (numbering c.args.self.now)) c.args.drafts.now c.loop-draft.draft-index c.loop-draft.links.items c.loop-draft.invariant c.loop-draft-test.false
