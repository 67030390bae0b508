use Rattle.std.proofs.lemmas.Result.{IfOk-from_err}
use Rattle.tw_file_network.specs.Draft.{coupling_view}
use Rattle.tw_file_network.specs.Numbering.{numbering}
use Rattle.tw_file_network.specs.Numbers.{numbered_coupling}
use Rattle.tw_file_network.proofs.Numbered.{all_made, made_one_more}
use Rattle.tw_file_network.proofs.numbers.Numbers.couplings.Goals as goal

pub returns-in_err-push : goal.returns-in_err-push
returns-in_err-push c = IfOk-from_err _ _ c.from_residual-in_err-push.ensures.0

pub loop-draft-preserved : goal.loop-draft-preserved
loop-draft-preserved c =
    rw c.in_ok-push.ensures.items
    (made_one_more coupling_view (numbered_coupling (numbering c.args.self.now)) c.args.drafts.now c.loop-draft.draft-index c.loop-draft.couplings.items c.loop-draft.invariant _ c.coupling.result c.loop-draft-test.true c.coupling.ensures)

pub returns : goal.returns
returns c = all_made coupling_view (numbered_coupling (numbering c.args.self.now)) c.args.drafts.now c.loop-draft.draft-index c.loop-draft.couplings.items c.loop-draft.invariant c.loop-draft-test.false
