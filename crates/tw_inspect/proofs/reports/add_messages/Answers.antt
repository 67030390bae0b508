use Rattle.std.proofs.Common.{◌∙◌, sym}
use Rattle.std.specs.Prelude.{flat_map}
use Rattle.std.proofs.lemmas.Result.{on_ok_weaker}
use Rattle.tw_inspect.specs.Reports.{pending_line, waiting_line, outgoing_line, owed_lines}
use Rattle.tw_inspect.proofs.Parts.{one_more, part_of}
use Rattle.tw_msgs.proofs.Messages.{sorted_messages-of_Sorted}
use Rattle.tw_inspect.proofs.reports.add_messages.Goals as goal

pub returns : goal.returns
returns g c =
    let names = c.args.network.now.names in
    let p = c.args.process.now.process in
    let lists = c.lists-lists.ensures in
    let pending = part_of (flat_map pending_line) _ _ _ _ c.in_ok-add_pending.ensures
    (c.as_slice.ensures.value ∙ c.in_ok-pending.ensures ∙ lists.pending ∙ sym (sorted_messages-of_Sorted p.pending c.requires)) in
    let waiting = part_of (flat_map waiting_line) _ _ _ _ c.in_ok-add_waiting.ensures (c.as_slice-2.ensures.value ∙ c.in_ok-waiting.ensures ∙ lists.waiting) in
    let outgoing = part_of (flat_map (outgoing_line names)) _ _ _ _ c.in_ok-add_outgoing.ensures (c.as_slice-3.ensures.value ∙ c.in_ok-outgoing.ensures ∙ lists.outgoing) in
    let owed = part_of (owed_lines names p.cancel) _ _ _ _ (part_of (λ way. owed_lines names way c.as_slice-4.result.now) _ _ _ _ c.in_ok-add_owed.ensures c.cancel.ensures)
    (c.as_slice-4.ensures.value ∙ c.in_ok-owed.ensures ∙ lists.owed) in
    on_ok_weaker c.add_mail.result
    (λ mail. one_more _ _ _ _ _ (one_more _ _ _ _ _ (one_more _ _ _ _ _ (one_more _ _ _ _ _ pending waiting) outgoing) owed) mail) c.add_mail.ensures
