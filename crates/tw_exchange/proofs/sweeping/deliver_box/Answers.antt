use Rattle.tw_exchange.proofs.Marking.{kept_but}
use Rattle.tw_exchange.proofs.sweeping.deliver_box.Goals as goal

pub note-requires-clause-but : goal.note-requires-clause-but
note-requires-clause-but g c =
    let elsewhere = c.deliver_to-delivered.ensures.elsewhere in
    let but = kept_but c.args.queues.now c.args.executive.now.world c.deliver_to-delivered.new.executive.world c.args.receiver c.requires.kept elsewhere.processes elsewhere.mail in
    record { free = but.free; marks = record { posting = but.marks.posting; delivering = but.marks.delivering; standing = but.marks.standing } }
