-- An executive may go to another thread where its models, their states and their residues may.
use denote.RattleType.{RattleType}
use denote.Param.Send.{IsSend, IsSync, sendable}
use denote.Param.SendFields.{declared_send}
use Rattle.std.proofs.Crossing.{Arc-send, Vec-send, send}
use Rattle.tw_atomic.specs.declared.Atomic.{Ghosts}
use Rattle.tw_exec.specs.contracts.executive.Executive as executive
use Rattle.tw_exec.specs.contracts.executive.Executive.TheInside as inside
use Rattle.tw_fossils.proofs.column.Column.TheSendSync as column_sent
use Rattle.tw_fossils.specs.contracts.column.Column as column
use Rattle.tw_mail.proofs.mailboxes.Mailboxes.TheSendSync as mail_sent
use Rattle.tw_network.proofs.network.Network.TheSendSync as network_sent
use Rattle.tw_network.specs.contracts.network.Network as network
use Rattle.tw_process.proofs.Sent.{process_send}
use Rattle.tw_process.specs.contracts.process.Process as process
use Rattle.tw_vtime.proofs.stamps.Stamp.TheSendSync as stamp_sent

pub executive_send : (M S R : RattleType) (g : Ghosts M.Denot S.Denot R.Denot) → IsSend M → IsSync M → IsSend S → IsSend R → IsSend (executive.the_row M S R g)
executive_send M S R g m y s r =
    let alloc = send in
    let shared = Arc-send (network.the_row M S R g) (network_sent.the_send M S R g m) (network_sent.the_sync M S R g y) in
    let stamp = stamp_sent.the_send in
    let processes = Vec-send (process.the_row M S R g) (process_send M S R g m y s r) in
    let mail = mail_sent.the_send in
    let columns = Vec-send column.the_row column_sent.the_send in
    let inside : IsSend (inside.the_row M S R g) = declared_send (inside.the_type M S R g)
    (alloc, (shared, (search sendable, (stamp, (stamp, (processes, (mail, (columns, (search sendable, tt))))))))) in
    search sendable
