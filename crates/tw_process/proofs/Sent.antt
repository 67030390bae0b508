-- A process may go to another thread where its model, its state and its residues may.
use denote.RattleType.{RattleType}
use denote.Param.Send.{IsSend, IsSync, sendable}
use denote.Param.SendFields.{declared_send}
use Rattle.std.proofs.Crossing.{Arc-send, Deque-send, send}
use Rattle.tw_atomic.specs.declared.Atomic.{Ghosts}
use Rattle.tw_actions.proofs.cancel.Cancel.TheSendSync as cancel_sent
use Rattle.tw_lists.proofs.lists.EventLists.TheSendSync as lists_sent
use Rattle.tw_vtime.proofs.stamps.Stamp.TheSendSync as stamp_sent
use Rattle.tw_network.proofs.network.Network.TheSendSync as network_sent
use Rattle.tw_step.proofs.Sent.{moment_send, step_send}
use Rattle.tw_network.specs.contracts.network.Network as network
use Rattle.tw_process.specs.contracts.entry.Entry as entry
use Rattle.tw_process.specs.contracts.process.Process as process
use Rattle.tw_process.specs.contracts.process.Process.TheInside as inside

pub entry_send : (S R : RattleType) → IsSend S → IsSend R → IsSend (entry.the_row S R)
entry_send S R s r = declared_send (entry.the_type S R) (step_send S R s r, (search sendable, (search sendable, tt)))

pub process_send : (M S R : RattleType) (g : Ghosts M.Denot S.Denot R.Denot) → IsSend M → IsSync M → IsSend S → IsSend R → IsSend (process.the_row M S R g)
process_send M S R g m y s r =
    let alloc = send in
    let shared = Arc-send (network.the_row M S R g) (network_sent.the_send M S R g m) (network_sent.the_sync M S R g y) in
    let history = Deque-send (entry.the_row S R) (entry_send S R s r) in
    let stamp = stamp_sent.the_send in
    let cancel = cancel_sent.the_send in
    let lists = lists_sent.the_send in
    let inside : IsSend (inside.the_row M S R g) = declared_send (inside.the_type M S R g)
    (alloc, (shared, (search sendable, (moment_send S s, (stamp, (cancel, (search sendable, (history, (lists, tt))))))))) in
    search sendable
