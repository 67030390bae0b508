-- An exchange may go from one worker to another where models, their states and their residues may.
use denote.RattleType.{RattleType}
use denote.Param.Send.{IsSend, IsSync, sendable}
use denote.Param.SendFields.{declared_send}
use Rattle.std.proofs.Crossing.{send, crosses}
use Rattle.tw_atomic.specs.declared.Atomic.{Ghosts}
use Rattle.tw_board.proofs.board.Publisher.TheSendSync as publisher_sent
use Rattle.tw_exec.proofs.Sent.{executive_send}
use Rattle.tw_tournament.proofs.tournament.Tournament.TheSendSync as tournament_sent
use Rattle.tw_vtime.proofs.stamps.Stamp.TheSendSync as stamp_sent
use Rattle.tw_exchange.specs.contracts.agenda.Agenda as agenda
use Rattle.tw_exchange.specs.contracts.agenda.Agenda.TheInside as agenda_inside
use Rattle.tw_exchange.specs.contracts.queues.Queues as queues
use Rattle.tw_exchange.proofs.undone.Undone.TheSendSync as undone_sent
use Rattle.tw_exchange.specs.contracts.exchange.Exchange as exchange
use Rattle.tw_exchange.specs.contracts.exchange.Exchange.TheInside as exchange_inside

agenda_send : IsSend agenda.the_row
agenda_send =
    let times = tournament_sent.the_send in
    let stamp = stamp_sent.the_send in
    let inside : IsSend agenda_inside.the_row = declared_send agenda_inside.the_type (search (sendable, crosses) depth 20, (times, tt)) in
    search sendable

queues_send : IsSend queues.the_row
queues_send = let agenda = agenda_send in declared_send queues.the_type (agenda, (agenda, (agenda, (agenda, (undone_sent.the_send, tt)))))

pub exchange_send : (M S R : RattleType) (g : Ghosts M.Denot S.Denot R.Denot) → IsSend M → IsSync M → IsSend S → IsSend R → IsSend (exchange.the_row M S R g)
exchange_send M S R g m y s r =
    let executive = executive_send M S R g m y s r in
    let inside : IsSend (exchange_inside.the_row M S R g) = declared_send (exchange_inside.the_type M S R g) (send, (executive, (queues_send, (publisher_sent.the_send, tt)))) in
    search sendable
