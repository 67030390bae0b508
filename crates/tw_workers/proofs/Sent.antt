-- What workers share may go from one of them to another where models, their states and their residues may.
use denote.RattleType.{RattleType}
use denote.Ref.{NamedLft}
use denote.Param.Send.{IsSend, IsSync, sendable}
use denote.Param.SendFields.{declared_send, declared_sync}
use Rattle.std.proofs.Crossing.{Arc-sync, send, crosses}
use Rattle.std.proofs.sync.OnceLock.TheSendSync as cell_sent
use Rattle.std.proofs.sync.OnceToken.TheSendSync as token_sent
use Rattle.std.specs.contracts.result.Result as result
use Rattle.std.specs.contracts.sync.OnceLock as cell
use Rattle.tw_atomic.specs.declared.Atomic.{Ghosts}
use Rattle.tw_actions.proofs.run_state.RunState.TheSendSync as state_sent
use Rattle.tw_actions.specs.contracts.run_state.RunState as state
use Rattle.tw_exchange.proofs.Sent.{exchange_send}
use Rattle.tw_exchange.proofs.refused.SweepRefused.TheSendSync as refused_sent
use Rattle.tw_exchange.specs.contracts.refused.SweepRefused as refused
use Rattle.tw_network.proofs.network.Network.TheSendSync as network_sent
use Rattle.tw_network.specs.contracts.network.Network as network
use Rattle.tw_workers.specs.contracts.desk.Desk as desk
use Rattle.tw_workers.specs.contracts.desk.Desk.TheInside as desk_inside
use Rattle.tw_workers.specs.contracts.running.Member as member
use Rattle.tw_workers.specs.contracts.running.Shared as shared
use Rattle.tw_workers.specs.declared.desk.Given as given
use Rattle.tw_workers.proofs.crew.Crew.TheSendSync as crew_sent
use Rattle.tw_workers.proofs.effort.Effort.TheSendSync as effort_sent
use Rattle.tw_workers.proofs.setting.Setting.TheSendSync as setting_sent
use Rattle.tw_workers.proofs.steering.Pace.TheSendSync as pace_sent
use Rattle.tw_workers.proofs.steering.Window.TheSendSync as window_sent

-- ## How a run ended

abbrev end : RattleType
end = result.the_row state.the_row refused.the_row

end_send : IsSend end
end_send = let state = state_sent.the_send in let refused = refused_sent.the_send in search (sendable, crosses) depth 20

end_sync : IsSync end
end_sync = let state = state_sent.the_sync in let refused = refused_sent.the_sync in search (sendable, crosses) depth 20

end_cell : IsSync (cell.the_row end)
end_cell = cell_sent.the_sync end end_send end_sync

-- ## What lies under the lock, and what is beside it

pub desk_send : (a : NamedLft) (M H S R : RattleType) (g : Ghosts M.Denot S.Denot R.Denot) (given : given.Ghosts H.Denot M.Denot) → IsSend M → IsSync M → IsSend H → IsSend S → IsSend R
    → IsSend (desk.the_row a M H S R g given)
desk_send a M H S R g given m y h s r =
    let exchange = exchange_send M S R g m y s r in
    let pace = pace_sent.the_send in
    let cell = end_cell in
    let token = token_sent.the_send a end in
    let inside : IsSend (desk_inside.the_row a M H S R g given) = declared_send (desk_inside.the_type a M H S R g given) (
      send,
      (
        exchange,
        (
          setting_sent.the_send,
          (
            search (sendable, crosses) depth 20,
            (
              window_sent.the_send,
              (
                crew_sent.the_send,
                (effort_sent.the_send, (search sendable, (search sendable, (search sendable, (search (sendable, crosses) depth 20, (search (sendable, crosses) depth 20, (search (sendable, crosses) depth 20, tt))))))),
              ),
            ),
          ),
        ),
      ),
    ) in
    search sendable

pub shared_sync : (a : NamedLft) (M H S R : RattleType) (g : Ghosts M.Denot S.Denot R.Denot) (given : given.Ghosts H.Denot M.Denot) → IsSend M → IsSync M → IsSend H → IsSend S → IsSend R
    → IsSync (shared.the_row a M H S R g given)
shared_sync a M H S R g given m y h s r =
    let desk = desk_send a M H S R g given m y h s r in
    let network = Arc-sync (network.the_row M S R g) (network_sent.the_send M S R g m) (network_sent.the_sync M S R g y) in
    declared_sync (shared.the_type a M H S R g given) (search (sendable, crosses) depth 20, (search (sendable, crosses) depth 20, (search (sendable, crosses) depth 20, (network, (search sendable, tt)))))

pub member_sync : (b a : NamedLft) (M H G S R : RattleType) (g : Ghosts M.Denot S.Denot R.Denot) (given : given.Ghosts H.Denot M.Denot) → IsSend M → IsSync M → IsSend H → IsSync G → IsSend S → IsSend R
    → IsSync (member.the_row b a M H G S R g given)
member_sync b a M H G S R g given m y h gate s r =
    let shared = shared_sync a M H S R g given m y h s r in
    let cell = end_cell in
    declared_sync (member.the_type b a M H G S R g given) (search (sendable, crosses) depth 20, (search (sendable, crosses) depth 20, (search (sendable, crosses) depth 20, tt)))
