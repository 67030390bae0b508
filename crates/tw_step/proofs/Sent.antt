-- A step, and where a component stands, may go to another thread where the state and the residue may.
use denote.RattleType.{RattleType}
use denote.Param.Send.{IsSend, sendable}
use denote.Param.SendFields.{declared_send}
use Rattle.tw_msgs.proofs.record.Record.TheSendSync as record_sent
use Rattle.tw_vtime.proofs.stamps.Stamp.TheSendSync as stamp_sent
use Rattle.tw_step.specs.contracts.moment.Moment as moment
use Rattle.tw_step.specs.contracts.moment.Moment.TheInside as inside
use Rattle.tw_step.specs.contracts.step.Step as step

pub step_send : (S R : RattleType) → IsSend S → IsSend R → IsSend (step.the_row S R)
step_send S R s r = declared_send (step.the_type S R) (record_sent.the_send, (stamp_sent.the_send, (stamp_sent.the_send, (search sendable depth 20, (search sendable depth 20, tt)))))

pub moment_send : (S : RattleType) → IsSend S → IsSend (moment.the_row S)
moment_send S s =
    let inside : IsSend (inside.the_row S) = declared_send (inside.the_type S) (search sendable depth 20, (stamp_sent.the_send, (stamp_sent.the_send, tt))) in
    search sendable
