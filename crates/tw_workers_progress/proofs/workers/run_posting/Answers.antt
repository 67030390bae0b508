-- Any model may go to other threads; and an executive that came back for want of nodes is full.
use Rattle.std.proofs.Common.{◌≡◌, ◌∙◌, refl, sym}
use denote.Param.Send.{sendable}
use Rattle.tw_any_model.proofs.Sent.{any_model_send, any_model_sync}
use Rattle.tw_any_model.specs.AnyModel.{any_meaning}
use Rattle.tw_exchange.specs.Refusals.{sweep_refusal_of}
use Rattle.tw_exchange.specs.declared.refused.SweepRefused.{SweepRefused}
use Rattle.tw_exchange.specs.declared.refused.SweepRefused.TheVariants.{OutOfMemory, Full}
use Rattle.tw_vtime.specs.declared.refusal.Refusal.TheVariants as refusals
use Rattle.tw_workers.proofs.GivenUp.{can_be_full}
use Rattle.tw_workers_progress.proofs.workers.run_posting.Goals as goal

pub run_counted-ended-requires-send-M : goal.run_counted-ended-requires-send-M
run_counted-ended-requires-send-M c = λ given κs lives. let model = any_model_send in search sendable

pub run_counted-ended-requires-sync-M : goal.run_counted-ended-requires-sync-M
run_counted-ended-requires-sync-M c = λ given κs lives. let model = any_model_sync in search sendable

-- a want of nodes stays one
full_of : (why : SweepRefused) → sweep_refusal_of why ≡ refusals.Full → why ≡ Full
full_of OutOfMemory e = absurd (cc e)
full_of Full e = refl

pub returns-in-Err-clause-full : goal.returns-in-Err-clause-full
returns-in-Err-clause-full g c = λ is.
    let ran = c.run_counted-ended in
    can_be_full any_meaning c.args.executive c.args.publisher ran.result.1 ran.result.0 c.in-Err.fault ran.ensures.run c.in-Err.is c.facts.ensures (full_of c.in-Err.fault.why (sym c.from.ensures ∙ is))
