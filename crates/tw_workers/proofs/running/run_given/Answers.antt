use Rattle.std.proofs.Common.{◌∙◌, ap, subst, sym}
use Rattle.std.proofs.Crossing.{crosses}
use denote.Param.Send.{sendable}
use denote.Ref.{NamedLft}
use Rattle.tw_exchange.proofs.Coming.{since_here}
use Rattle.tw_exchange.specs.Further.{IsSince}
use Rattle.tw_workers.proofs.Sent.{member_sync}
use Rattle.tw_workers.proofs.running.run_given.Goals as goal

pub work_all-requires-after_bounds : goal.work_all-requires-after_bounds
work_all-requires-after_bounds g c =
    λ bounds more m u board given. ((c.requires.only m u board given).0, (c.requires.only m u board given).1 ∙ ap (λ e. e.until) (sym c.executive.ensures.executive) ∙ sym c.until-until.ensures)

-- where memory is refused, nothing was done
pub returns-in-Err-clause-since : goal.returns-in-Err-clause-since
returns-in-Err-clause-since g c =
    subst (λ x. IsSince g.H.Given.is_begun x.executive.world) (sym c.in-Err.ensures.handed_back) (since_here g.H.Given.is_begun c.args.exchange.executive.world c.requires.begun)

pub work_all-requires-sync-W : goal.work_all-requires-sync-W
work_all-requires-sync-W g c κs within =
    let b = c.type_bounds in
    let member = λ (near far : NamedLft). member_sync near far _ _ _ _ _ g.M.Atomic g.H.Given b.send-M b.sync-M b.send-H b.sync-G b.send-M-State b.send-M-Residue in
    search (sendable, crosses) depth 20
