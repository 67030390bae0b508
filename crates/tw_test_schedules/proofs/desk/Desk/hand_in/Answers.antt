use Rattle.std.proofs.Common.{◌∙◌, ◌≤◌, ap, subst, sym}
use Rattle.std.specs.Prelude.{slice_get}
use Rattle.tw_vtime.specs.Stamps.{stamp}
use Rattle.tw_test_schedules.proofs.Staying.{handed}
use Rattle.tw_test_schedules.proofs.desk.Desk.hand_in.Goals as goal

pub finish-requires-clause-limit : goal.finish-requires-clause-limit
finish-requires-clause-limit g c = c.kept.invariant.limit ∙ ap (λ n. n.micro_limit) (sym c.self.invariant.0)

pub finish-requires-clause-bound : goal.finish-requires-clause-bound
finish-requires-clause-bound g c = subst (λ u. c.kept.inside.prepareds.run.start.before ≤ stamp u 0 0) (sym c.self.invariant.1) c.kept.invariant.before

pub finish-requires-clause-alike : goal.finish-requires-clause-alike
finish-requires-clause-alike g c = λ m at. c.kept.invariant.alike m (ap (λ n. slice_get n.models c.kept.inside.prepareds.run.start.component) (sym c.self.invariant.0) ∙ at)

pub invariant_of-self : goal.invariant_of-self
invariant_of-self g c = handed g.M.Atomic.meaning g.H.Given.network g.H.Given.until c.kept.inside.prepareds c.self.inside.exchange c.finish.new.self c.finish.result c.finish.ensures.installed c.finish.ensures.stays c.self.invariant
