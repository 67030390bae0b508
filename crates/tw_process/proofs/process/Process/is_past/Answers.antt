use Rattle.std.proofs.Common.{ap, sym}
use Rattle.std.specs.Prelude.{nat_le, nat_lt}
use Rattle.tw_process.proofs.Readers.{past_none, past_some}
use Rattle.tw_process.proofs.process.Process.is_past.Goals as goal

pub returns-in-Some : goal.returns-in-Some
returns-in-Some g c =
    past_some c.args.self.now.floor c.in-Some.last c.args.stamp c.args.self.now.process.history (nat_lt c.pack.result c.pack-in-Some.result) (sym c.in-Some.ensures.value)
    (λ i. nat_lt (c.pack.ensures.number i) (c.pack-in-Some.ensures.number i))

pub returns-in-None : goal.returns-in-None
returns-in-None g c =
    past_none c.args.self.now.floor c.args.stamp c.args.self.now.process.history (nat_le c.self.inside.floor c.pack-in-None.result) (sym c.in-None.ensures.value)
    (λ i. nat_le (ap (λ p. p.floor) c.self.view_is i) (c.pack-in-None.ensures.number i))
