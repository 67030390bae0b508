use Rattle.std.proofs.Common.{◌≡◌, rules, subst}
use Rattle.tw_mail.proofs.Changes.{least_fewer}
use Rattle.tw_mail.specs.Mail.{IsWith}
use Rattle.tw_mail.proofs.least.Least.remove.Goals as goal

pub returns-then-eq : goal.returns-then-eq
returns-then-eq c items fewer w is =
    let same : c.args.stamp ≡ c.args.self.now.stamp = search rules in
    least_fewer c.args.self.now.stamp c.args.self.now.count items fewer (subst (λ s. IsWith s fewer items) same w) c.if-self-gt0.true is
