-- `==` of the lists answers true exactly at equal lists.
use Rattle.std.proofs.Common.{◌≡◌, ◌∙◌}
use Rattle.std.proofs.lemmas.Bool.Decides.{Decides-at}
use Rattle.tw_msgs.specs.Bags.{same_bag}
use Rattle.tw_msgs.proofs.Equality.{same_bag-Decides}
use Rattle.tw_msgs.proofs.bag.BagPartialEq.eq.Goals as goal

pub returns-clause-same : goal.returns-clause-same
returns-clause-same c =
    let told : c.eq.result ≡ same_bag c.args.self.now c.args.other.now = c.eq.ensures ∙ (λ i. same_bag (c.self.view_is i) (c.other.view_is i)) in
    Decides-at c.eq.result (same_bag c.args.self.now c.args.other.now) told (same_bag-Decides c.args.self.now c.args.other.now)
