use Rattle.std.proofs.Common.{rules, ap, ◌∙◌}
use Rattle.tw_board.proofs.Keeping.{sees_gvt, sees_committed}
use Rattle.tw_board.proofs.board.Reader.see.Goals as goal

pub load-number-requires : goal.load-number-requires
load-number-requires c = (search rules, search rules, sees_gvt _ _ _ c.self.invariant.2)

pub load-committed-requires : goal.load-committed-requires
load-committed-requires c = (search rules, search rules, sees_committed _ _ _ (ap (λ v. v.posts) c.load-number.ensures.2.0 ∙ c.self.invariant.2))
