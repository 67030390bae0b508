use Rattle.std.proofs.Common.{rules, ap, ◌∙◌}
use Rattle.tw_board.proofs.Keeping.{posts_gvt, posts_committed}
use Rattle.tw_board.proofs.board.Publisher.post.Goals as goal

pub fetch_max-requires : goal.fetch_max-requires
fetch_max-requires c = (search rules, search rules, posts_gvt _ _ _ _ c.self.invariant.2 (search rules))

pub fetch_max-requires-2 : goal.fetch_max-requires-2
fetch_max-requires-2 c = (search rules, search rules, posts_committed _ _ _ _ (ap (λ v. v.posts) c.fetch_max.ensures.2 ∙ c.self.invariant.2))
