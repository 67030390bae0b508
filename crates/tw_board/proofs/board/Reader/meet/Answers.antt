use Rattle.std.proofs.Common.{rules, ap, ◌∙◌}
use Rattle.tw_board.proofs.Keeping.{splits, tells, shows, finds_gvt, finds_committed}
use Rattle.tw_board.proofs.board.Reader.meet.Goals as goal

pub split_seat-note-requires : goal.split_seat-note-requires
split_seat-note-requires c = (search rules, search rules, splits _ _)

pub join_seat-requires : goal.join_seat-requires
join_seat-requires c = (search rules, search rules, search rules, search rules, tells _ _ _ _)

pub load-gvt-requires : goal.load-gvt-requires
load-gvt-requires c = (search rules, search rules, finds_gvt _ _ _ (ap (λ m. m.0.posts) c.join_seat.ensures.2 ∙ c.publisher.invariant.2))

pub load-committed-requires : goal.load-committed-requires
load-committed-requires c = (search rules, search rules, finds_committed _ _ _ (ap (λ v. v.posts) c.load-gvt.ensures.2.0 ∙ ap (λ m. m.0.posts) c.join_seat.ensures.2 ∙ c.publisher.invariant.2))

pub split_seat-note-requires-2 : goal.split_seat-note-requires-2
split_seat-note-requires-2 c = (search rules, search rules, splits _ _)

pub join_seat-requires-2 : goal.join_seat-requires-2
join_seat-requires-2 c = (search rules, search rules, search rules, search rules, shows _ _ _ _ (ap (λ m. m.0.posts) c.split_seat-note.ensures.2 ∙ c.self.invariant.2))
