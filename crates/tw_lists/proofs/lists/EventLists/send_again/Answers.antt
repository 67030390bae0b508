use Rattle.std.proofs.Common.{ap, sym, ◌∙◌, is_some, arith, length, rules}
use Rattle.tw_msgs.specs.Messages.{has}
use Rattle.tw_pool.specs.Lists.{list_at, without}
use Rattle.tw_lists.specs.Lists.{with_room, with_sent_again}
use Rattle.tw_lists.specs.Nodes.{spare_of}
use Rattle.tw_lists.proofs.Finding.{has_is}
use Rattle.tw_lists.proofs.Found.{finds_at}
use Rattle.tw_lists.proofs.Comings.{found_live}
use Rattle.tw_lists.proofs.Owing.{Resent, resent_kept}
use Rattle.tw_lists.proofs.lists.EventLists.send_again.Goals.{After-relink}
use Rattle.tw_lists.proofs.lists.EventLists.send_again.Goals as goal

pub relink-requires : goal.relink-requires
relink-requires c = (search rules, (found_live c.self.inside.pool.lists 5 c.in-Some.index c.args.message.now (omega (arith, c.lists_law.ensures.count)) c.lists_law.ensures.distinct (sym c.in-Some.ensures), omega arith))

all : (c : After-relink) → Resent c.self.inside.pool.lists c.relink.new.self.lists c.relink.new.self.room (spare_of c.relink.new.self.top c.self.inside.heap (length (list_at c.relink.new.self.lists 1))) c.self.inside.pool.room (spare_of c.self.inside.pool.top c.self.inside.heap (length (list_at c.self.inside.pool.lists 1))) c.self.inside.heap c.in-Some.index c.args.message.now
all c =
    resent_kept c.self.inside.pool.lists c.relink.new.self.lists c.relink.new.self.room (spare_of c.relink.new.self.top c.self.inside.heap (length (list_at c.relink.new.self.lists 1))) c.self.inside.pool.room (spare_of c.self.inside.pool.top c.self.inside.heap (length (list_at c.self.inside.pool.lists 1))) c.self.inside.heap c.in-Some.index c.args.message.now
    c.self.invariant.0 c.lists_law.ensures.count c.lists_law.ensures.distinct (sym c.in-Some.ensures) c.relink.ensures.lists

pub invariant_of-self : goal.invariant_of-self
invariant_of-self c = (
  (all c).kept,
  (
    finds_at c.self.inside.waiting.known c.self.inside.waiting.late (list_at c.self.inside.pool.lists 4) (list_at c.relink.new.self.lists 4) (all c).waiting_stays c.self.invariant.1.0,
    finds_at c.leave.new.self.known c.leave.new.self.late (list_at (without c.in-Some.index c.self.inside.pool.lists) 5) (list_at c.relink.new.self.lists 5) (all c).owed_is c.leave.ensures,
  ),
  λ falling. (all c).falls (c.self.invariant.2 falling),
)

pub returns-clause-yes : goal.returns-clause-yes
returns-clause-yes c _ = (all c).contents_is ∙ ap (λ v. with_room c.relink.new.self.room (spare_of c.relink.new.self.top c.self.inside.heap (length (list_at c.relink.new.self.lists 1))) (with_sent_again c.args.message.now v)) c.self.view_is

pub returns-clause-answer : goal.returns-clause-answer
returns-clause-answer c = ap is_some c.in-Some.ensures ∙ sym (has_is c.args.message.now (list_at c.self.inside.pool.lists 5)) ∙ ap (λ v. has c.args.message.now v.owed) c.self.view_is

pub returns-in_default-clause-answer : goal.returns-in_default-clause-answer
returns-in_default-clause-answer c = ap is_some c.in_default.ensures ∙ sym (has_is c.args.message.now (list_at c.self.inside.pool.lists 5)) ∙ ap (λ v. has c.args.message.now v.owed) c.self.view_is
