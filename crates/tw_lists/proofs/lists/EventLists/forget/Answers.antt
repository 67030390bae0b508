use Rattle.std.proofs.Common.{ap, ◌∙◌, length, arith, rules}
use Rattle.std.proofs.lemmas.List.{length-map}
use Rattle.tw_pool.specs.Lists.{list_at, without_first}
use Rattle.tw_lists.specs.Lists.{with_room, forgotten}
use Rattle.tw_lists.specs.Nodes.{spare_of}
use Rattle.tw_lists.specs.Lists.{message_at}
use Rattle.tw_lists.proofs.Comings.{Forgotten, forgotten_kept, sent_there}
use Rattle.tw_lists.proofs.Found.{found_same, fall_at}
use Rattle.tw_lists.proofs.lists.EventLists.forget.Goals.{After-cut_front-2}
use Rattle.tw_lists.proofs.lists.EventLists.forget.Goals as goal

all : (c : After-cut_front-2) → Forgotten c.self.inside.pool.lists c.cut_front-2.new.self.lists c.args.consumed c.args.sent c.cut_front-2.new.self.room (spare_of c.cut_front-2.new.self.top c.self.inside.heap (length (list_at c.cut_front-2.new.self.lists 1))) c.self.inside.pool.room (spare_of c.self.inside.pool.top c.self.inside.heap (length (list_at c.self.inside.pool.lists 1))) c.self.inside.heap
all c = forgotten_kept c.self.inside.pool.lists c.cut_front-2.new.self.lists c.args.consumed c.args.sent c.cut_front-2.new.self.room (spare_of c.cut_front-2.new.self.top c.self.inside.heap (length (list_at c.cut_front-2.new.self.lists 1))) c.self.inside.pool.room (spare_of c.self.inside.pool.top c.self.inside.heap (length (list_at c.self.inside.pool.lists 1))) c.self.inside.heap
    c.self.invariant.0 c.lists_law.ensures.count (c.cut_front-2.ensures.lists ∙ ap (λ ls. without_first ls 2 c.args.sent) c.cut_front.ensures.lists)

pub invariant_of-self : goal.invariant_of-self
invariant_of-self c = let done = all c in (done.kept, found_same c.self.inside.waiting c.self.inside.owed c.self.inside.pool.lists c.cut_front-2.new.self.lists done.untouched c.self.invariant.1, fall_at c.self.inside.falling (list_at c.self.inside.pool.lists 5) (list_at c.cut_front-2.new.self.lists 5) done.untouched.owed c.self.invariant.2)

pub returns : goal.returns
returns c = (all c).contents_is ∙ ap (λ v. with_room c.cut_front-2.new.self.room (spare_of c.cut_front-2.new.self.top c.self.inside.heap (length (list_at c.cut_front-2.new.self.lists 1))) (forgotten c.args.consumed c.args.sent v)) c.self.view_is

pub cut_front-requires : goal.cut_front-requires
cut_front-requires c = (search rules, (omega arith, omega (arith, c.requires.consumed, ap (λ v. length v.consumed) c.self.view_is, length-map (list_at c.self.inside.pool.lists 1) message_at)))

pub cut_front-requires-2 : goal.cut_front-requires-2
cut_front-requires-2 c = (search rules, (omega arith, omega (arith, c.requires.sent, ap (λ v. length v.sent) c.self.view_is, length-map (list_at c.self.inside.pool.lists 2) message_at, ap (λ ls. length (list_at ls 2)) c.cut_front.ensures.lists, ap length (sent_there c.self.inside.pool.lists c.args.consumed))))
