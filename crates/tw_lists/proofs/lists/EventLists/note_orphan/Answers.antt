use Rattle.std.proofs.Common.{◌≡◌, ℕ, Result, Ok, Err, ◌∷◌, [], ap, sym, ◌∙◌, arith, length}
use Rattle.tw_msgs.specs.declared.message.Item.{Item}
use Rattle.tw_pool.specs.declared.refused.PoolRefused.{PoolRefused}
use Rattle.tw_pool.specs.Lists.{list_at, live_count, with_item_last}
use Rattle.tw_theory.specs.Bundles.{anti}
use Rattle.tw_lists.specs.Lists.{node_count}
use Rattle.tw_lists.specs.Nodes.{spare_of}
use Rattle.tw_lists.proofs.Counts.{count_is}
use Rattle.tw_lists.proofs.Found.{pushed_there, pushed_other, within_limit, late_within, finds_at, fall_at, finds_more}
use Rattle.tw_lists.proofs.Comings.{orphan_kept}
use Rattle.tw_lists.proofs.lists.EventLists.note_orphan.Goals.{After-push_back, In-Ok}
use Rattle.tw_lists.proofs.lists.EventLists.note_orphan.Goals as goal

added : (c : In-Ok) → c.push_back.new.self.lists ≡ with_item_last c.self.inside.pool.lists 4 (c.in-Ok._index, anti c.args.message)
added c = c.in-Ok.ensures.added ∙ ap (λ item. with_item_last c.self.inside.pool.lists 4 (c.in-Ok._index, item)) c.signed.ensures

pub grow-requires : goal.grow-requires
grow-requires c =
    let limit = within_limit c.self.inside.pool.lists c.self.inside.pool.room 1048576 c.lists_law.ensures.count c.lists_law.ensures.limited in
    let late = late_within c.self.inside.waiting.known c.self.inside.waiting.late (list_at c.self.inside.pool.lists 4) c.self.invariant.1.0 in
    omega (arith, limit.waiting, late)

pub learn-requires-clause-finds : goal.learn-requires-clause-finds
learn-requires-clause-finds c =
    finds_more c.self.inside.waiting.known c.grow.new.self.known c.self.inside.waiting.late c.grow.new.self.late (list_at c.self.inside.pool.lists 4) ((c.in-Ok._index, anti c.args.message) ∷ []) (list_at c.push_back.new.self.lists 4)
    c.grow.ensures.known c.grow.ensures.late
    (pushed_there c.self.inside.pool.lists c.push_back.new.self.lists 4 (c.in-Ok._index, anti c.args.message) (omega (arith, c.lists_law.ensures.count)) (added (goal.at.learn-requires-clause-finds c).In-Ok))
    c.self.invariant.1.0

pub invariant_of-self : goal.invariant_of-self
invariant_of-self c =
    let is = added (goal.at.invariant_of-self c).In-Ok in
    let stays = pushed_other c.self.inside.pool.lists c.push_back.new.self.lists 4 5 (c.in-Ok._index, anti c.args.message) (λ e. omega (arith, e)) is in (
      orphan_kept c.self.inside.pool.lists c.push_back.new.self.lists c.self.inside.heap c.in-Ok._index c.args.message c.self.invariant.0 c.lists_law.ensures.count is,
      (c.learn.ensures, finds_at c.self.inside.owed.known c.self.inside.owed.late (list_at c.self.inside.pool.lists 5) (list_at c.push_back.new.self.lists 5) stays c.self.invariant.1.1),
      fall_at c.self.inside.falling (list_at c.self.inside.pool.lists 5) (list_at c.push_back.new.self.lists 5) stays c.self.invariant.2,
    )

count : (c : After-push_back) → live_count c.self.inside.pool.lists ≡ node_count c.args.self.now
count c =
    let f = c.self.inside in
    sym (count_is f.pool.lists f.pool.room (spare_of f.pool.top f.heap (length (list_at f.pool.lists 1))) f.heap.entries c.lists_law.ensures.count c.self.invariant.0.count) ∙ ap node_count c.self.view_is

pub returns-in-Ok-clause-limit : goal.returns-in-Ok-clause-limit
returns-in-Ok-clause-limit c =
    let same = count (goal.at.returns-in-Ok-clause-limit c).After-push_back in
    (λ many. let full = c.in-Ok.ensures.inserted.limit.0 (omega (arith, many, same)) in absurd (cc full), λ full. absurd (cc full))

-- why it was refused, and what was handed back besides
abbrev reason : Result ℕ (Item × PoolRefused) → Result (Unit {0}) PoolRefused
reason (Ok index) = Ok tt
reason (Err e) = Err e.1

abbrev handed : Item → Result (Unit {0}) PoolRefused → Result ℕ (Item × PoolRefused)
handed item (Ok x) = Ok 0
handed item (Err refused) = Err (item, refused)

pub returns-in-Err-clause-limit : goal.returns-in-Err-clause-limit
returns-in-Err-clause-limit c =
    let same = count (goal.at.returns-in-Err-clause-limit c).After-push_back in (
      λ many. let full = c.in-Err.ensures.inserted.limit.0 (omega (arith, many, same)) in ap reason full,
      λ full. let all = c.in-Err.ensures.inserted.limit.1 (λ i. handed (c.in-Err.ensures.inserted.handed_back i) (full i)) in omega (arith, all, same),
    )
