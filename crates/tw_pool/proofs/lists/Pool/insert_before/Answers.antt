use Rattle.std.proofs.Common.{◌≡◌, ◌+◌, ◌-◌, min, arith, rules, sym, ap, ◌∙◌}
use Rattle.slab.specs.Slab.{slab_len}
use Rattle.tw_pool.specs.Lists.{live_count, item_of, AreDistinct, with_item_before, IsLive}
use Rattle.tw_pool.proofs.LinkChanges.{inserted}
use Rattle.tw_pool.specs.Links.{lists_of}
use Rattle.tw_pool.proofs.ListsByIndex.{item_of-with_item_before, item_of-with_item_before_other}
use Rattle.tw_pool.proofs.LinksRead.{linked_distinct}
use Rattle.tw_pool.proofs.lists.Pool.insert_before.Given.{Over}
use Rattle.tw_pool.proofs.lists.Pool.insert_before.Goals.{After-link_before}
use Rattle.tw_pool.proofs.lists.Pool.insert_before.Goals as goal

pub link_before-requires-clause-linked : goal.link_before-requires-clause-linked
link_before-requires-clause-linked g c = (inserted _ _ _ _ _ c.insert_reserved-index.ensures.was_vacant c.insert_reserved-index.ensures.updates c.self.invariant).linked

pub link_before-requires-clause-free : goal.link_before-requires-clause-free
link_before-requires-clause-free g c = (inserted _ _ _ _ _ c.insert_reserved-index.ensures.was_vacant c.insert_reserved-index.ensures.updates c.self.invariant).free

pub link_before-requires-clause-len_fits : goal.link_before-requires-clause-len_fits
link_before-requires-clause-len_fits g c = (inserted _ _ _ _ _ c.insert_reserved-index.ensures.was_vacant c.insert_reserved-index.ensures.updates c.self.invariant).fits

pub invariant_of-self : goal.invariant_of-self
invariant_of-self g c =
    let new = inserted _ _ _ _ _ c.insert_reserved-index.ensures.was_vacant c.insert_reserved-index.ensures.updates c.self.invariant in
    let counted = c.self.invariant.counted in
    let lists = ap live_count new.lists in
    let len = c.link_before.ensures.same.len in
    let more = c.insert_reserved-index.ensures.len in
    let room = ap (λ p. p.room) c.self.view_is in
    let enough = c.in_default.ensures.room in
    record {
      linked = c.link_before.ensures.linked;
      counted = omega (arith, c.link_before.ensures.more);
      limited = omega arith;
    }

pub returns-clause-added : goal.returns-clause-added
returns-clause-added g c =
    let new = inserted _ _ _ _ _ c.insert_reserved-index.ensures.was_vacant c.insert_reserved-index.ensures.updates c.self.invariant in
    let lists = rw new.item at c.link_before.ensures.lists in
    let was = ap (λ p. p.lists) c.self.view_is ∙ c.reserve.ensures.lists in
    lists ∙ ap (λ ls. with_item_before c.args.at (c.insert_reserved-index.result, c.args.item) ls) (new.lists ∙ was)

pub link_before-requires-clause-live : goal.link_before-requires-clause-live
link_before-requires-clause-live g c =
    let was = ap (λ p. p.lists) c.self.view_is ∙ c.reserve.ensures.lists in
    let live : IsLive c.args.at (lists_of c.self.inside.nodes c.self.inside.ends) = rw was c.requires in
    rw (inserted _ _ _ _ _ c.insert_reserved-index.ensures.was_vacant c.insert_reserved-index.ensures.updates c.self.invariant).lists live

-- the slab has as many slots as the pool had once there was room, and one more of them is used
top_is : (g : Over) (c : After-link_before g) → c.link_before.new.nodes.capacity ≡ c.reserve.new.self.top
top_is g c = c.link_before.ensures.same.capacity ∙ c.insert_reserved-index.ensures.capacity ∙ ap (λ p. p.top) c.self.view_is

room_is : (g : Over) (c : After-link_before g) → (min c.link_before.new.nodes.capacity 1048576 - slab_len c.link_before.new.nodes) + 1 ≡ c.reserve.new.self.room
room_is g c =
    omega (arith, c.link_before.ensures.same.len, c.link_before.ensures.same.capacity, c.insert_reserved-index.ensures.capacity, c.insert_reserved-index.ensures.len, ap (λ p. p.room) c.self.view_is, c.in_default.ensures.room)

pub returns-clause-inserted : goal.returns-clause-inserted
returns-clause-inserted g c =
    let at = (goal.at.returns-clause-inserted g c).After-link_before in
    let was = ap (λ p. p.lists) c.self.view_is ∙ c.reserve.ensures.lists in
    let distinct : AreDistinct c.args.self.now.lists = rw (← was) (linked_distinct _ _ c.self.invariant.linked) in
    record {
      fresh = ap (item_of c.insert_reserved-index.result) (sym was) ∙ (inserted _ _ _ _ _ c.insert_reserved-index.ensures.was_vacant c.insert_reserved-index.ensures.updates c.self.invariant).fresh;
      there = item_of-with_item_before c.args.at _ _ c.args.self.now.lists _ distinct c.requires (returns-clause-added g c) (linked_distinct _ _ c.link_before.ensures.linked);
      others = λ other differs. ap (item_of other) (returns-clause-added g c) ∙ item_of-with_item_before_other c.args.at other _ c.args.self.now.lists (λ same. differs (sym same));
      below = search rules;
      room = omega (arith, c.reserve.ensures.room_grows, room_is g at);
      succeeds = search rules;
      had_room = λ some. room_is g at ∙ ap (λ p. p.room) (c.reserve.ensures.had_room some);
      had_top = λ some. top_is g at ∙ ap (λ p. p.top) (c.reserve.ensures.had_room some);
      top_grows = omega (arith, c.reserve.ensures.top_grows, top_is g at);
      limit = search rules;
      handed_back = search rules;
      unchanged = search rules;
      room_kept = search rules;
    }
