use Rattle.std.proofs.Common.{◌<◌, length, arith, rules, sym, ap, ◌∙◌}
use Rattle.tw_pool.specs.Lists.{live_count, item_of, with_item_last}
use Rattle.tw_pool.proofs.LinkChanges.{inserted}
use Rattle.tw_pool.proofs.ListsByIndex.{item_of-with_item_last, item_of-with_item_last_other}
use Rattle.tw_pool.proofs.LinksRead.{within_lists, linked_distinct}
use Rattle.tw_pool.proofs.lists.Pool.push_back.Goals as goal

pub link_last-requires-clause-linked : goal.link_last-requires-clause-linked
link_last-requires-clause-linked g c = (inserted _ _ _ _ _ c.insert_reserved-index.ensures.was_vacant c.insert_reserved-index.ensures.updates c.self.invariant).linked

pub link_last-requires-clause-free : goal.link_last-requires-clause-free
link_last-requires-clause-free g c = (inserted _ _ _ _ _ c.insert_reserved-index.ensures.was_vacant c.insert_reserved-index.ensures.updates c.self.invariant).free

pub link_last-requires-clause-len_fits : goal.link_last-requires-clause-len_fits
link_last-requires-clause-len_fits g c = (inserted _ _ _ _ _ c.insert_reserved-index.ensures.was_vacant c.insert_reserved-index.ensures.updates c.self.invariant).fits

pub invariant_of-self : goal.invariant_of-self
invariant_of-self g c =
    let new = inserted _ _ _ _ _ c.insert_reserved-index.ensures.was_vacant c.insert_reserved-index.ensures.updates c.self.invariant in
    let counted = c.self.invariant.counted in
    let lists = ap live_count new.lists in
    let len = c.link_last.ensures.same.len in
    let more = c.insert_reserved-index.ensures.len in
    let room = ap (λ p. p.room) c.self.view_is in
    let enough = c.in_default.ensures.room in
    record {
      linked = c.link_last.ensures.linked;
      counted = omega (arith, c.link_last.ensures.more);
      limited = omega arith;
    }

pub returns-clause-added : goal.returns-clause-added
returns-clause-added g c =
    let new = inserted _ _ _ _ _ c.insert_reserved-index.ensures.was_vacant c.insert_reserved-index.ensures.updates c.self.invariant in
    let lists = rw new.item at c.link_last.ensures.lists in
    let was = ap (λ p. p.lists) c.self.view_is ∙ c.reserve.ensures.lists in
    lists ∙ ap (λ ls. with_item_last ls c.args.list (c.insert_reserved-index.result, c.args.item)) (new.lists ∙ was)

pub returns-clause-inserted : goal.returns-clause-inserted
returns-clause-inserted g c =
    let was = ap (λ p. p.lists) c.self.view_is ∙ c.reserve.ensures.lists in
    let within = within_lists c.self.inside.nodes c.self.inside.ends c.args.list (omega arith) in
    let now : c.args.list < length c.args.self.now.lists = rw (← was) within in
    record {
      fresh = ap (item_of c.insert_reserved-index.result) (sym was) ∙ (inserted _ _ _ _ _ c.insert_reserved-index.ensures.was_vacant c.insert_reserved-index.ensures.updates c.self.invariant).fresh;
      there = item_of-with_item_last _ c.args.list _ c.args.self.now.lists _ now (returns-clause-added g c) (linked_distinct _ _ c.link_last.ensures.linked);
      others = λ other differs. ap (item_of other) (returns-clause-added g c) ∙ item_of-with_item_last_other other c.args.list _ c.args.self.now.lists (λ same. differs (sym same));
      below = search rules;
      room = search rules;
      succeeds = search rules;
      had_room = search rules;
      had_top = search rules;
      top_grows = search rules;
      limit = search rules;
      handed_back = search rules;
      unchanged = search rules;
      room_kept = search rules;
    }
