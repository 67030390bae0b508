-- The first record of the column that comes next is taken; it has one.
use Rattle.std.proofs.Common.{map, slice_set, vec_len, vec_capacity, ap, ◌∙◌, arith}
use Rattle.std.proofs.lemmas.List.{length-map, nil_from_length}
use Rattle.std.proofs.lemmas.Option.{slice_get_within}
use Rattle.tw_fossils.proofs.Taking.{shown_next, shown_some, take_one, has_room, is_near, IsNext, Taken}
use Rattle.tw_fossils.proofs.merging.copy_first.Goals.{After-index_mut, In_ok-clone}
use Rattle.tw_fossils.proofs.merging.copy_first.Goals as goal

next : (c : In_ok-clone) → IsNext c.args.line (map (λ rs. rs.now) c.args.left.now.items) c.args.next c.in-Some.record.now c.in-Some.later.now
next c =
    shown_next (λ rs. rs.now) c.args.left.now.items c.args.line c.args.heads.now.times c.requires.first.0 c.args.next c.index.result.now c.requires.ready.heads_are c.requires.first.1 c.index.ensures
    c.in-Some.record.now c.in-Some.later.now c.in-Some.ensures.cases.0

pub push_reserved-requires : goal.push_reserved-requires
push_reserved-requires c = has_room (next c) c.requires.ready

pub set-requires : goal.set-requires
set-requires c = slice_get_within c.args.heads.now.times c.args.next c.requires.first.0 c.requires.first.1.at

pub index_mut-requires : goal.index_mut-requires
index_mut-requires c =
    let items = c.args.left.now.items in
    omega (arith, is_near c.args.line (map (λ rs. rs.now) items) c.args.heads.now.times c.requires.first.0 c.args.next c.requires.ready.heads_are c.requires.first.1, length-map items (λ rs. rs.now), c.args.left.now.ok.0)

taken : (c : After-index_mut) → IsNext c.args.line (map (λ rs. rs.now) c.args.left.now.items) c.args.next c.in-Some.record.now c.in-Some.later.now
    → Taken c.args.line (map (λ rs. rs.now) c.args.left.now.items) (map (λ rs. rs.now) (slice_set c.args.left.now.items c.args.next c.in-Some.later)) c.set.new.self.times
    (vec_len c.push_reserved.new.self) (vec_capacity c.push_reserved.new.self) c.args.trace.now.items c.push_reserved.new.self.items
taken c n =
    take_one (λ rs. rs.now) c.args.left.now.items c.args.line c.args.next c.in-Some.later c.in-Some.record.now c.in_ok-clone.field-0 c.args.heads.now.times c.set.new.self.times
    (vec_len c.args.trace.now) (vec_capacity c.args.trace.now) (vec_len c.push_reserved.new.self) (vec_capacity c.push_reserved.new.self) c.args.trace.now.items c.push_reserved.new.self.items
    n c.requires.ready
    (c.set.ensures ∙ ap (slice_set c.args.heads.now.times c.args.next) (c.stamp_before.ensures c.in-Some.later.now c.first.ensures.item))
    c.push_reserved.ensures.len c.push_reserved.ensures.capacity c.in_ok-clone.ensures c.push_reserved.ensures.items

pub returns-in_ok-clone-clause-ready : goal.returns-in_ok-clone-clause-ready
returns-in_ok-clone-clause-ready c = let at = goal.at.returns-in_ok-clone-clause-ready c in (taken at.After-index_mut (next at.In_ok-clone)).ready

pub returns-in_ok-clone-clause-fewer : goal.returns-in_ok-clone-clause-fewer
returns-in_ok-clone-clause-fewer c = let at = goal.at.returns-in_ok-clone-clause-fewer c in (taken at.After-index_mut (next at.In_ok-clone)).fewer

pub returns-in_ok-clone-clause-merging : goal.returns-in_ok-clone-clause-merging
returns-in_ok-clone-clause-merging c = let at = goal.at.returns-in_ok-clone-clause-merging c in (taken at.After-index_mut (next at.In_ok-clone)).merging

pub returns-in_default-clause-fewer : goal.returns-in_default-clause-fewer
returns-in_default-clause-fewer c =
    absurd (shown_some (λ rs. rs.now) c.args.left.now.items c.args.line c.args.heads.now.times c.requires.first.0 c.args.next c.index.result.now c.requires.ready.heads_are c.requires.first.1 c.index.ensures
    (nil_from_length c.index.result.now.now c.in_default.ensures.cases))
