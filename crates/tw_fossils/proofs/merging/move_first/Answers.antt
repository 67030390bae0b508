-- The first record of the column that comes next is taken; it has one.
use Rattle.std.proofs.Common.{map, slice_set, vec_len, vec_capacity, refl, sym, ap, subst, ◌∙◌, arith}
use Rattle.std.proofs.lemmas.List.{length-map, nil_from_length}
use Rattle.std.proofs.lemmas.Option.{slice_get_within}
use Rattle.tw_fossils.specs.Merging.{head_before}
use Rattle.tw_fossils.proofs.Taking.{shown_next, shown_some, take_one, has_room, is_near, IsNext, Taken}
use Rattle.tw_fossils.proofs.merging.move_first.Goals.{After-give_back, In-Some, In_default}
use Rattle.tw_fossils.proofs.merging.move_first.Goals as goal

next : (c : In-Some) → IsNext c.args.line (map (λ rs. rs.items) c.args.left.now.items) c.args.next c.in-Some.record c.pop_front.new.self.items
next c =
    shown_next (λ rs. rs.items) c.args.left.now.items c.args.line c.args.heads.now.times c.requires.first.0 c.args.next c.index_mut-column.result.now c.requires.ready.heads_are c.requires.first.1 c.index_mut-column.ensures.value
    c.in-Some.record c.pop_front.new.self.items c.in-Some.ensures.items

pub push_reserved-requires : goal.push_reserved-requires
push_reserved-requires c = has_room (next (goal.at.push_reserved-requires c).In-Some) c.requires.ready

-- room that was given back changed nothing
taken : (c : After-give_back) → IsNext c.args.line (map (λ rs. rs.items) c.args.left.now.items) c.args.next c.in-Some.record c.pop_front.new.self.items
    → Taken c.args.line (map (λ rs. rs.items) c.args.left.now.items) (map (λ rs. rs.items) (slice_set c.args.left.now.items c.args.next c.give_back.new.column)) c.set.new.self.times
    (vec_len c.push_reserved.new.self) (vec_capacity c.push_reserved.new.self) c.args.trace.now.items c.push_reserved.new.self.items
taken c n =
    let same = sym c.give_back.ensures in
    take_one (λ rs. rs.items) c.args.left.now.items c.args.line c.args.next c.give_back.new.column c.in-Some.record c.in-Some.record c.args.heads.now.times c.set.new.self.times
    (vec_len c.args.trace.now) (vec_capacity c.args.trace.now) (vec_len c.push_reserved.new.self) (vec_capacity c.push_reserved.new.self) c.args.trace.now.items c.push_reserved.new.self.items
    (subst (IsNext c.args.line (map (λ rs. rs.items) c.args.left.now.items) c.args.next c.in-Some.record) same n) c.requires.ready
    (c.set.ensures ∙ ap (slice_set c.args.heads.now.times c.args.next) (c.stamp_before.ensures c.pop_front.new.self.items c.front.ensures.item ∙ ap (head_before c.args.line) same))
    c.push_reserved.ensures.len c.push_reserved.ensures.capacity refl c.push_reserved.ensures.items

pub returns-in-Some-clause-ready : goal.returns-in-Some-clause-ready
returns-in-Some-clause-ready c = let at = goal.at.returns-in-Some-clause-ready c in (taken at.After-give_back (next at.In-Some)).ready

pub returns-in-Some-clause-fewer : goal.returns-in-Some-clause-fewer
returns-in-Some-clause-fewer c = let at = goal.at.returns-in-Some-clause-fewer c in (taken at.After-give_back (next at.In-Some)).fewer

pub returns-in-Some-clause-merging : goal.returns-in-Some-clause-merging
returns-in-Some-clause-merging c = let at = goal.at.returns-in-Some-clause-merging c in (taken at.After-give_back (next at.In-Some)).merging

never_there : (c : In_default) → ⊥
never_there c =
    shown_some (λ rs. rs.items) c.args.left.now.items c.args.line c.args.heads.now.times c.requires.first.0 c.args.next c.index_mut-column.result.now c.requires.ready.heads_are c.requires.first.1 c.index_mut-column.ensures.value
    (nil_from_length c.index_mut-column.result.now.items (omega (arith, c.in_default.ensures.cases, c.index_mut-column.result.now.ok.0)))

pub returns-in_default-clause-ready : goal.returns-in_default-clause-ready
returns-in_default-clause-ready c = absurd (never_there (goal.at.returns-in_default-clause-ready c).In_default)

pub returns-in_default-clause-fewer : goal.returns-in_default-clause-fewer
returns-in_default-clause-fewer c = absurd (never_there (goal.at.returns-in_default-clause-fewer c).In_default)

pub returns-in_default-clause-merging : goal.returns-in_default-clause-merging
returns-in_default-clause-merging c = absurd (never_there (goal.at.returns-in_default-clause-merging c).In_default)

pub index_mut-column-requires : goal.index_mut-column-requires
index_mut-column-requires c =
    let items = c.args.left.now.items in
    omega (arith, is_near c.args.line (map (λ rs. rs.items) items) c.args.heads.now.times c.requires.first.0 c.args.next c.requires.ready.heads_are c.requires.first.1, length-map items (λ rs. rs.items), c.args.left.now.ok.0)

pub set-requires : goal.set-requires
set-requires c = slice_get_within c.args.heads.now.times c.args.next c.requires.first.0 c.requires.first.1.at
