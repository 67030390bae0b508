use Rattle.std.proofs.Common.{◌≡◌, ◌+◌, ◌≤◌, length, false, true, ap, sym, subst, ◌∙◌, arith}
use Rattle.std.proofs.lemmas.Option.{same_Some}
use Rattle.tw_pool.specs.Lists.{list_at}
use Rattle.tw_vtime.specs.Stamps.{is_overdue}
use Rattle.tw_lists.proofs.Leaving.{LastLeft, Left, none_left, last_step, left_all, left_out}
use Rattle.tw_lists.proofs.finder.Finder.leave_overdue.Goals as goal

pub loop-count-init : goal.loop-count-init
loop-count-init c =
    record {
      left = none_left c.args.self.now.known c.args.self.now.late c.args.next c.args.pool.now.lists c.args.list c.last-at.result c.last-at.ensures.value c.requires.finds;
      live = c.last-at.ensures.live;
    }

-- no node is left
out : (c : goal.In_default) → Left c.loop-count.self.known c.loop-count.self.late c.args.next (list_at c.args.pool.now.lists c.args.list) c.loop-count.count
out c =
    let self = c.loop-count.self in
    left_out self.known self.late c.args.next (list_at c.args.pool.now.lists c.args.list) c.loop-count.count
    (subst (λ o. LastLeft self.known self.late c.args.next (list_at c.args.pool.now.lists c.args.list) c.loop-count.count o) c.in_default.is c.loop-count.invariant.left)

-- the last one stays
stays : (c : goal.Then-not-is_overdue) → Left c.loop-count.self.known c.loop-count.self.late c.args.next (list_at c.args.pool.now.lists c.args.list) c.loop-count.count
stays c =
    let lists = c.args.pool.now.lists in
    let self = c.loop-count.self in
    let here = subst (λ o. LastLeft self.known self.late c.args.next (list_at lists c.args.list) c.loop-count.count o) c.in-Some.is c.loop-count.invariant.left in
    let at = last_step self.known self.late c.args.next lists c.args.list c.loop-count.count c.in-Some.index c.lists_law.ensures.distinct (omega (arith, c.requires.list, c.lists_law.ensures.count)) here in
    let item = same_Some at.item c.get.result.now (sym at.got ∙ c.get.ensures) in
    let timely : is_overdue at.item.message.stamp c.args.next ≡ false = ap (λ x. is_overdue x.message.stamp c.args.next) item ∙ sym c.is_overdue.ensures ∙ c.if-not-is_overdue.true in
    at.done timely

-- all have left
all : (c : goal.After-len) → Left c.loop-count.self.known c.loop-count.self.late c.args.next (list_at c.args.pool.now.lists c.args.list) c.len.result
all c =
    let self = c.loop-count.self in
    let l = list_at c.args.pool.now.lists c.args.list in
    let end : c.loop-count.count ≡ c.len.result = omega arith in
    let whole : length l ≤ c.loop-count.count = omega arith in
    subst (λ k. Left self.known self.late c.args.next l k) end (left_all self.known self.late c.args.next l c.loop-count.count c.loop-count.at whole c.loop-count.invariant.left)

pub returns-in_default-clause-within : goal.returns-in_default-clause-within
returns-in_default-clause-within c = (out c).within

pub returns-in_default-clause-finds : goal.returns-in_default-clause-finds
returns-in_default-clause-finds c = (out c).finds

pub returns-in_default-clause-overdue : goal.returns-in_default-clause-overdue
returns-in_default-clause-overdue c = (out c).overdue

pub returns-in_default-clause-last : goal.returns-in_default-clause-last
returns-in_default-clause-last c = (out c).last

pub returns-then-not-is_overdue-clause-within : goal.returns-then-not-is_overdue-clause-within
returns-then-not-is_overdue-clause-within c = (stays c).within

pub returns-then-not-is_overdue-clause-finds : goal.returns-then-not-is_overdue-clause-finds
returns-then-not-is_overdue-clause-finds c = (stays c).finds

pub returns-then-not-is_overdue-clause-overdue : goal.returns-then-not-is_overdue-clause-overdue
returns-then-not-is_overdue-clause-overdue c = (stays c).overdue

pub returns-then-not-is_overdue-clause-last : goal.returns-then-not-is_overdue-clause-last
returns-then-not-is_overdue-clause-last c = (stays c).last

pub returns-clause-within : goal.returns-clause-within
returns-clause-within c = (all c).within

pub returns-clause-finds : goal.returns-clause-finds
returns-clause-finds c = (all c).finds

pub returns-clause-overdue : goal.returns-clause-overdue
returns-clause-overdue c = (all c).overdue

pub returns-clause-last : goal.returns-clause-last
returns-clause-last c = (all c).last

pub loop-count-preserved : goal.loop-count-preserved
loop-count-preserved c =
    let lists = c.args.pool.now.lists in
    let self = c.loop-count.self in
    let here = subst (λ o. LastLeft self.known self.late c.args.next (list_at lists c.args.list) c.loop-count.count o) c.in-Some.is c.loop-count.invariant.left in
    let at = last_step self.known self.late c.args.next lists c.args.list c.loop-count.count c.in-Some.index c.lists_law.ensures.distinct (omega (arith, c.requires.list, c.lists_law.ensures.count)) here in
    let item = same_Some at.item c.get.result.now (sym at.got ∙ c.get.ensures) in
    let due : is_overdue at.item.message.stamp c.args.next ≡ true = ap (λ x. is_overdue x.message.stamp c.args.next) item ∙ sym c.is_overdue.ensures ∙ c.if-not-is_overdue.false in
    let finds = c.leave_last.ensures at.before (c.in-Some.index, at.item) (ap (λ x. x.message) item) at.finds in
    record {
      left = subst (λ o. LastLeft c.leave_last.new.self.known c.leave_last.new.self.late c.args.next (list_at lists c.args.list) (c.loop-count.count + 1) o) (sym c.prev-at.ensures.value)
          (at.on c.leave_last.new.self.known c.leave_last.new.self.late due finds);
      live = c.prev-at.ensures.live;
    }
