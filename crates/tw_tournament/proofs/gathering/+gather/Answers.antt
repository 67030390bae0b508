-- From the top of a side on down: where the right half has some of the time, the left half is listed first.
use Rattle.std.proofs.Common.{◌≡◌, ◌≢◌, ◌<◌, ◌≤◌, subst, ◌++◌, ◌+◌, ◌/◌, refl, ap, sym, ◌∙◌, arith, rules, append-nil, append_assoc, take, drop}
use Rattle.tw_tournament.specs.Times.{numbers_at}
use Rattle.tw_tournament.specs.Winners.{at, PlayFor}
use Rattle.tw_tournament.proofs.Gathered.{IsSplit, place_within, read_at, split, none_below, one_there, both_sides, left_there}
use Rattle.tw_tournament.proofs.Winning.{power_some}
use Rattle.tw_tournament.proofs.gathering.+gather.Goals as goal
use Rattle.tw_tournament.proofs.gathering.+gather.Goals.{In-loop-width}

pub offset_bounds-winners-place : goal.offset_bounds-winners-place
offset_bounds-winners-place t c =
    let near = place_within c.args.row c.args.place c.args.first c.args.width c.requires.below c.requires.within in
    let bound = c.requires.bound in omega arith

pub bounds-winners-place : goal.bounds-winners-place
bounds-winners-place t c =
    let near = place_within c.args.row c.args.place c.args.first c.args.width c.requires.below c.requires.within in
    let size = c.requires.size in omega arith

pub returns-then-ne : goal.returns-then-ne
returns-then-ne t c =
    let items = c.args.numbers.now.items in
    let near = place_within c.args.row c.args.place c.args.first c.args.width c.requires.below c.requires.within in
    let least = c.requires.least c.args.place c.requires.place near in
    let size = c.requires.size in
    let read = read_at c.args.winners.now c.args.place c.index-winners-place.result (omega arith) c.index-winners-place.is in
    let other : c.index-winners-place.result ≢ c.args.time = search rules in
    let none = none_below c.args.winners.now c.args.row c.requires.won c.requires.size c.args.time c.args.place c.args.first c.args.width c.requires.place c.requires.below c.requires.within least (λ same. other (read ∙ same)) in
    sym (ap (λ ns. items ++ ns) none ∙ append-nil items)

pub loop-width-init : goal.loop-width-init
loop-width-init t c =
    let near = place_within c.args.row c.args.place c.args.first c.args.width c.requires.below c.requires.within in
    let size = c.requires.size in
    let read = read_at c.args.winners.now c.args.place c.index-winners-place.result (omega arith) c.index-winners-place.is in
    let same : c.index-winners-place.result ≡ c.args.time = search rules in
    record {
      some = c.requires.place;
      below = c.requires.below;
      within = c.requires.within;
      smaller = omega arith;
      there = sym read ∙ same;
      listed = refl;
    }

-- the two halves of a side
module _ (t : _) (c : In-loop-width t) where
  sides : IsSplit c.loop-width.place c.loop-width.width (c.args.row + c.loop-width.first)
  sides = split c.loop-width.place c.loop-width.width (c.args.row + c.loop-width.first) c.loop-width.invariant.below (let wide = c.loop-width-test.true in λ one. omega (arith, wide, one))

  right_side : PlayFor (c.loop-width.place + c.loop-width.place + 1) (c.loop-width.width / 2) (c.args.row + (c.loop-width.first + c.loop-width.width / 2))
  right_side =
      let same : c.args.row + c.loop-width.first + c.loop-width.width / 2 ≡ c.args.row + (c.loop-width.first + c.loop-width.width / 2) = omega arith in
      subst (PlayFor (c.loop-width.place + c.loop-width.place + 1) (c.loop-width.width / 2)) same sides.right

  right_within : c.loop-width.first + c.loop-width.width / 2 + c.loop-width.width / 2 ≤ c.args.row
  right_within = let halves = sides.halves in let within = c.loop-width.invariant.within in omega (arith, halves, within)

  right_near : c.loop-width.place + c.loop-width.place + 1 < c.args.row + c.args.row
  right_near = place_within c.args.row (c.loop-width.place + c.loop-width.place + 1) (c.loop-width.first + c.loop-width.width / 2) (c.loop-width.width / 2) right_side right_within

pub overflow_add-place : goal.overflow_add-place
overflow_add-place t c = let near = right_near t (goal.at.overflow_add-place t c).In-loop-width in let bound = c.requires.bound in omega arith

pub overflow_add-place-in-loop-width : goal.overflow_add-place-in-loop-width
overflow_add-place-in-loop-width t c = let near = right_near t (goal.at.overflow_add-place-in-loop-width t c).In-loop-width in let bound = c.requires.bound in omega arith

pub offset_bounds-winners-place-in-loop-width : goal.offset_bounds-winners-place-in-loop-width
offset_bounds-winners-place-in-loop-width t c = let near = right_near t (goal.at.offset_bounds-winners-place-in-loop-width t c).In-loop-width in let bound = c.requires.bound in omega arith

pub bounds-winners-place-in-loop-width : goal.bounds-winners-place-in-loop-width
bounds-winners-place-in-loop-width t c = let near = right_near t (goal.at.bounds-winners-place-in-loop-width t c).In-loop-width in let size = c.requires.size in omega arith

pub gather-requires : goal.gather-requires
gather-requires t c =
    let two = sides t (goal.at.gather-requires t c).In-loop-width in
    let less = two.less in
    let halves = two.halves in
    let measure = c.decreases in
    let inv = c.loop-width.invariant in
    let some = inv.some in
    let smaller = inv.smaller in
    let within = inv.within in
    (omega arith, (c.requires.won, (c.requires.size, (c.requires.bound, (omega arith, (two.left, (omega arith, c.requires.least)))))))

pub overflow_add-place-then-eq : goal.overflow_add-place-then-eq
overflow_add-place-then-eq t c = let near = right_near t (goal.at.overflow_add-place-then-eq t c).In-loop-width in let bound = c.requires.bound in omega arith

pub loop-width-preserved-then-eq : goal.loop-width-preserved-then-eq
loop-width-preserved-then-eq t c =
    let before = (goal.at.loop-width-preserved-then-eq t c).In-loop-width in
    let two = sides t before in
    let ws = c.args.winners.now in
    let row = c.args.row in
    let place = c.loop-width.place in
    let first = c.loop-width.first in
    let half = c.loop-width.width / 2 in
    let inv = c.loop-width.invariant in
    let near = right_near t before in
    let size = c.requires.size in
    let less = two.less in
    let smaller = inv.smaller in
    let read = read_at ws (place + place + 1) c.index-winners-place-in-loop-width.result (omega arith) c.index-winners-place-in-loop-width.is in
    let same : c.index-winners-place-in-loop-width.result ≡ c.args.time = search rules in
    let left = numbers_at c.args.time first (take half (drop (row + first) ws)) in
    let right = numbers_at c.args.time (first + half) (take half (drop (row + (first + half)) ws)) in
    let both = both_sides ws row c.requires.won c.requires.size c.args.time place first c.loop-width.width two inv.within in
    record {
      some = omega arith;
      below = right_side t before;
      within = right_within t before;
      smaller = omega arith;
      there = sym read ∙ same;
      listed =
          ap (λ l. l ++ right) c.in_ok-gather.ensures ∙ append_assoc c.loop-width.numbers.items left right
          ∙ ap (λ l. c.loop-width.numbers.items ++ l) both ∙ inv.listed;
    }

pub loop-width-preserved : goal.loop-width-preserved
loop-width-preserved t c =
    let before = (goal.at.loop-width-preserved t c).In-loop-width in
    let two = sides t before in
    let ws = c.args.winners.now in
    let row = c.args.row in
    let place = c.loop-width.place in
    let first = c.loop-width.first in
    let half = c.loop-width.width / 2 in
    let inv = c.loop-width.invariant in
    let near = right_near t before in
    let size = c.requires.size in
    let less = two.less in
    let halves = two.halves in
    let above = two.above in
    let within = inv.within in
    let wide = c.loop-width-test.true in
    let some = inv.some in
    let smaller = inv.smaller in
    let read = read_at ws (place + place + 1) c.index-winners-place-in-loop-width.result (omega arith) c.index-winners-place-in-loop-width.is in
    let other : c.index-winners-place-in-loop-width.result ≢ c.args.time = search rules in
    let other' : at ws (place + place + 1) ≢ c.args.time = λ e. other (read ∙ e) in
    let least = c.requires.least (place + place + 1) (omega arith) near in
    let none = none_below ws row c.requires.won c.requires.size c.args.time (place + place + 1) (first + half) half (omega arith) (right_side t before) (right_within t before) least other' in
    let left = numbers_at c.args.time first (take half (drop (row + first) ws)) in
    let both = both_sides ws row c.requires.won c.requires.size c.args.time place first c.loop-width.width two inv.within in
    record {
      some = omega arith;
      below = two.left;
      within = omega arith;
      smaller = omega arith;
      there = left_there ws row c.requires.won c.requires.size place c.args.time inv.some (omega arith) inv.there other';
      listed =
          ap (λ l. c.loop-width.numbers.items ++ l) (sym (append-nil left) ∙ ap (λ l. left ++ l) (sym none) ∙ both) ∙ inv.listed;
    }

pub returns : goal.returns
returns t c =
    let inv = c.loop-width.invariant in
    let items = c.loop-width.numbers.items in
    let some = power_some inv.below.0 in
    let wide = inv.below.1 in
    let narrow = c.loop-width-test.false in
    let single : c.loop-width.width ≡ 1 = omega arith in
    let one = one_there c.args.winners.now c.args.row c.requires.won c.requires.size c.args.time c.loop-width.place c.loop-width.first c.loop-width.width inv.below inv.within single inv.there in
    c.in_ok-push.ensures.items ∙ sym (ap (λ ns. items ++ ns) one) ∙ inv.listed
