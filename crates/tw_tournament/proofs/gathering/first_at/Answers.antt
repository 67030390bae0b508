-- From the top on down: where the left half has some of the time, its first is there, and else the left half is later.
use Rattle.std.proofs.Common.{◌≡◌, ◌≢◌, ◌<◌, ◌≤◌, ◌+◌, ◌-◌, ◌/◌, subst, ap, sym, ◌∙◌, inl, inr, arith, rules}
use Rattle.std.proofs.lemmas.Bool.{cases_lt}
use Rattle.tw_tournament.specs.Winners.{at, PlayFor}
use Rattle.tw_tournament.proofs.Gathered.{IsSplit, later_below, one_wide, place_within, read_at, right_there, split}
use Rattle.tw_tournament.proofs.Winning.{leftmost_one, power_some}
use Rattle.tw_tournament.proofs.gathering.first_at.Goals as goal
use Rattle.tw_tournament.proofs.gathering.first_at.Goals.{In-loop-width}

pub loop-width-init : goal.loop-width-init
loop-width-init c =
    let k = c.requires.power.0 in
    let is = c.requires.power.1 in
    let one = leftmost_one k in
    record {
      some = omega arith;
      below = (k, is, omega arith);
      within = omega arith;
      there = c.requires.time;
      earlier = λ i none. absurd (omega (arith, none));
    }

-- the two halves of a side
module _ (c : In-loop-width) where
  sides : IsSplit c.loop-width.place c.loop-width.width (c.args.row + c.loop-width.first)
  sides = split c.loop-width.place c.loop-width.width (c.args.row + c.loop-width.first) c.loop-width.invariant.below (let wide = c.loop-width-test.true in λ one. omega (arith, wide, one))

  right_side : PlayFor (c.loop-width.place + c.loop-width.place + 1) (c.loop-width.width / 2) (c.args.row + (c.loop-width.first + c.loop-width.width / 2))
  right_side =
      let same : c.args.row + c.loop-width.first + c.loop-width.width / 2 ≡ c.args.row + (c.loop-width.first + c.loop-width.width / 2) = omega arith in
      subst (PlayFor (c.loop-width.place + c.loop-width.place + 1) (c.loop-width.width / 2)) same sides.right

  right_within : c.loop-width.first + c.loop-width.width / 2 + c.loop-width.width / 2 ≤ c.args.row
  right_within = let halves = sides.halves in let within = c.loop-width.invariant.within in omega (arith, halves, within)

  right_near : c.loop-width.place + c.loop-width.place + 1 < c.args.row + c.args.row
  right_near = place_within c.args.row (c.loop-width.place + c.loop-width.place + 1) (c.loop-width.first + c.loop-width.width / 2) (c.loop-width.width / 2) right_side right_within

pub overflow_add-place : goal.overflow_add-place
overflow_add-place c = let near = right_near (goal.at.overflow_add-place c).In-loop-width in let bound = c.requires.bound in omega arith

pub offset_bounds-winners-place : goal.offset_bounds-winners-place
offset_bounds-winners-place c = let near = right_near (goal.at.offset_bounds-winners-place c).In-loop-width in let bound = c.requires.bound in omega arith

pub bounds-winners-place : goal.bounds-winners-place
bounds-winners-place c = let near = right_near (goal.at.bounds-winners-place c).In-loop-width in let size = c.requires.size in omega arith

pub overflow_add-place-then-ne : goal.overflow_add-place-then-ne
overflow_add-place-then-ne c = let near = right_near (goal.at.overflow_add-place-then-ne c).In-loop-width in let bound = c.requires.bound in omega arith

pub loop-width-preserved-then-ne : goal.loop-width-preserved-then-ne
loop-width-preserved-then-ne c =
    let before = (goal.at.loop-width-preserved-then-ne c).In-loop-width in
    let two = sides before in
    let ws = c.args.winners.now in
    let row = c.args.row in
    let place = c.loop-width.place in
    let first = c.loop-width.first in
    let half = c.loop-width.width / 2 in
    let inv = c.loop-width.invariant in
    let near = right_near before in
    let size = c.requires.size in
    let within = inv.within in
    let less = two.less in
    let read = read_at ws (place + place) c.index-winners-place.result (omega arith) c.index-winners-place.is in
    let other : c.index-winners-place.result ≢ c.args.time = search rules in
    let other' : at ws (place + place) ≢ c.args.time = λ e. other (read ∙ e) in
    let met = c.requires.won place inv.some (omega arith) in
    let there = inv.there in
    let later : c.args.time < at ws (place + place) = omega arith in
    let left = later_below ws row c.requires.won c.requires.size c.args.time (place + place) first half (omega arith) two.left (omega arith) later in
    record {
      some = omega arith;
      below = right_side before;
      within = right_within before;
      there = right_there ws row c.requires.won c.requires.size place c.args.time inv.some (omega arith) inv.there other';
      earlier = λ i less. elim (cases_lt i first) [
        | inl here ↦ inv.earlier i here
        | inr there ↦ subst (λ k. c.args.time < at ws (row + k)) (omega (arith, there)) (left (i - first) (omega (arith, less, there)))
      ];
    }

pub loop-width-preserved : goal.loop-width-preserved
loop-width-preserved c =
    let before = (goal.at.loop-width-preserved c).In-loop-width in
    let two = sides before in
    let ws = c.args.winners.now in
    let place = c.loop-width.place in
    let inv = c.loop-width.invariant in
    let near = right_near before in
    let size = c.requires.size in
    let within = inv.within in
    let less = two.less in
    let read = read_at ws (place + place) c.index-winners-place.result (omega arith) c.index-winners-place.is in
    let same : c.index-winners-place.result ≡ c.args.time = search rules in
    record {
      some = let some = inv.some in omega arith;
      below = two.left;
      within = omega arith;
      there = sym read ∙ same;
      earlier = inv.earlier;
    }

pub returns-clause-within : goal.returns-clause-within
returns-clause-within c =
    let inv = c.loop-width.invariant in
    let some = power_some inv.below.0 in
    let wide = inv.below.1 in
    let within = inv.within in
    omega arith

pub returns-clause-there : goal.returns-clause-there
returns-clause-there c =
    let inv = c.loop-width.invariant in
    let single = one_wide c.loop-width.place c.loop-width.width (c.args.row + c.loop-width.first) inv.below (let narrow = c.loop-width-test.false in omega arith) in
    ap (at c.args.winners.now) single ∙ inv.there
