use Rattle.std.proofs.Common.{◌≡◌, ◌≤◌, ◌+◌, ℕ, Some, slice_get, take, drop, sym, ap, subst, ◌∙◌, arith, rules}
use Rattle.tw_tournament.specs.Times.{Times, numbers_at}
use Rattle.tw_tournament.specs.Winners.{at}
use Rattle.tw_tournament.proofs.Times.{none_before, all_numbers}
use Rattle.tw_tournament.proofs.Winning.{leftmost_one}
use Rattle.tw_tournament.proofs.tournament.Tournament.collect.Goals as goal

pub gather-requires-clause-below : goal.gather-requires-clause-below
gather-requires-clause-below c =
    let k = c.self.invariant.length_is_power.0 in
    let is = c.self.invariant.length_is_power.1 in
    let one = leftmost_one k in
    (k, is, omega arith)

pub gather-requires-clause-least : goal.gather-requires-clause-least
gather-requires-clause-least c =
    let ws = c.self.inside.winners.items in
    let first = subst (λ (v : Times). (d s : ℕ) → slice_get v.times d ≡ Some s → c.args.time ≤ s) (sym c.self.view_is) c.requires.first in
    λ p some within. subst (λ l. c.args.time ≤ at l p) (sym c.as_slice.ensures.value)
    (none_before ws c.self.inside.row c.self.inside.count c.self.invariant c.args.time first c.requires.before_end p some within)

pub returns : goal.returns
returns c =
    let ws = c.self.inside.winners.items in
    let t = c.args.time in
    let all : numbers_at t 0 (take c.self.inside.row (drop (c.self.inside.row + 0) c.as_slice.result.now)) ≡ numbers_at t 0 c.args.self.now.times =
    ap (λ l. numbers_at t 0 (take c.self.inside.row (drop (c.self.inside.row + 0) l))) c.as_slice.ensures.value
    ∙ all_numbers ws c.self.inside.row c.self.inside.count c.self.invariant t c.requires.before_end
    ∙ ap (λ (v : Times). numbers_at t 0 v.times) c.self.view_is in
    search (rules, c.gather.ensures, all)
