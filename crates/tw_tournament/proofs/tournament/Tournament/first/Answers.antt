use Rattle.std.proofs.Common.{◌≡◌, ◌≤◌, ◌<◌, ◌+◌, ℕ, Some, slice_get, length, get_or, sym, ap, subst, ◌∙◌, arith, rules}
use Rattle.tw_tournament.specs.Times.{IsFirst, Times}
use Rattle.tw_tournament.specs.Winners.{at}
use Rattle.tw_tournament.proofs.Gathered.{read_at}
use Rattle.tw_tournament.proofs.Times.{has_top, is_first, top_first}
use Rattle.tw_tournament.proofs.tournament.Tournament.first.Goals as goal
use Rattle.tw_vtime.specs.Stamps.{never}

pub bounds-winners-1 : goal.bounds-winners-1
bounds-winners-1 c =
    let size = ap length c.as_slice-winners.ensures.value in
    let top = has_top c.self.inside.winners.items c.self.inside.row c.self.inside.count c.self.invariant in
    omega arith

pub returns-then-ge-clause-none : goal.returns-then-ge-clause-none
returns-then-ge-clause-none c =
    let ws = c.self.inside.winners.items in
    let top = has_top ws c.self.inside.row c.self.inside.count c.self.invariant in
    let read = read_at ws 1 c.index-winners-1.result top (c.index-winners-1.is ∙ ap (λ l. get_or l 1 c.index-winners-1.result) c.as_slice-winners.ensures.value) in
    let end : never ≤ c.index-winners-1.result = search rules in
    λ _. subst (λ (v : Times). (d s : ℕ) → slice_get v.times d ≡ Some s → never ≤ s) c.self.view_is
    (λ d s is. let first = top_first ws c.self.inside.row c.self.inside.count c.self.invariant d s is in omega (arith, read, end))

pub first_at-requires-clause-time : goal.first_at-requires-clause-time
first_at-requires-clause-time c =
    let top = has_top c.self.inside.winners.items c.self.inside.row c.self.inside.count c.self.invariant in
    sym (read_at c.as_slice-winners.result.now 1 c.index-winners-1.result (let size = ap length c.as_slice-winners.ensures.value in omega arith) c.index-winners-1.is)

pub returns-clause-first : goal.returns-clause-first
returns-clause-first c =
    let ws = c.self.inside.winners.items in
    let row = c.self.inside.row in
    let top = has_top ws row c.self.inside.count c.self.invariant in
    let read = read_at ws 1 c.index-winners-1.result top (c.index-winners-1.is ∙ ap (λ l. get_or l 1 c.index-winners-1.result) c.as_slice-winners.ensures.value) in
    let before : c.index-winners-1.result < never = search rules in
    let value = c.as_slice-winners.ensures.value in
    subst (λ (v : Times). IsFirst v.times c.index-winners-1.result c.first_at.result) c.self.view_is
    (is_first ws row c.self.inside.count c.self.invariant c.index-winners-1.result c.first_at.result (sym read) before c.first_at.ensures.within
    (subst (λ l. at l (row + c.first_at.result) ≡ c.index-winners-1.result) value c.first_at.ensures.there)
    (subst (λ l. (i : ℕ) → i < c.first_at.result → c.index-winners-1.result < at l (row + i)) value c.first_at.ensures.earlier))
