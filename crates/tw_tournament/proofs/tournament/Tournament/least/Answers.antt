use Rattle.std.proofs.Common.{◌≡◌, ◌⊎◌, ◌≤◌, ℕ, Some, slice_get, length, get_or, take, drop, sym, ap, subst, ◌∙◌, arith}
use Rattle.tw_tournament.specs.Times.{Times}
use Rattle.tw_tournament.proofs.Gathered.{read_at}
use Rattle.tw_tournament.proofs.Times.{has_top, top_first, top_there}
use Rattle.tw_tournament.proofs.tournament.Tournament.least.Goals as goal
use Rattle.tw_vtime.specs.Stamps.{never}

pub bounds-winners-1 : goal.bounds-winners-1
bounds-winners-1 c =
    let size = ap length c.as_slice-winners.ensures.value in
    let top = has_top c.self.inside.winners.items c.self.inside.row c.self.inside.count c.self.invariant in
    omega arith

pub returns-clause-first : goal.returns-clause-first
returns-clause-first c =
    let ws = c.self.inside.winners.items in
    let top = has_top ws c.self.inside.row c.self.inside.count c.self.invariant in
    let read = read_at ws 1 c.index-winners-1.result top (c.index-winners-1.is ∙ ap (λ l. get_or l 1 c.index-winners-1.result) c.as_slice-winners.ensures.value) in
    subst (λ (v : Times). (d s : ℕ) → slice_get v.times d ≡ Some s → c.index-winners-1.result ≤ s) c.self.view_is
    (λ d s is. let first = top_first ws c.self.inside.row c.self.inside.count c.self.invariant d s is in omega (arith, read))

pub returns-clause-there : goal.returns-clause-there
returns-clause-there c =
    let ws = c.self.inside.winners.items in
    let top = has_top ws c.self.inside.row c.self.inside.count c.self.invariant in
    let read = read_at ws 1 c.index-winners-1.result top (c.index-winners-1.is ∙ ap (λ l. get_or l 1 c.index-winners-1.result) c.as_slice-winners.ensures.value) in
    subst (λ (v : Times). (c.index-winners-1.result ≡ never) ⊎ ((d : ℕ) × (slice_get v.times d ≡ Some c.index-winners-1.result))) c.self.view_is
    (subst (λ x. (x ≡ never) ⊎ ((d : ℕ) × (slice_get (take c.self.inside.count (drop c.self.inside.row ws)) d ≡ Some x))) (sym read)
    (top_there ws c.self.inside.row c.self.inside.count c.self.invariant))
