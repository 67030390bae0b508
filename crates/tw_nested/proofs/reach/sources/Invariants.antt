use Rattle.std.proofs.Common.{◌≡◌, ◌<◌, ℕ, length, slice_index_or, true, false}
use Rattle.tw_nested.specs.Reach.{Edge}
use Rattle.tw_nested.proofs.reach.sources.Given as goal

abbrev pub invariant-loop-from : goal.invariant-loop-from
invariant-loop-from l = (length l.leads.items ≡ l.count) × ((j : ℕ) (d : Edge) → j < l.from-index → slice_index_or l.leads.items (slice_index_or l.edges j d).0 false ≡ true)
