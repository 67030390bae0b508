use Rattle.std.proofs.Common.{◌+◌, ◌≤◌, ap, arith, rules}
use Rattle.slab.specs.Slab.{slab_len}
use Rattle.tw_pool.proofs.LinkChanges.{grown_pool}
use Rattle.tw_pool.proofs.lists.Pool.reserve.Goals as goal
use Rattle.tw_pool.proofs.lists.Pool.reserve.Goals.{in-Ok, in-Err}

pub invariant_of-self : goal.invariant_of-self
invariant_of-self g c = grown_pool _ _ _ c.reserve.ensures.rest_kept c.self.invariant

pub returns-clause-succeeds : goal.returns-clause-succeeds
returns-clause-succeeds g c = λ fits.
    let room = ap (λ p. p.room) c.self.view_is in
    let has : slab_len c.self.inside.nodes + c.args.n ≤ c.self.inside.nodes.capacity = omega arith in
    let ok = c.reserve.ensures.succeeds has in
    elim c.match-reserve.branch [ in-Ok w ↦ search rules | in-Err w ↦ let no = w.in-Err.ensures.succeeds has in absurd (cc) ]
