use Rattle.std.proofs.Common.{◌≡◌, ◌+◌, ◌<◌, Result, Ok, Err, ap, subst, sym, ◌∙◌, length}
use Rattle.std.proofs.lemmas.Result.{err_from_is_err_and}
use Rattle.tw_pool.specs.Lists.{list_at, live_count}
use Rattle.tw_pool.specs.declared.lists.TheConstants.{LIVE_LIMIT}
use Rattle.tw_pool.specs.declared.refused.PoolRefused.{PoolRefused}
use Rattle.tw_pool.specs.declared.refused.PoolRefused.TheVariants.{Full, OutOfMemory}
use Rattle.tw_lists.specs.Falling.{FallIf}
use Rattle.tw_lists.specs.Finders.{AreFound}
use Rattle.tw_lists.specs.Lists.{node_count}
use Rattle.tw_lists.specs.Nodes.{IsKept, spare_of}
use Rattle.tw_lists.proofs.Comings.{roomy_kept}
use Rattle.tw_lists.proofs.Counts.{count_is}
use Rattle.tw_lists.proofs.lists.EventLists.reserve_pending.Goals.{After-reserve, in-Ok, in-Err}
use Rattle.tw_lists.proofs.lists.EventLists.reserve_pending.Goals as goal

pub invariant_of-self-2 : goal.invariant_of-self-2
invariant_of-self-2 c = (
  subst (λ ls. IsKept ls c.reserve-2.new.self) (sym c.reserve.ensures.lists) (roomy_kept c.self.inside.pool.lists c.self.inside.heap c.reserve-2.new.self c.self.invariant.0 c.reserve-2.ensures.entries c.reserve-2.ensures.room_grows c.reserve-2.ensures.top_grows),
  subst (AreFound c.self.inside.waiting c.self.inside.owed) (sym c.reserve.ensures.lists) c.self.invariant.1,
  subst (λ ls. FallIf c.self.inside.falling (list_at ls 5)) (sym c.reserve.ensures.lists) c.self.invariant.2,
)

-- the pool counts the same messages
count : (c : After-reserve) → live_count c.self.inside.pool.lists ≡ node_count c.args.self.now
count c =
    let f = c.self.inside in
    sym (count_is f.pool.lists f.pool.room (spare_of f.pool.top f.heap (length (list_at f.pool.lists 1))) f.heap.entries c.lists_law.ensures.count c.self.invariant.0.count) ∙ ap node_count c.self.view_is

-- what is taken, or refused for want of memory, is not full
taken : {r : Result (Unit {0}) PoolRefused} → r ≡ Ok tt → r ≡ Err Full → ⊥
taken is full = cc

refused : {r : Result (Unit {0}) PoolRefused} → r ≡ Err OutOfMemory → r ≡ Err Full → ⊥
refused is full = cc

pub returns-clause-limit : goal.returns-clause-limit
returns-clause-limit c = (
  λ over. absurd (taken c.in_ok-reserve.was (c.reserve.ensures.limit.0 (subst (λ n. LIVE_LIMIT < n + 1) (sym (count (goal.at.returns-clause-limit c).After-reserve)) over))),
  λ is. absurd (elim c.match-reserve.branch [ in-Ok w ↦ taken w.result-is is | in-Err w ↦ refused w.result-is is ]),
)

pub returns-in_err-reserve-clause-limit : goal.returns-in_err-reserve-clause-limit
returns-in_err-reserve-clause-limit c =
    let p = err_from_is_err_and c.from_residual.result c.from_residual.ensures.1 in
    let same = p.1 ∙ ap Err p.2 ∙ sym c.in_err-reserve.was in
    let n = sym (count (goal.at.returns-in_err-reserve-clause-limit c).After-reserve) in (
      λ over. same ∙ c.reserve.ensures.limit.0 (subst (λ n. LIVE_LIMIT < n + 1) n over),
      λ is. subst (λ n. LIVE_LIMIT < n + 1) (sym n) (c.reserve.ensures.limit.1 (sym same ∙ is)),
    )
