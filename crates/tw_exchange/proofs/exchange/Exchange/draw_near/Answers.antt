use Rattle.std.proofs.Common.{◌≡◌, ◌⊎◌, ◌<◌, ◌≤◌, ℕ, Some, false, sym, ap, ap₂, subst, ◌∙◌, true, arith, rules}
use Rattle.std.proofs.lemmas.Option.{same_Some, slice_get_within}
use Rattle.std.specs.Prelude.{slice_get, slice_set}
use Rattle.tw_exec.specs.Chains.{start_at}
use Rattle.tw_theory.specs.Contents as Contents
use Rattle.tw_theory.specs.Contents.{Process}
use Rattle.tw_theory.specs.Exchange.{MayDraw, bound_of}
use Rattle.tw_exchange.specs.Exchanged.{IsExact, bound_at, busy_in, near_bound}
use Rattle.tw_exchange.proofs.Drawing.{is_there}
use Rattle.tw_exchange.proofs.PassByPass.{process_count}
use Rattle.tw_exchange.proofs.Following.{busy_out, exact_out}
use Rattle.tw_exchange.proofs.exchange.Exchange.draw_near.Given.{Over}
use Rattle.tw_exchange.proofs.exchange.Exchange.draw_near.Goals.{After-take_out}
use Rattle.tw_exchange.proofs.exchange.Exchange.draw_near.Goals as goal

-- the window ends where the bound is
bound_is : (g : Over) (c : After-take_out g) → c.bound_of-bound.result ≡ bound_at c.args.window c.args.self.now
bound_is g c = c.bound_of-bound.ensures ∙ (λ i. bound_of (c.until.ensures i) (c.gvt.ensures i) c.args.window) ∙ ap (bound_at c.args.window) c.self.view_is

-- the component that comes next
here : (g : Over) (c : After-take_out g) → slice_get c.self.inside.executive.world.processes c.in-Some.component ≡ Some c.in-Some.ensures.next.process
here g c = ap (λ x. slice_get x.executive.world.processes c.in-Some.component) c.self.view_is ∙ c.in-Some.ensures.next.at

next_is : (g : Over) (c : After-take_out g) → c.next-next.result ≡ Contents.next c.in-Some.ensures.next.process
next_is g c = c.next-next.ensures ∙ ap Contents.next (same_Some _ _ (sym c.contents.ensures.process ∙ here g c))

-- what the order is for
started : (g : Over) (c : After-take_out g) → c.in-Ok.start ≡ start_at c.near_bound-before.result c.near_burst.result c.in-Some.component c.self.inside.executive.network c.in-Some.ensures.next.process
started g c =
    let e = c.self.inside.executive in
    is_there (λ p. c.in-Ok.start ≡ start_at c.near_bound-before.result c.near_burst.result c.in-Some.component e.network p) (slice_get e.world.processes c.in-Some.component) c.in-Some.ensures.next.process
    (here g c) c.in-Ok.ensures.start

same : (g : Over) (c : After-take_out g) → c.in-Ok.start.component ≡ c.in-Some.component
same g c = ap (λ s. s.component) (started g c)

pub returns-in_default-clause-given : goal.returns-in_default-clause-given
returns-in_default-clause-given g c = record {
  known = search rules;
  ready = search rules;
  limit = search rules;
  busy = search rules;
  none = λ _. c.next_before.ensures.none c.in_default.is;
  none_stays = search rules;
  stays = search rules;
}

pub contents-requires : goal.contents-requires
contents-requires g c =
    let e = c.self.inside.executive in
    let next = c.in-Some.ensures.next in
    omega (
      arith,
      slice_get_within e.world.processes c.in-Some.component next.process (ap (λ x. slice_get x.executive.world.processes c.in-Some.component) c.self.view_is ∙ next.at),
      process_count g.M.Atomic.meaning e c.facts.ensures,
    )

pub take_out-requires : goal.take_out-requires
take_out-requires g c =
    let ps = c.self.inside.executive.world.processes in
    let next = c.in-Some.ensures.next in
    let near = slice_get_within ps c.in-Some.component next.process (ap (λ x. slice_get x.executive.world.processes c.in-Some.component) c.self.view_is ∙ next.at) in
    subst (λ n. c.in-Some.component < n) (sym c.self.invariant.0.free.count) near

pub invariant_of-self : goal.invariant_of-self
invariant_of-self g c =
    let kept = c.self.invariant.0 in
    let ps = c.self.inside.executive.world.processes in (
      record {
        free = subst (λ a. IsExact a ps) (sym c.take_out.ensures) (exact_out c.self.inside.queues.free ps c.in-Some.component kept.free);
        marks = record { posting = kept.marks.posting; delivering = kept.marks.delivering; standing = kept.marks.standing };
      },
      c.self.invariant.1,
    )

pub returns-clause-drawn : goal.returns-clause-drawn
returns-clause-drawn g c =
    let now = c.args.self.now in
    let next = c.in-Some.ensures.next in
    let k = same g c in
    record {
      next = record {
        process = next.process;
        at = ap (slice_get now.executive.world.processes) k ∙ next.at;
        free = ap (slice_get now.busy) k ∙ next.free;
        may = next.may;
        least = subst (λ b. (d : ℕ) (q : Process _) → slice_get now.executive.world.processes d ≡ Some q → slice_get now.busy d ≡ Some false → MayDraw now.executive.until now.executive.world.gvt c.args.window q → (Contents.next next.process < Contents.next q) ⊎ ((Contents.next next.process ≡ Contents.next q) × (b ≤ d))) (sym k) next.least;
      };
      start = started g c
          ∙ (λ i. start_at ((c.near_bound-before.ensures ∙ ap₂ (near_bound c.args.reach) (bound_is g c) (next_is g c)) i) (c.near_burst.ensures i) (sym k i) (c.self.view_is i).executive.network next.process);
    }

pub returns-clause-given : goal.returns-clause-given
returns-clause-given g c =
    let busy = ap busy_in c.take_out.ensures ∙ busy_out c.self.inside.queues.free c.in-Some.component ∙ (λ i. slice_set (c.self.view_is i).busy (sym (same g c) i) true) in
    record {
      known = search rules;
      ready = λ m at.
          c.in-Ok.ensures.ready m (ap (λ x. slice_get x.executive.network.models c.in-Some.component) c.self.view_is ∙ ap (slice_get c.args.self.now.executive.network.models) (sym (same g c)) ∙ at);
      limit = search rules;
      busy = λ i. record { executive = (c.self.view_is i).executive; busy = busy i; publisher = (c.self.view_is i).publisher };
      none = search rules;
      none_stays = search rules;
      stays = search rules;
    }
