use Rattle.std.proofs.Common.{ap, sym, subst, ◌∙◌}
use Rattle.std.specs.Prelude.{slice_get}
use Rattle.tw_network.specs.Contents.{network_of}
use Rattle.tw_theory.specs.Bundles.{addressed}
use Rattle.tw_process.specs.History.{IsKeptBy}
use Rattle.tw_process.proofs.Starts.{start_kept}
use Rattle.tw_process.proofs.process.Process.with_cancel.Goals as goal

pub invariant_of-result-2 : goal.invariant_of-result-2
invariant_of-result-2 g c =
    let model = c.model.result.now in
    let now = c.in_ok-moment.moment in
    record {
      model = model;
      there = ap (λ n. slice_get n.models c.args.component) (sym c.deref-shared.ensures) ∙ c.model.ensures;
      by = subst (λ h. IsKeptBy (g.M.Atomic.valid model) (g.M.Atomic.meaning model) (g.M.Atomic.undone model) c.args.component now 0 h c.in_ok-lists.lists) (sym c.new.ensures.items)
          (start_kept (g.M.Atomic.valid model) (g.M.Atomic.meaning model) (g.M.Atomic.undone model) c.args.component now c.in_ok-lists.lists (addressed c.args.component (network_of g.M.Atomic.meaning c.deref-shared.result.now).inputs)
          c.in_ok-lists.ensures.pending c.in_ok-lists.ensures.fit c.in_ok-lists.ensures.consumed c.in_ok-lists.ensures.sent c.in_ok-moment.ensures.standing);
    }
