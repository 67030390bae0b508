use Rattle.std.proofs.Common.{◌≡◌, ◌+◌, length, ap, sym, subst, ◌∙◌, arith, List, [], ℕ}
use Rattle.tw_process.specs.Process.{with_cut}
use Rattle.tw_theory.specs.Contents.{steps_from}
use Rattle.std.proofs.lemmas.Map.Keys.{ge_from_not_lt}
use Rattle.tw_vtime.proofs.Comparing.{lt_from_is_lt}
use Rattle.tw_rollback.proofs.Cutting.{OneBack, one_back, cut_done, before_later, no_history}
use Rattle.tw_process.specs.Process.{Held}
use Rattle.tw_theory.specs.LocalRun.{Step}
use Rattle.tw_theory.specs.Soundness.{AllBefore}
use Rattle.tw_rollback.proofs.rollback.back_to.Given.{Over}
use Rattle.tw_rollback.proofs.rollback.back_to.Goals.{After-undo_last, After-history_len, in-Some+then-lt, in_default}
use Rattle.tw_rollback.proofs.rollback.back_to.Goals as goal

back : (g : Over) (c : After-undo_last g) → OneBack c.args.stamp c.loop-last.process.process
back g c = one_back c.args.stamp c.in-Some.last c.loop-last.process.process (sym c.in-Some.ensures.value) (ge_from_not_lt c.in-Some.last c.args.stamp (sym c.lt.ensures ∙ c.if-lt.false))

pub loop-last-preserved : goal.loop-last-preserved
loop-last-preserved g c =
    let q = c.loop-last.process in
    let s = c.args.stamp in
    let ob = back g (goal.at.loop-last-preserved g c).After-undo_last in
    let undone = c.undo_last.ensures.undone in
    record {
      same = ap (with_cut s) undone ∙ ap (λ x. record q { process = x }) ob.same ∙ c.loop-last.invariant.same;
      before_is = c.loop-last.invariant.before_is;
      left = omega (arith, ap (λ x. length x.process.history) undone, ap (λ x. steps_from s x.process) undone, ob.shorter, ob.fewer, c.loop-last.invariant.left);
      shorter = omega (arith, ap (λ x. length x.process.history) undone, ob.shorter, c.loop-last.invariant.shorter);
    }

pub loop-last-smaller : goal.loop-last-smaller
loop-last-smaller g c =
    let ob = back g (goal.at.loop-last-smaller g c).After-undo_last in
    omega (arith, ap (λ x. length x.process.history) c.undo_last.ensures.undone, ob.shorter)

done : {M S : Type 0} (s : ℕ) (q p : Held M S) → with_cut s q ≡ with_cut s p → AllBefore s q.process.history → q ≡ with_cut s p
done s q p same h = sym (ap (λ x. record q { process = x }) (cut_done s q.process h).0) ∙ same

none_before : {S : Type 0} (s : ℕ) (steps : List (Step S)) → steps ≡ [] → AllBefore s steps
none_before s steps is = subst (λ l. AllBefore s l) (sym is) tt

before : (g : Over) (c : After-history_len g) → AllBefore c.args.stamp c.loop-last.process.process.history
before g c =
    elim c.match-last_stamp.branch [
      | in-Some+then-lt w ↦ before_later (w.in-Some.last + 1) c.args.stamp c.loop-last.process.process.history (let less = lt_from_is_lt w.in-Some.last c.args.stamp (sym w.lt.ensures ∙ w.if-lt.true) in omega (arith, less)) w.in-Some.ensures.latest
      | in_default w ↦ none_before c.args.stamp c.loop-last.process.process.history (no_history c.loop-last.process.process.history (sym w.in_default.ensures.value))
    ]

pub returns-clause-cut : goal.returns-clause-cut
returns-clause-cut g c = done c.args.stamp c.loop-last.process c.args.process.now c.loop-last.invariant.same (before g c)

pub returns-clause-count : goal.returns-clause-count
returns-clause-count g c =
    let none = (cut_done c.args.stamp c.loop-last.process.process (before g c)).1 in
    omega (arith, none, c.loop-last.invariant.left, c.history_len.ensures, c.loop-last.invariant.before_is, c.loop-last.invariant.shorter)
