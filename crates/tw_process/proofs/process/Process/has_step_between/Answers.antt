use Rattle.std.proofs.Common.{◌≡◌, suc, ◌-◌, ◌<◌, ◌≤◌, Some, length, map, drop, ap, sym, subst, ◌∙◌, arith, rules}
use Rattle.std.specs.Option.{option_map}
use Rattle.std.specs.Prelude.{slice_get}
use Rattle.std.proofs.lemmas.List.{drop_all}
use Rattle.std.proofs.lemmas.Option.{slice_get-map, slice_get_read}
use Rattle.tw_process.proofs.Between.{Rises, found, length_records, none_earlier, passed, records_shown, stood_rises}
use Rattle.tw_process.proofs.Histories.{length_shown}
use Rattle.tw_theory.specs.Contents.{records_of}
use Rattle.tw_theory.specs.Marks.{any_between}
use Rattle.tw_process.proofs.process.Process.has_step_between.Given.{Over}
use Rattle.tw_process.proofs.process.Process.has_step_between.Goals.{After-index, After-len-left}
use Rattle.tw_process.proofs.process.Process.has_step_between.Goals as goal

-- as many steps as entries
many : (g : Over) (c : After-len-left g) → length c.args.self.now.process.history ≡ length c.self.inside.history.items
many g c = ap (λ p. length p.process.history) (sym c.self.view_is) ∙ length_shown c.self.inside.history.items c.self.inside.lists.consumed c.self.inside.lists.sent

-- their records
records : (g : Over) (c : After-len-left g) → records_of c.args.self.now.process.history ≡ map (λ e. e.step.done) c.self.inside.history.items
records g c = ap (λ p. records_of p.process.history) (sym c.self.view_is) ∙ records_shown c.self.inside.history.items c.self.inside.lists.consumed c.self.inside.lists.sent

rises : (g : Over) (c : After-len-left g) → Rises c.self.inside.floor (records_of c.args.self.now.process.history)
rises g c =
    subst (λ p. Rises c.self.inside.floor (records_of p.process.history)) c.self.view_is
    (stood_rises (g.M.Atomic.valid c.self.invariant.model) (g.M.Atomic.meaning c.self.invariant.model) c.self.inside.floor _ c.self.invariant.by.stood)

-- the record that is looked at
at : (g : Over) (c : After-index g) → length c.args.self.now.process.history ≡ length c.self.inside.history.items → records_of c.args.self.now.process.history ≡ map (λ e. e.step.done) c.self.inside.history.items
    → slice_get (records_of c.args.self.now.process.history) (c.loop-left.left - 1) ≡ Some c.index.result.now.step.done
at g c as_many records_are =
    let entries = c.self.inside.history in
    let entry = slice_get_read entries.items _ (c.loop-left.left - 1) c.index.result.now entries.ok.0 (omega (arith, c.loop-left-test.true, c.loop-left.invariant.within, as_many, entries.ok.0)) c.index.ensures in
    ap (λ l. slice_get l (c.loop-left.left - 1)) records_are
    ∙ slice_get-map (λ e. e.step.done) entries.items (c.loop-left.left - 1)
    ∙ ap (option_map (λ e. e.step.done)) entry

pub loop-left-init : goal.loop-left-init
loop-left-init g c =
    let long : length (records_of c.args.self.now.process.history) ≤ c.len-left.result = omega (arith, length_records c.args.self.now.process.history, many g c, c.len-left.ensures, c.self.inside.history.ok.0) in
    record {
      within = omega (arith, c.len-left.ensures, c.self.inside.history.ok.0, many g c);
      none = ap (any_between c.args.from c.args.before) (drop_all c.len-left.result (records_of c.args.self.now.process.history) long);
    }

pub index-requires : goal.index-requires
index-requires g c = omega (arith, c.loop-left-test.true, c.loop-left.invariant.within, many g (goal.at.index-requires g c).After-len-left, c.self.inside.history.ok.0)

pub returns-then-lt : goal.returns-then-lt
returns-then-lt g c =
    let early : c.index.result.now.step.done.stamp < c.args.from = search rules in
    let place : suc (c.loop-left.left - 1) ≡ c.loop-left.left = omega (arith, c.loop-left-test.true) in
    let rs = records_of c.args.self.now.process.history in
    sym (none_earlier c.args.from c.args.before c.self.inside.floor (c.loop-left.left - 1) rs c.index.result.now.step.done (rises g (goal.at.returns-then-lt g c).After-len-left) (at g (goal.at.returns-then-lt g c).After-index (many g (goal.at.returns-then-lt g c).After-len-left) (records g (goal.at.returns-then-lt g c).After-len-left)) early
    (ap (λ k. any_between c.args.from c.args.before (drop k rs)) place ∙ c.loop-left.invariant.none))

pub returns-then-lt-2 : goal.returns-then-lt-2
returns-then-lt-2 g c =
    let late : c.args.from ≤ c.index.result.now.step.done.stamp = search rules in
    let early : c.index.result.now.step.done.stamp < c.args.before = search rules in
    sym (found c.args.from c.args.before (c.loop-left.left - 1) (records_of c.args.self.now.process.history) c.index.result.now.step.done (at g (goal.at.returns-then-lt-2 g c).After-index (many g (goal.at.returns-then-lt-2 g c).After-len-left) (records g (goal.at.returns-then-lt-2 g c).After-len-left)) late early)

pub loop-left-preserved : goal.loop-left-preserved
loop-left-preserved g c =
    let late : c.args.from ≤ c.index.result.now.step.done.stamp = search rules in
    let past : c.args.before ≤ c.index.result.now.step.done.stamp = search rules in
    let place : suc (c.loop-left.left - 1) ≡ c.loop-left.left = omega (arith, c.loop-left-test.true) in
    let rs = records_of c.args.self.now.process.history in
    record {
      within = omega (arith, c.loop-left.invariant.within);
      none = passed c.args.from c.args.before (c.loop-left.left - 1) rs c.index.result.now.step.done (at g (goal.at.loop-left-preserved g c).After-index (many g (goal.at.loop-left-preserved g c).After-len-left) (records g (goal.at.loop-left-preserved g c).After-len-left)) late past
          (ap (λ k. any_between c.args.from c.args.before (drop k rs)) place ∙ c.loop-left.invariant.none);
    }
