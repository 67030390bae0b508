use Rattle.std.proofs.Common.{◌≡◌, ◌<◌, suc, ◌+◌, ◌||◌, length, map, take, refl, ap, sym, ◌∙◌, arith}
use Rattle.std.proofs.lemmas.Option.{slice_get_read}
use Rattle.tw_exec.proofs.Marks.{any_more}
use Rattle.std.specs.List.{AllByRecursion as Each}
use Rattle.std.proofs.lemmas.List.{take_all}
use Rattle.tw_fossils.specs.Columns.{IsRising}
use Rattle.tw_theory.proofs.Elements.{each-get}
use Rattle.tw_theory.specs.Marks.{any_committed}
use Rattle.tw_exec.proofs.marking.any_committed.Given.{Over}
use Rattle.tw_exec.proofs.marking.any_committed.Goals as goal

pub loop-c-preserved : goal.loop-c-preserved
loop-c-preserved g c =
    let k = c.loop-c.c in
    let ss = c.args.stamps.now in
    let ps = c.args.processes.now in
    let columns = c.args.columns.now in
    let stamp_at = slice_get_read ss (length ss) k c.index-stamps-c.result refl c.loop-c-test.true c.index-stamps-c.is in
    let process_at = slice_get_read ps (length ps) k c.index-processes-c.result refl (omega (arith, c.loop-c-test.true, c.requires.processes)) c.index-processes-c.is in
    let column_at = slice_get_read columns (length columns) k c.index-columns-c.result refl (omega (arith, c.loop-c-test.true, c.requires.columns)) c.index-columns-c.is in
    let next : suc k ≡ k + 1 = omega arith in
    (λ i. c.loop-c.invariant i || c.is_committed_since-any.ensures i)
    ∙ sym (any_more c.args.gvt k ss ps columns c.index-stamps-c.result c.index-processes-c.result c.index-columns-c.result stamp_at process_at column_at)
    ∙ ap (λ n. any_committed c.args.gvt (take n ss) (map (λ p. p.process) (take n ps)) (take n columns)) next

-- the column of the component at hand rises, and ends before global virtual time
here : (g : Over) (c : goal.After-index-stamps-c g) → IsRising c.index-columns-c.result × Each (λ r. r.stamp < c.args.gvt) c.index-columns-c.result
here g c =
    let columns = c.args.columns.now in
    let at = slice_get_read columns (length columns) c.loop-c.c c.index-columns-c.result refl (omega (arith, c.loop-c-test.true, c.requires.columns)) c.index-columns-c.is in
    each-get (λ column. IsRising column × Each (λ r. r.stamp < c.args.gvt) column) columns c.loop-c.c c.index-columns-c.result at c.requires.rising

pub is_committed_since-any-requires-clause-rising : goal.is_committed_since-any-requires-clause-rising
is_committed_since-any-requires-clause-rising g c = (here g c).0

pub is_committed_since-any-requires-clause-before : goal.is_committed_since-any-requires-clause-before
is_committed_since-any-requires-clause-before g c = (here g c).1

pub returns : goal.returns
returns g c =
    let k = c.loop-c.c in
    let ss = c.args.stamps.now in
    let ps = c.args.processes.now in
    let columns = c.args.columns.now in
    c.loop-c.invariant
    ∙ (λ i. any_committed c.args.gvt (take_all k ss c.loop-c-test.false i) (map (λ p. p.process) (take_all k ps (omega (arith, c.loop-c-test.false, c.requires.processes)) i)) (take_all k columns (omega (arith, c.loop-c-test.false, c.requires.columns)) i))
