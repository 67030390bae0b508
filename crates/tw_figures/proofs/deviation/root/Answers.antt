use Rattle.std.proofs.Common.{◌+◌, ◌/◌, subst, sym}
use Rattle.tw_figures.specs.Deviations.{IsRoot}
use Rattle.tw_figures.proofs.Roots.{root_is}
use Rattle.tw_figures.proofs.deviation.root.Goals as goal

pub returns : goal.returns
returns c =
    let r = c.isqrt-root.result in
    subst (λ n. IsRoot c.args.spread c.args.count ((r / n + 1) / 2)) (sym c.from.ensures)
    (root_is c.args.spread c.args.count r c.requires.some c.isqrt-root.ensures.square_le c.isqrt-root.ensures.next_square_gt)
