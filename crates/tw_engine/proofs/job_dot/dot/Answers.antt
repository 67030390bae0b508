use Rattle.std.proofs.Common.{ap, inr, subst, sym}
use Rattle.std.specs.Prelude.{Err}
use Rattle.tw_engine.proofs.Drawn.{not_graphed}
use Rattle.tw_engine.specs.Drawings.{IsGraphedOf}
use Rattle.tw_engine.proofs.job_dot.dot.Goals as goal

pub returns-in-Ok : goal.returns-in-Ok
returns-in-Ok g c = inr (c.in_ok-file.file.network, c.in_ok-file.ensures.network, tt)

pub returns : goal.returns
returns g c =
    let old = g.W.Write.contents c.args.out.now in
    let new = g.W.Write.contents c.write_dot.new.out in
    inr (
      c.in_ok-file.file.network,
      c.in_ok-file.ensures.network,
      subst (λ w. IsGraphedOf (Err w) old new) (sym c.from.ensures) (not_graphed c.in-Err.why old new (λ memory. ap g.W.Write.contents (c.in-Err.ensures.unwritten memory))),
    )
