use Rattle.std.proofs.Common.{ℕ, List, subst}
use Rattle.std.specs.Io.KnownBytes.{Appends}
use Rattle.tw_engine.proofs.job_table.write_held.Goals as goal

pub returns : goal.returns
returns g c =
    let old = g.W.Write.contents c.args.out.now in
    let new = g.W.Write.contents c.write_out.new.out in
    (c.in_ok-line.ensures, subst (λ (l : List ℕ). Appends old new l) c.requires c.in_ok-write_out.ensures.ok)
