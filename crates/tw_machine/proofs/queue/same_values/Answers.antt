use Rattle.std.proofs.Common.{◌≡◌, true, rules}
use Rattle.std.specs.Bool.{Decides}
use Rattle.std.proofs.lemmas.Slice.Eq.{slice_eq-Decides}
use Rattle.std.proofs.lemmas.Bool.Decides.{Decides-int_eq}
use Rattle.tw_machine.proofs.queue.same_values.Goals as goal

pub returns : goal.returns
returns c =
    let same : Decides c.eq.result (c.args.one.now ≡ c.args.other.now) = slice_eq-Decides Decides-int_eq _ _ _ c.eq.ensures in
    (λ yes. same.0 (search rules), λ e. let yes : c.eq.result ≡ true = same.1 e in search rules)
