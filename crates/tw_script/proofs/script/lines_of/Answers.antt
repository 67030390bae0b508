use Rattle.std.proofs.Common.{ap, sym, length, take, ◌∙◌, ◌-◌}
use Rattle.tw_script.proofs.Reading.{lines_by, shown}
use Rattle.tw_script.specs.Scripts.{ends_in_nothing}
use Rattle.tw_script.proofs.script.lines_of.Goals as goal
use Rattle.tw_script.proofs.script.lines_of.Goals.{then-ends_in_nothing, else-ends_in_nothing}

pub returns : goal.returns
returns c =
    let is = lines_by c.in_ok-lines.lines.items c.args.bytes.now c.in_ok-lines.ensures in
    let seen = ap (λ ps. ends_in_nothing (shown ps)) c.as_slice.ensures.value in
    let count = sym c.as_slice.ensures.len ∙ ap length c.as_slice.ensures.value in
    elim c.if-ends_in_nothing.branch [
      | then-ends_in_nothing w ↦ ap (λ v. shown v.items) w.lines-is ∙ ap shown w.pop.ensures.rest ∙ ap (λ n. shown (take (n - 1) c.in_ok-lines.lines.items)) count ∙ is.0 (sym seen ∙ sym w.if-ends_in_nothing.ensures)
      | else-ends_in_nothing w ↦ ap (λ v. shown v.items) w.lines-is ∙ is.1 (sym seen ∙ sym w.if-ends_in_nothing.ensures)
    ]
