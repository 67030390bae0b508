use Rattle.std.proofs.Common.{ℕ, List}
use Rattle.std.proofs.lemmas.List.{at_drop_all}
use Rattle.tw_machine_text.proofs.Columns.{column_along, column}
use Rattle.tw_machine_text.proofs.place.column_behind.Goals as goal

pub returns : goal.returns
returns c =
    let before : List ℕ = c.args.before.now in
    cc (column before, c.loop-c.invariant.rest, at_drop_all (column_along c.loop-c.column) before c.loop-c.c-index c.loop-c-test.false)
