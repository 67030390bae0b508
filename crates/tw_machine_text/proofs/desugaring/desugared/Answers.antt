use Rattle.std.proofs.Common.{map, ap, sym, ◌∙◌, arith}
use Rattle.tw_machine_text.specs.Desugared.{expanded, limited}
use Rattle.tw_machine_text.specs.Timers.{timed}
use Rattle.tw_machine_text.specs.Tree.{Block}
use Rattle.tw_machine_text.specs.Views.{body}
use Rattle.tw_machine_text.proofs.Expanded.{too_many}
use Rattle.tw_machine_text.proofs.desugaring.desugared.Goals as goal

pub returns-then-nodes_of-many : goal.returns-then-nodes_of-many
returns-then-nodes_of-many c =
    let ps = map body c.args.procedures.now in
    ap (λ (p : Block). limited 64 c.args.many (expanded c.args.names.kinds.now ps p)) (sym (c.in_ok-parts.ensures ∙ ap (timed c.args.names.timing c.args.names.kinds.now) c.in_ok-behind.ensures))
    ∙ too_many 64 c.args.many c.args.names.kinds.now ps (body c.in_ok-parts.parts) (omega (arith, c.if-nodes_of-many.true, c.nodes_of.ensures.value))
