use Rattle.std.proofs.Common.{◌∙◌, ap}
use Rattle.serde_json.specs.View.{view}
use Rattle.tw_file_network.specs.Shape.{input_of}
use Rattle.tw_file_network.specs.Draft.{input_view}
use Rattle.tw_file_network.proofs.Loops.{read_more_as}
use Rattle.tw_file_network.proofs.shape.inputs_of.Goals as goal

pub loop-value-preserved : goal.loop-value-preserved
loop-value-preserved c =
    rw c.in_ok-push.ensures.items (c.loop-value.invariant
    ∙ read_more_as input_of input_view c.args.values.now c.loop-value.inputs.items c.loop-value.value-index c.value-item.result
    c.in-Some.input c.loop-value-test.true (c.in-Some.ensures ∙ ap (λ v. input_of (view v)) c.value-item.is))
