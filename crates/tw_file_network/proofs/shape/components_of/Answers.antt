use Rattle.std.proofs.Common.{◌∙◌, [], ap, sym}
use Rattle.serde_json.specs.View.{view}
use Rattle.tw_file_network.specs.Shape.{component_of}
use Rattle.tw_file_network.specs.Draft.{component_view}
use Rattle.tw_file_network.proofs.Loops.{read_more_as}
use Rattle.tw_file_network.proofs.shape.components_of.Goals as goal

pub loop-value-preserved : goal.loop-value-preserved
loop-value-preserved c =
    rw c.in_ok-push.ensures.items (c.loop-value.invariant
    ∙ read_more_as (component_of []) component_view c.args.values.now c.loop-value.components.items c.loop-value.value-index c.value-item.result
    c.in_ok-component_of.field-0 c.loop-value-test.true (sym c.in_ok-component_of.ensures.ok ∙ ap (λ v. component_of [] (view v)) c.value-item.is))
