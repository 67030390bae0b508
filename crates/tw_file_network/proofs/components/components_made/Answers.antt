use Rattle.std.proofs.Common.{◌∙◌, ap, sym}
use Rattle.std.proofs.lemmas.List.{map-append}
use Rattle.std.specs.Prelude.{string_bytes}
use Rattle.tw_network.specs.Contents.{named}
use Rattle.tw_file_network.specs.Components.{component_made}
use Rattle.tw_file_network.specs.Draft.{component_view}
use Rattle.tw_file_network.proofs.Making.{made_more}
use Rattle.tw_file_network.proofs.components.components_made.Goals as goal

pub loop-draft-preserved : goal.loop-draft-preserved
loop-draft-preserved c =
    rw (c.in_ok-push.ensures.items, map-append) (c.loop-draft.invariant
    ∙ made_more component_made component_view c.args.drafts.now (named c.loop-draft.components.items) c.loop-draft.draft-index _
    (string_bytes c.in_ok-component_made.field-0.0, c.in_ok-component_made.field-0.1) c.loop-draft-test.true
    (ap (λ d. component_made (component_view d)) (sym c.draft-item.is) ∙ c.in_ok-component_made.ensures.ok))
