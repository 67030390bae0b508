use Rattle.std.proofs.Common.{◌≡◌}
use Rattle.tw_network.specs.Contents.{named}
use Rattle.tw_file_network.specs.Components.{component_made, components_made}
use Rattle.tw_file_network.specs.Draft.{component_view, components_view}
use Rattle.tw_file_network.proofs.Making.{rest_made}
use Rattle.tw_file_network.proofs.components.components_made.Given as goal

abbrev pub invariant-loop-draft : goal.invariant-loop-draft
invariant-loop-draft l =
    components_made (components_view l.drafts)
    ≡ rest_made component_made component_view l.drafts (named l.components.items) l.draft-index
