use Rattle.std.proofs.Common.{◌∙◌, ap}
use Rattle.tw_file_network.specs.Draft.{components_view, couplings_view, inputs_view, draft_view}
use Rattle.tw_file_network.specs.Numbering.{numbering}
use Rattle.tw_file_network.specs.Numbers.{number_of}
use Rattle.std.proofs.Common.{map}
use Rattle.tw_file_network.proofs.Networks.{network_known}
use Rattle.tw_file_network.proofs.file.network_of.Goals as goal

pub returns : goal.returns
returns c =
    let known = network_known (draft_view c.args.draft.now) (components_view c.as_slice-drafts.result.now) (couplings_view c.as_slice-2.result.now) (inputs_view c.as_slice-3.result.now)
    (numbering c.in_ok-numbers.numbers) _ _ _
    (ap components_view c.as_slice-drafts.ensures.value) (ap couplings_view c.as_slice-2.ensures.value) (ap inputs_view c.as_slice-3.ensures.value)
    c.in_ok-components.ensures.ok (c.in_ok-numbers.ensures ∙ ap (λ names. number_of (map (λ n. n.now) names)) c.as_slice.ensures.value ∙ ap number_of c.in_ok-names.ensures) c.in_ok-couplings.ensures c.in_ok-inputs.ensures in
    record { ok = rw known c.network_made.ensures.ok; err = rw known c.network_made.ensures.err }
