-- The drafts of a file as what the file says.
use Rattle.std.specs.Prelude.{List, map}
use Rattle.tw_file_network.specs.Shape.{File, FileComponent, FileCoupling, FileInput}
use Rattle.tw_file_network.specs.declared.draft.ComponentDraft.{ComponentDraft}
use Rattle.tw_file_network.specs.declared.draft.CouplingDraft.{CouplingDraft}
use Rattle.tw_file_network.specs.declared.draft.InputDraft.{InputDraft}
use Rattle.tw_file_network.specs.declared.draft.Draft.{Draft}

abbrev pub component_view : ComponentDraft → FileComponent
component_view c = (c.name.now, c.model)

abbrev pub coupling_view : CouplingDraft → FileCoupling
coupling_view k = (k.source.now, k.source_port, k.destination.now, k.destination_port)

abbrev pub input_view : InputDraft → FileInput
input_view i = (i.tick, i.to.now, i.port, i.value)

abbrev pub components_view : List ComponentDraft → List FileComponent
components_view components = map component_view components

abbrev pub couplings_view : List CouplingDraft → List FileCoupling
couplings_view couplings = map coupling_view couplings

abbrev pub inputs_view : List InputDraft → List FileInput
inputs_view inputs = map input_view inputs

abbrev pub draft_view : Draft → File
draft_view d = record {
  micro_limit = d.micro_limit;
  components = components_view d.components.items;
  couplings = couplings_view d.couplings.items;
  inputs = inputs_view d.inputs.items;
}
