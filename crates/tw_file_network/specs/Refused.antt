-- For what a file is refused, in the table of refusals of the workspace.
use Rattle.tw_vtime.specs.declared.refusal.Refusal.{Refusal}
use Rattle.tw_vtime.specs.declared.refusal.Refusal.TheVariants as refusal
use Rattle.tw_models.specs.BadModel.{bad_model_refusal}
use Rattle.tw_network.specs.Refused.{network_refusal}
use Rattle.tw_network.specs.declared.refused.NetworkRefused.{NetworkRefused}
use Rattle.tw_network.specs.declared.refused.NetworkRefused.TheVariants as network
use Rattle.tw_file_network.specs.declared.refused.FileRefused.{FileRefused}
use Rattle.tw_file_network.specs.declared.refused.FileRefused.TheVariants.{OutOfMemory, NotJson, BadShape, Parameter, Network}

abbrev pub file_refusal : FileRefused → Refusal
file_refusal OutOfMemory = refusal.OutOfMemory
file_refusal NotJson = refusal.NotJson
file_refusal BadShape = refusal.BadShape
file_refusal (Parameter bad) = bad_model_refusal bad
file_refusal (Network fault) = network_refusal fault

-- what the maker of networks refuses, as a refusal of the file; want of memory is the same in both
abbrev pub network_fault : NetworkRefused → FileRefused
network_fault network.OutOfMemory = OutOfMemory
network_fault fault = Network fault
