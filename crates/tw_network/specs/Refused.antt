-- For what a network is refused, in the table of refusals of the workspace.
use Rattle.tw_vtime.specs.declared.refusal.Refusal.{Refusal}
use Rattle.tw_vtime.specs.declared.refusal.Refusal.TheVariants as refusal
use Rattle.tw_nested.specs.declared.collect.FlatRefused.{FlatRefused}
use Rattle.tw_nested.specs.declared.collect.FlatRefused.TheVariants as flat
use Rattle.tw_network.specs.declared.refused.NetworkRefused.{NetworkRefused}
use Rattle.tw_network.specs.declared.refused.NetworkRefused.TheVariants.{OutOfMemory, UnknownComponent, BadPort, SelfCoupling, DuplicateRoute, TooMany, BadTick, BadLimit, BadName, DuplicateName}

abbrev pub network_refusal : NetworkRefused → Refusal
network_refusal OutOfMemory = refusal.OutOfMemory
network_refusal UnknownComponent = refusal.UnknownComponent
network_refusal BadPort = refusal.BadPort
network_refusal SelfCoupling = refusal.SelfCoupling
network_refusal DuplicateRoute = refusal.DuplicateRoute
network_refusal TooMany = refusal.TooMany
network_refusal BadTick = refusal.BadTick
network_refusal BadLimit = refusal.BadLimit
network_refusal BadName = refusal.BadName
network_refusal DuplicateName = refusal.DuplicateName

-- for what the couplings of a tree are not made flat
abbrev pub flat_fault : FlatRefused → NetworkRefused
flat_fault flat.OutOfMemory = OutOfMemory
flat_fault flat.TooMany = TooMany
