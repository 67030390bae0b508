use Rattle.std.proofs.Common.{◌≡◌, ◌≢◌, ◌∙◌, subst, None}
use Rattle.std.specs.Result.{IfErr, IfOk}
use Rattle.tw_nested.specs.Tree.{parts_of}
use Rattle.tw_network.specs.FlatTrees.{IsFlattened}
use Rattle.tw_network.specs.TreeFaults.{IsTreeFault, in_tree, tree_fault}
use Rattle.tw_network.specs.declared.refused.NetworkRefused.TheVariants.{OutOfMemory}
use Rattle.tw_network.proofs.FirstTreeFault.{if_ok, no_such, sound_tree}
use Rattle.tw_network.proofs.AtomsOnly.{refused_so, refused_as_new, sound_as_new, made_as_new}
use Rattle.tw_network.proofs.network.Network.nested.Given.{Over}
use Rattle.tw_network.proofs.network.Network.nested.Goals as goal

-- ---- where the tree is at fault

pub returns-in-Err-clause-first_fault : goal.returns-in-Err-clause-first_fault
returns-in-Err-clause-first_fault g c = λ ne. in_tree c.in-Err.refused (rw c.as_slice.ensures.value at (c.in-Err.ensures.err ne))

pub returns-in-Err-clause-counts : goal.returns-in-Err-clause-counts
returns-in-Err-clause-counts g c = λ many. let same = (rw c.as_slice.ensures.value at c.in-Err.ensures.counts) many in cc

pub returns-in-Err-clause-limit : goal.returns-in-Err-clause-limit
returns-in-Err-clause-limit g c = λ few bad. let same = (rw c.as_slice.ensures.value at c.in-Err.ensures.limit) few bad in cc

pub returns-in-Err-clause-refused_as_new : goal.returns-in-Err-clause-refused_as_new
returns-in-Err-clause-refused_as_new g c = λ components couplings flat ne.
    refused_so g.M.Atomic.meaning (parts_of c.args.root.parts.items) c.args.root.couplings.items c.args.inputs.items c.args.micro_limit components couplings flat c.in-Err.refused (returns-in-Err-clause-first_fault g c ne)

-- ---- where it is not

sound : (g : Over) (c : goal.After-of_sound_tree g) → tree_fault g.M.Atomic.meaning (parts_of c.args.root.parts.items) c.args.root.couplings.items c.args.inputs.items c.args.micro_limit ≡ None
sound g c = rw c.as_slice.ensures.value at c.in-Ok.ensures.ok

pub of_sound_tree-requires : goal.of_sound_tree-requires
of_sound_tree-requires g c = record { sound = rw c.in-Ok.ensures.same (rw c.as_slice.ensures.value at c.in-Ok.ensures.ok) }

pub returns-in-Ok-clause-names : goal.returns-in-Ok-clause-names
returns-in-Ok-clause-names g c = if_ok c.of_sound_tree.result (λ n made. made.names) c.of_sound_tree.ensures.flattened

pub returns-in-Ok-clause-models : goal.returns-in-Ok-clause-models
returns-in-Ok-clause-models g c = if_ok c.of_sound_tree.result (λ n made. made.models) c.of_sound_tree.ensures.flattened

pub returns-in-Ok-clause-couplings : goal.returns-in-Ok-clause-couplings
returns-in-Ok-clause-couplings g c = if_ok c.of_sound_tree.result (λ n made. made.couplings) c.of_sound_tree.ensures.flattened

pub returns-in-Ok-clause-inputs : goal.returns-in-Ok-clause-inputs
returns-in-Ok-clause-inputs g c = if_ok c.of_sound_tree.result (λ n made. made.inputs) c.of_sound_tree.ensures.flattened

pub returns-in-Ok-clause-micro_limit : goal.returns-in-Ok-clause-micro_limit
returns-in-Ok-clause-micro_limit g c = if_ok c.of_sound_tree.result (λ n made. made.micro_limit ∙ c.in-Ok.ensures.same) c.of_sound_tree.ensures.flattened

pub returns-in-Ok-clause-tree_sound : goal.returns-in-Ok-clause-tree_sound
returns-in-Ok-clause-tree_sound g c = if_ok c.of_sound_tree.result (λ n made. sound g c) c.of_sound_tree.ensures.flattened

pub returns-in-Ok-clause-inputs_sound : goal.returns-in-Ok-clause-inputs_sound
returns-in-Ok-clause-inputs_sound g c = c.of_sound_tree.ensures.inputs_sound

pub returns-in-Ok-clause-first_fault : goal.returns-in-Ok-clause-first_fault
returns-in-Ok-clause-first_fault g c =
    subst (λ n. IfErr c.of_sound_tree.result (λ e. e ≢ OutOfMemory → IsTreeFault g.M.Atomic.meaning (parts_of c.args.root.parts.items) c.args.root.couplings.items c.args.inputs.items n e)) c.in-Ok.ensures.same c.of_sound_tree.ensures.first_fault

pub returns-in-Ok-clause-counts : goal.returns-in-Ok-clause-counts
returns-in-Ok-clause-counts g c = λ many. no_such _ _ (sound_tree g.M.Atomic.meaning (parts_of c.args.root.parts.items) c.args.root.couplings.items c.args.inputs.items c.args.micro_limit (sound g c)).0 many

pub returns-in-Ok-clause-limit : goal.returns-in-Ok-clause-limit
returns-in-Ok-clause-limit g c = λ few bad. no_such _ _ (sound_tree g.M.Atomic.meaning (parts_of c.args.root.parts.items) c.args.root.couplings.items c.args.inputs.items c.args.micro_limit (sound g c)).1 bad

pub returns-in-Ok-clause-made_as_new : goal.returns-in-Ok-clause-made_as_new
returns-in-Ok-clause-made_as_new g c = λ components couplings flat.
    if_ok c.of_sound_tree.result (λ n made. made_as_new g.M.Atomic.meaning (parts_of c.args.root.parts.items) c.args.root.couplings.items c.args.inputs.items c.args.micro_limit n made (sound g c) components couplings flat)
    (subst (λ m. IfOk c.of_sound_tree.result (IsFlattened (parts_of c.args.root.parts.items) c.args.root.couplings.items c.args.inputs.items m)) c.in-Ok.ensures.same c.of_sound_tree.ensures.flattened)

pub returns-in-Ok-clause-sound_as_new : goal.returns-in-Ok-clause-sound_as_new
returns-in-Ok-clause-sound_as_new g c = λ components couplings flat.
    if_ok c.of_sound_tree.result (λ n good. sound_as_new g.M.Atomic.meaning (parts_of c.args.root.parts.items) c.args.root.couplings.items c.args.inputs.items c.args.micro_limit components couplings flat (sound g c) good) c.of_sound_tree.ensures.inputs_sound

pub returns-in-Ok-clause-refused_as_new : goal.returns-in-Ok-clause-refused_as_new
returns-in-Ok-clause-refused_as_new g c =
    refused_as_new g.M.Atomic.meaning (parts_of c.args.root.parts.items) c.args.root.couplings.items c.args.inputs.items c.args.micro_limit c.of_sound_tree.result (returns-in-Ok-clause-first_fault g c)
