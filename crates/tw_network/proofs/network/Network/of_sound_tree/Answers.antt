use Rattle.std.proofs.Common.{◌≡◌, ◌≤◌, ◌+◌, List, length, map, string_bytes, true, nat_le, refl, sym, ap, ◌∙◌, subst, None, Some}
use Rattle.std.proofs.lemmas.Bool.{and_parts, leb-true}
use Rattle.tw_nested.specs.Tree.{Parts, Link, parts_of, models_in, levels, coupled_count, link_count}
use Rattle.tw_network.specs.TreeFaults.{IsTreeFault, is_few}
use Rattle.tw_network.specs.Refused.{flat_fault}
use Rattle.tw_network.proofs.FirstFault.{inputs_fault_of}
use Rattle.tw_network.proofs.TreeSound.{tree_whole, tree_linked, few_parts, tree_names_distinct, couplings_sound}
use Rattle.tw_network.proofs.FirstTreeFault.{error_on, no_memory, counts_few, sound_tree, tree_fault_of_couplings, tree_fault_of_inputs}
use Rattle.tw_network.proofs.network.Network.of_sound_tree.Goals as goal

-- in a tree of few parts there are few atoms
few_models : {M : Type 0} (parts : Parts M) (links : List Link) → is_few parts links ≡ true → length (models_in parts) ≤ 1024
few_models parts links few =
    let parts_few = (and_parts _ (nat_le (length links + link_count parts) 8192) few).0 in
    let atoms_few = (and_parts _ (nat_le (coupled_count parts) 1024) parts_few).0 in
    leb-true (length (models_in parts)) 1024 (and_parts (nat_le (levels parts) 16) _ atoms_few).1

pub flatten-requires-clause-few : goal.flatten-requires-clause-few
flatten-requires-clause-few g c = (few_parts (parts_of c.args.root.parts.items) c.args.root.couplings.items (counts_few (parts_of c.args.root.parts.items) c.args.root.couplings.items (length c.args.inputs.items) (sound_tree g.M.Atomic.meaning (parts_of c.args.root.parts.items) c.args.root.couplings.items c.args.inputs.items c.args.micro_limit c.requires.sound).0).0).0

pub flatten-requires-clause-atoms : goal.flatten-requires-clause-atoms
flatten-requires-clause-atoms g c = (few_parts (parts_of c.args.root.parts.items) c.args.root.couplings.items (counts_few (parts_of c.args.root.parts.items) c.args.root.couplings.items (length c.args.inputs.items) (sound_tree g.M.Atomic.meaning (parts_of c.args.root.parts.items) c.args.root.couplings.items c.args.inputs.items c.args.micro_limit c.requires.sound).0).0).1

pub flatten-requires-clause-linked : goal.flatten-requires-clause-linked
flatten-requires-clause-linked g c = tree_linked g.M.Atomic.meaning (parts_of c.args.root.parts.items) c.args.root.couplings.items (sound_tree g.M.Atomic.meaning (parts_of c.args.root.parts.items) c.args.root.couplings.items c.args.inputs.items c.args.micro_limit c.requires.sound).2

pub returns-in_err-names-clause-first_fault : goal.returns-in_err-names-clause-first_fault
returns-in_err-names-clause-first_fault g c =
    error_on (IsTreeFault g.M.Atomic.meaning (parts_of c.args.root.parts.items) c.args.root.couplings.items c.args.inputs.items c.args.micro_limit) c.from_residual.result (flat_fault c.in_err-names.field-0.0) c.from_residual.ensures.1
    (tree_fault_of_couplings g.M.Atomic.meaning (parts_of c.args.root.parts.items) c.args.root.couplings.items c.args.inputs.items c.args.micro_limit c.requires.sound c.in_err-names.field-0.0 c.in_err-names.ensures.too_many)

pub returns-in_err-check_inputs-clause-first_fault : goal.returns-in_err-check_inputs-clause-first_fault
returns-in_err-check_inputs-clause-first_fault g c =
    error_on (IsTreeFault g.M.Atomic.meaning (parts_of c.args.root.parts.items) c.args.root.couplings.items c.args.inputs.items c.args.micro_limit) c.from_residual-in_err-check_inputs.result c.in_err-check_inputs.field-0.0 c.from_residual-in_err-check_inputs.ensures.1
    (λ ne. tree_fault_of_inputs g.M.Atomic.meaning (parts_of c.args.root.parts.items) c.args.root.couplings.items c.args.inputs.items c.args.micro_limit c.requires.sound c.in_ok-names.field-0.couplings.items c.in_err-check_inputs.field-0.0 c.in_ok-names.ensures.couplings
    (inputs_fault_of c.len-count.result c.as_slice.result.now (Some c.in_err-check_inputs.field-0.0) (c.len-count.ensures ∙ c.in_ok-names.field-0.models.ok.0 ∙ ap length c.in_ok-names.ensures.models) c.as_slice.ensures.value c.in_err-check_inputs.ensures))

pub name_set-requires : goal.name_set-requires
name_set-requires g c = record { distinct = rw c.in_ok-names.ensures.names (tree_names_distinct g.M.Atomic.meaning (parts_of c.args.root.parts.items) c.args.root.couplings.items (sound_tree g.M.Atomic.meaning (parts_of c.args.root.parts.items) c.args.root.couplings.items c.args.inputs.items c.args.micro_limit c.requires.sound).2) }

pub returns-in_err-names-2-clause-first_fault : goal.returns-in_err-names-2-clause-first_fault
returns-in_err-names-2-clause-first_fault g c = no_memory (IsTreeFault g.M.Atomic.meaning (parts_of c.args.root.parts.items) c.args.root.couplings.items c.args.inputs.items c.args.micro_limit) c.from_residual-in_err-names-2.result c.from_residual-in_err-names-2.ensures.1

pub new-requires-clause-couplings : goal.new-requires-clause-couplings
new-requires-clause-couplings g c =
    rw c.as_slice-2.ensures.value
    (couplings_sound g.M.Atomic.meaning (parts_of c.args.root.parts.items) c.args.root.couplings.items c.in_ok-names.field-0.couplings.items c.len-count.result (c.len-count.ensures ∙ c.in_ok-names.field-0.models.ok.0 ∙ ap length c.in_ok-names.ensures.models) c.in_ok-names.ensures.couplings c.in_ok-names.ensures.apart)

pub returns-in_err-routes-clause-first_fault : goal.returns-in_err-routes-clause-first_fault
returns-in_err-routes-clause-first_fault g c = no_memory (IsTreeFault g.M.Atomic.meaning (parts_of c.args.root.parts.items) c.args.root.couplings.items c.args.inputs.items c.args.micro_limit) c.from_residual-in_err-routes.result c.from_residual-in_err-routes.ensures.1

pub invariant_of-result : goal.invariant_of-result
invariant_of-result g c =
    let sound = (sound_tree g.M.Atomic.meaning (parts_of c.args.root.parts.items) c.args.root.couplings.items c.args.inputs.items c.args.micro_limit c.requires.sound) in
    let few = counts_few (parts_of c.args.root.parts.items) c.args.root.couplings.items (length c.args.inputs.items) sound.0 in
    let count : c.len-count.result ≡ length c.in_ok-names.field-0.models.items = c.len-count.ensures ∙ c.in_ok-names.field-0.models.ok.0 in (
      tree_whole g.M.Atomic.meaning (parts_of c.args.root.parts.items) c.args.root.couplings.items (map string_bytes c.in_ok-names-2.names.keys) c.in_ok-names.field-0.models.items c.in_ok-names.field-0.couplings.items c.args.inputs.items c.args.micro_limit
          (c.in_ok-names-2.ensures ∙ c.in_ok-names.ensures.names) c.in_ok-names.ensures.models c.in_ok-names.ensures.couplings c.in_ok-names.ensures.apart few.0 few.1
          (sym sound.1) sound.2
          (inputs_fault_of c.len-count.result c.as_slice.result.now None count c.as_slice.ensures.value c.in_ok-check_inputs.ensures),
      rw (← count) (rw c.as_slice-2.ensures.value at c.in_ok-routes.ensures),
    )

pub returns-clause-inputs_sound : goal.returns-clause-inputs_sound
returns-clause-inputs_sound g c =
    inputs_fault_of c.len-count.result c.as_slice.result.now None (c.len-count.ensures ∙ c.in_ok-names.field-0.models.ok.0 ∙ ap length c.in_ok-names.ensures.models) c.as_slice.ensures.value c.in_ok-check_inputs.ensures

pub returns-clause-flattened : goal.returns-clause-flattened
returns-clause-flattened g c =
    record {
      names = c.in_ok-names-2.ensures ∙ c.in_ok-names.ensures.names;
      models = c.in_ok-names.ensures.models;
      couplings = c.in_ok-names.ensures.couplings;
      inputs = refl;
      micro_limit = refl;
    }

pub new-requires-clause-few : goal.new-requires-clause-few
new-requires-clause-few g c =
    let few = counts_few (parts_of c.args.root.parts.items) c.args.root.couplings.items (length c.args.inputs.items) (sound_tree g.M.Atomic.meaning (parts_of c.args.root.parts.items) c.args.root.couplings.items c.args.inputs.items c.args.micro_limit c.requires.sound).0 in
    let count = c.len-count.ensures ∙ c.in_ok-names.field-0.models.ok.0 ∙ ap length c.in_ok-names.ensures.models in
    subst (λ n. n ≤ 1024) (sym count) (few_models (parts_of c.args.root.parts.items) c.args.root.couplings.items few.0)
