use Rattle.std.proofs.Common.{◌≡◌, ◌≤◌, ℕ, List, None, Some, map, string_bytes, length, subst, sym, ◌∙◌}
use Rattle.std.proofs.lemmas.List.{length-map}
use Rattle.std.specs.Prelude.{String}
use Rattle.std.specs.Global.{Global}
use Rattle.tw_network.specs.Contents.{named}
use Rattle.tw_network.proofs.FirstFault.{passed_on, fault_of_counts, fault_of_limit, fault_of_components, fault_of_rest, count_fault_of, rest_fault_of, after_none, length-models_of}
use Rattle.tw_network.proofs.FirstTreeFault.{no_such}
use Rattle.tw_network.proofs.NoFaults.{few_components, whole_from_checks}
use Rattle.tw_network.proofs.network.Network.new.Goals as goal

-- how many are named
named_count : {M : Type 0} (components : List (String Global × M)) {a b : ℕ} → a ≡ b → b ≡ length components → a ≡ length (named components)
named_count components p q = p ∙ q ∙ sym (length-map components (λ x. (string_bytes x.0, x.1)))

pub invariant_of-result : goal.invariant_of-result
invariant_of-result g c =
    let components : c.len.result ≡ length (named c.args.components.items) = c.len.ensures ∙ c.args.components.ok.0 ∙ sym (length-map c.args.components.items (λ x. (string_bytes x.0, x.1))) in
    let couplings : c.len-2.result ≡ length c.args.couplings.items = c.len-2.ensures ∙ c.args.couplings.ok.0 in
    let inputs : c.len-3.result ≡ length c.args.inputs.items = c.len-3.ensures ∙ c.args.inputs.ok.0 in
    let count : c.len-4.result ≡ length c.in_ok-names.models.items = c.len-4.ensures ∙ c.in_ok-names.models.ok.0 in
    let whole =
    whole_from_checks g.M.Atomic.meaning (named c.args.components.items) (map string_bytes c.in_ok-names.names.keys) c.in_ok-names.models.items c.args.couplings.items c.args.inputs.items c.in_ok-micro_limit.micro_limit
    c.in_ok-names.ensures.names c.in_ok-names.ensures.models
    (rw (← components, ← couplings, ← inputs) (sym c.in_ok-check_counts.ensures))
    (rw c.in_ok-micro_limit.ensures.same (sym c.in_ok-micro_limit.ensures.fault))
    c.in_ok-names.ensures.ok
    (rw (← count) (rw c.as_slice.ensures.value at c.in_ok-routes.ensures.couplings))
    (rw (← count) (rw c.as_slice-2.ensures.value at c.in_ok-routes.ensures.inputs)) in
    (whole, rw (← count) (rw c.as_slice.ensures.value at c.in_ok-routes.ensures.routes))

-- where a check refuses, its fault is the first
pub returns-in_err-check_counts-clause-first_fault : goal.returns-in_err-check_counts-clause-first_fault
returns-in_err-check_counts-clause-first_fault g c =
    passed_on c.from_residual.result c.in_err-check_counts.field-0.0 _ c.from_residual.ensures.1
    (λ ne. fault_of_counts g.M.Atomic.meaning (named c.args.components.items) c.args.couplings.items c.args.inputs.items c.args.micro_limit c.in_err-check_counts.field-0.0
    (sym (count_fault_of c.len.result c.len-2.result c.len-3.result (Some c.in_err-check_counts.field-0.0)
    (named_count c.args.components.items c.len.ensures c.args.components.ok.0) (c.len-2.ensures ∙ c.args.couplings.ok.0) (c.len-3.ensures ∙ c.args.inputs.ok.0) c.in_err-check_counts.ensures)))

pub returns-in_err-micro_limit-clause-first_fault : goal.returns-in_err-micro_limit-clause-first_fault
returns-in_err-micro_limit-clause-first_fault g c =
    let counts = count_fault_of c.len.result c.len-2.result c.len-3.result None
    (named_count c.args.components.items c.len.ensures c.args.components.ok.0) (c.len-2.ensures ∙ c.args.couplings.ok.0) (c.len-3.ensures ∙ c.args.inputs.ok.0) c.in_ok-check_counts.ensures in
    passed_on c.from_residual-in_err-micro_limit.result c.in_err-micro_limit.field-0.0 _ c.from_residual-in_err-micro_limit.ensures.1
    (λ ne. fault_of_limit g.M.Atomic.meaning (named c.args.components.items) c.args.couplings.items c.args.inputs.items c.args.micro_limit counts c.in_err-micro_limit.field-0.0 (sym c.in_err-micro_limit.ensures.fault))

pub returns-in_err-names-clause-first_fault : goal.returns-in_err-names-clause-first_fault
returns-in_err-names-clause-first_fault g c =
    let counts = count_fault_of c.len.result c.len-2.result c.len-3.result None
    (named_count c.args.components.items c.len.ensures c.args.components.ok.0) (c.len-2.ensures ∙ c.args.couplings.ok.0) (c.len-3.ensures ∙ c.args.inputs.ok.0) c.in_ok-check_counts.ensures in
    passed_on c.from_residual-in_err-names.result c.in_err-names.field-0.0 _ c.from_residual-in_err-names.ensures.1
    (λ ne. fault_of_components g.M.Atomic.meaning (named c.args.components.items) c.args.couplings.items c.args.inputs.items c.args.micro_limit counts c.in_ok-micro_limit.ensures.fault c.in_err-names.field-0.0 (c.in_err-names.ensures.err ne))

pub returns-in_err-routes-clause-first_fault : goal.returns-in_err-routes-clause-first_fault
returns-in_err-routes-clause-first_fault g c =
    let counts = count_fault_of c.len.result c.len-2.result c.len-3.result None
    (named_count c.args.components.items c.len.ensures c.args.components.ok.0) (c.len-2.ensures ∙ c.args.couplings.ok.0) (c.len-3.ensures ∙ c.args.inputs.ok.0) c.in_ok-check_counts.ensures in
    let count = c.len-4.ensures ∙ c.in_ok-names.models.ok.0 ∙ length-models_of c.in_ok-names.models.items (named c.args.components.items) c.in_ok-names.ensures.models in
    passed_on c.from_residual-in_err-routes.result c.in_err-routes.field-0.0 _ c.from_residual-in_err-routes.ensures.1
    (λ ne. fault_of_rest g.M.Atomic.meaning (named c.args.components.items) c.args.couplings.items c.args.inputs.items c.args.micro_limit
    counts c.in_ok-micro_limit.ensures.fault c.in_ok-names.ensures.ok (Some c.in_err-routes.field-0.0)
    (rest_fault_of c.len-4.result c.as_slice.result.now c.as_slice-2.result.now (Some c.in_err-routes.field-0.0) count c.as_slice.ensures.value c.as_slice-2.ensures.value (c.in_err-routes.ensures.err ne)))

pub returns-clause-no_fault : goal.returns-clause-no_fault
returns-clause-no_fault g c =
    let counts = count_fault_of c.len.result c.len-2.result c.len-3.result None
    (named_count c.args.components.items c.len.ensures c.args.components.ok.0) (c.len-2.ensures ∙ c.args.couplings.ok.0) (c.len-3.ensures ∙ c.args.inputs.ok.0) c.in_ok-check_counts.ensures in
    let count = c.len-4.ensures ∙ c.in_ok-names.models.ok.0 ∙ length-models_of c.in_ok-names.models.items (named c.args.components.items) c.in_ok-names.ensures.models in
    fault_of_rest g.M.Atomic.meaning (named c.args.components.items) c.args.couplings.items c.args.inputs.items c.args.micro_limit
    counts c.in_ok-micro_limit.ensures.fault c.in_ok-names.ensures.ok None
    (rest_fault_of c.len-4.result c.as_slice.result.now c.as_slice-2.result.now None count c.as_slice.ensures.value c.as_slice-2.ensures.value
    (after_none _ _ (sym c.in_ok-routes.ensures.couplings) ∙ c.in_ok-routes.ensures.inputs))

-- ---- there are not too many, and the greatest microstep is one

pub checked_routes-requires : goal.checked_routes-requires
checked_routes-requires g c =
    let counts = count_fault_of c.len.result c.len-2.result c.len-3.result None
    (named_count c.args.components.items c.len.ensures c.args.components.ok.0) (c.len-2.ensures ∙ c.args.couplings.ok.0) (c.len-3.ensures ∙ c.args.inputs.ok.0) c.in_ok-check_counts.ensures in
    let count = c.len-4.ensures ∙ c.in_ok-names.models.ok.0 ∙ length-models_of c.in_ok-names.models.items (named c.args.components.items) c.in_ok-names.ensures.models in
    record { few = subst (λ n. n ≤ 1024) (sym count) (few_components (length (named c.args.components.items)) (length c.args.couplings.items) (length c.args.inputs.items) counts) }

pub returns-in_err-micro_limit-clause-counts : goal.returns-in_err-micro_limit-clause-counts
returns-in_err-micro_limit-clause-counts g c = λ many.
    no_such _ _ (count_fault_of c.len.result c.len-2.result c.len-3.result None (c.len.ensures ∙ c.args.components.ok.0) (c.len-2.ensures ∙ c.args.couplings.ok.0) (c.len-3.ensures ∙ c.args.inputs.ok.0) c.in_ok-check_counts.ensures) many

pub returns-in_err-names-clause-counts : goal.returns-in_err-names-clause-counts
returns-in_err-names-clause-counts g c = λ many.
    no_such _ _ (count_fault_of c.len.result c.len-2.result c.len-3.result None (c.len.ensures ∙ c.args.components.ok.0) (c.len-2.ensures ∙ c.args.couplings.ok.0) (c.len-3.ensures ∙ c.args.inputs.ok.0) c.in_ok-check_counts.ensures) many

pub returns-in_err-routes-clause-counts : goal.returns-in_err-routes-clause-counts
returns-in_err-routes-clause-counts g c = λ many.
    no_such _ _ (count_fault_of c.len.result c.len-2.result c.len-3.result None (c.len.ensures ∙ c.args.components.ok.0) (c.len-2.ensures ∙ c.args.couplings.ok.0) (c.len-3.ensures ∙ c.args.inputs.ok.0) c.in_ok-check_counts.ensures) many

pub returns-clause-counts : goal.returns-clause-counts
returns-clause-counts g c = λ many.
    no_such _ _ (count_fault_of c.len.result c.len-2.result c.len-3.result None (c.len.ensures ∙ c.args.components.ok.0) (c.len-2.ensures ∙ c.args.couplings.ok.0) (c.len-3.ensures ∙ c.args.inputs.ok.0) c.in_ok-check_counts.ensures) many

pub returns-in_err-names-clause-limit : goal.returns-in_err-names-clause-limit
returns-in_err-names-clause-limit g c = λ few bad. no_such _ _ c.in_ok-micro_limit.ensures.fault bad

pub returns-in_err-routes-clause-limit : goal.returns-in_err-routes-clause-limit
returns-in_err-routes-clause-limit g c = λ few bad. no_such _ _ c.in_ok-micro_limit.ensures.fault bad

pub returns-clause-limit : goal.returns-clause-limit
returns-clause-limit g c = λ few bad. no_such _ _ c.in_ok-micro_limit.ensures.fault bad
