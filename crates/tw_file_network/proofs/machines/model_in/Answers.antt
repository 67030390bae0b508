use Rattle.std.proofs.Common.{◌≡◌, ◌≢◌, ap, map, refl, subst, sym}
use Rattle.std.specs.Option.{option_or}
use Rattle.std.specs.Prelude.{Option, None, Some, option_and_then, option_map}
use Rattle.std.specs.Result.{IfErr, IfOk}
use Rattle.serde_json.specs.View.{view}
use Rattle.tw_machine_file.specs.Seen.{machine}
use Rattle.tw_file_members.specs.Named.{machine_named}
use Rattle.tw_file_network.specs.Shape.{machine_of}
use Rattle.tw_file_network.specs.declared.draft.AnyDraft.{AnyDraft}
use Rattle.tw_file_network.specs.declared.draft.AnyDraft.TheVariants.{BuiltIn}
use Rattle.tw_file_network.specs.declared.refused.FileRefused.TheVariants.{BadShape, OutOfMemory}
use Rattle.tw_file_network.proofs.machines.model_in.Goals as goal

pub returns-in-Some-clause-ok : goal.returns-in-Some-clause-ok
returns-in-Some-clause-ok c =
    ap (λ o. option_or (option_map BuiltIn o) (option_and_then (λ m. machine_of m (view c.args.value.now)) (machine_named (map machine c.args.machines.now) c.args.name.now))) (sym c.in-Some.ensures)

pub returns-in-None-clause-err : goal.returns-in-None-clause-err
returns-in-None-clause-err c = λ _. (refl, λ i. option_or (option_map BuiltIn (sym c.in_default.ensures i)) (option_and_then (λ m. machine_of m (view c.args.value.now)) (sym c.in-None.ensures i)))

pub returns-in-Some-machine_named-clause-ok : goal.returns-in-Some-machine_named-clause-ok
returns-in-Some-machine_named-clause-ok c =
    subst (λ (o : Option AnyDraft). IfOk c.machine_of.result (λ d. o ≡ Some d))
    (λ i. option_or (option_map BuiltIn (c.in_default.ensures i)) (option_and_then (λ m. machine_of m (view c.args.value.now)) (c.in-Some-machine_named.ensures i)))
    c.machine_of.ensures.ok

pub returns-in-Some-machine_named-clause-err : goal.returns-in-Some-machine_named-clause-err
returns-in-Some-machine_named-clause-err c =
    subst (λ (o : Option AnyDraft). IfErr c.machine_of.result (λ e. e ≢ OutOfMemory → (e ≡ BadShape) × (o ≡ None)))
    (λ i. option_or (option_map BuiltIn (c.in_default.ensures i)) (option_and_then (λ m. machine_of m (view c.args.value.now)) (c.in-Some-machine_named.ensures i)))
    c.machine_of.ensures.err
