use Rattle.std.proofs.Common.{◌∙◌, ap, map, string_bytes, sym}
use Rattle.std.proofs.lemmas.List.{map-append}
use Rattle.serde_json.specs.View.{view}
use Rattle.tw_machine_file.specs.Machines.{machine_behind}
use Rattle.tw_machine_file.specs.Seen.{machine}
use Rattle.tw_machine_file.specs.Shared.{shared}
use Rattle.tw_machine_file.proofs.OneMachineMore.{one_more}
use Rattle.tw_machine_file.proofs.machines.machines_behind.Goals as goal

pub loop-value-preserved : goal.loop-value-preserved
loop-value-preserved c =
    let values = c.args.values.now in
    let file = view c.args.file.now in
    let said = shared c.args.said.now in
    let names = map string_bytes c.loop-value.names.items in
    let named = c.in_ok-from_str.ensures.ok ∙ c.as_str.ensures.value in
    let made =
    ap (λ v. machine_behind file said names (view v)) (sym c.value-item.is)
    ∙ ap (λ ns. machine_behind file said (map string_bytes ns) (view c.value-item.result)) (sym c.as_slice.ensures.value)
    ∙ c.in_ok-machine.ensures.ok in
    rw (c.in_ok-push-2.ensures.items, c.in_ok-push.ensures.items, map-append, map-append)
    (one_more file said values (map machine c.loop-value.machines.items) names c.loop-value.value-index c.value-item.result (machine c.in_ok-machine.machine)
    (string_bytes c.in_ok-from_str.field-0) c.loop-value-test.true named made ∙ c.loop-value.invariant)
