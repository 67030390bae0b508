-- What is said by a name and by its place is said by the texts that they lend.
use Rattle.std.proofs.Common.{◌≡◌, ◌∙◌, ◌++◌, List, ℕ, OnOk, ap, map, string_bytes, subst}
use Rattle.tw_machine_declaration.specs.Seen.{declaration, thing}
use Rattle.tw_machine_warnings.specs.Names.{called, name_place, thing_warnings}
use Rattle.tw_machine_warnings.specs.Warning.{warning}
use Rattle.tw_machine_warnings.specs.declared.sought.Called.{Called}
use Rattle.tw_machine_warnings.proofs.names.add_name.Goals as goal

pub returns : goal.returns
returns c =
    let said = map warning c.args.warnings.now.items in
    let d = declaration c.args.declaration.now in
    let t = thing c.args.named.now.thing in
    let now = map warning c.add_thing.new.warnings.items in
    subst (λ (k : Called). OnOk c.add_thing.result (now ≡ said ++ thing_warnings d k (name_place c.args.place.now (string_bytes c.args.named.now.name)) t))
    (c.called-called.ensures ∙ ap (called c.args.number) c.as_str-name.ensures.value)
    (subst (λ (place : List ℕ). OnOk c.add_thing.result (now ≡ said ++ thing_warnings d c.called-called.result place t))
    (c.as_str.ensures.value ∙ (c.in_ok-place.ensures ∙ ap (name_place c.args.place.now) c.as_str-name.ensures.value))
    c.add_thing.ensures)
