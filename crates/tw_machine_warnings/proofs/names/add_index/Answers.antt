-- What is said by a name and by its place is said by the texts that they lend.
use Rattle.std.proofs.Common.{◌≡◌, ◌∙◌, ◌++◌, List, ℕ, OnOk, ap, map, string_bytes, subst}
use Rattle.tw_machine_declaration.specs.Seen.{thing}
use Rattle.tw_machine_warnings.specs.Names.{called, name_place, place_warnings}
use Rattle.tw_machine_warnings.specs.Texts.{text}
use Rattle.tw_machine_warnings.specs.Warning.{warning}
use Rattle.tw_machine_warnings.specs.declared.sought.Called.{Called}
use Rattle.tw_machine_warnings.proofs.names.add_index.Goals as goal

pub returns : goal.returns
returns c =
    let said = map warning c.args.warnings.now.items in
    let said_in = text c.args.said in
    let t = thing c.args.named.now.thing in
    let now = map warning c.add_places.new.warnings.items in
    subst (λ (k : Called). OnOk c.add_places.result (now ≡ said ++ place_warnings said_in k (name_place c.args.place.now (string_bytes c.args.named.now.name)) t))
    (c.called-called.ensures ∙ ap (called c.args.number) c.as_str-name.ensures.value)
    (subst (λ (place : List ℕ). OnOk c.add_places.result (now ≡ said ++ place_warnings said_in c.called-called.result place t))
    (c.as_str.ensures.value ∙ (c.in_ok-place.ensures ∙ ap (name_place c.args.place.now) c.as_str-name.ensures.value))
    c.add_places.ensures)
