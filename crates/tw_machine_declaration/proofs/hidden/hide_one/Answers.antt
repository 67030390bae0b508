use Rattle.std.proofs.Common.{◌∙◌, ◌++◌, ◌∷◌, [], List, ap, map, append_assoc}
use Rattle.std.specs.Prelude.{codes}
use Rattle.tw_machine_declaration.specs.Seen as plain
use Rattle.tw_machine_declaration.specs.Seen.{Name, together, greatest}
use Rattle.tw_machine_declaration.specs.declared.declaration.Timer.{Timer}
use Rattle.tw_machine_declaration.proofs.hidden.hide_one.Goals as goal

pub returns : goal.returns
returns c =
    let names : List Name = map plain.name c.args.names.now.items in
    c.in_ok-hide-2.ensures
    ∙ ap (λ (ns : List Name). ns ++ (codes " greatest", greatest c.args.timer) ∷ []) c.in_ok-hide.ensures
    ∙ append_assoc names ((codes " before", together c.in_ok-before.before.items) ∷ []) ((codes " greatest", greatest c.args.timer) ∷ [])
    ∙ ap (λ (ts : List Timer). map plain.name c.args.names.now.items ++ (codes " before", together ts) ∷ (codes " greatest", greatest c.args.timer) ∷ []) c.in_ok-before.ensures.items
