use Rattle.std.proofs.Common.{◌≡◌, ◌++◌, drop, map}
use Rattle.tw_machine_text.specs.Kinds.{meaning_named, without_field}
use Rattle.tw_machine_text.specs.TextViews.{declarations}
use Rattle.tw_machine_text.proofs.kinds.kinds_named.Given as goal

-- what has come and what is to come
abbrev pub invariant-loop-name : goal.invariant-loop-name
invariant-loop-name l =
    let kinds = map (λ name. without_field (meaning_named (declarations l.declared) name.now)) in
    l.kinds.items ++ kinds (drop l.name-index l.names) ≡ kinds l.names
