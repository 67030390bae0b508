use Rattle.std.proofs.Common.{◌≡◌, ◌++◌, List, drop, map}
use Rattle.tw_machine_text.specs.TextViews.{declarations}
use Rattle.tw_machine_declaration.specs.Seen.{name}
use Rattle.tw_machine_declaration.specs.declared.declaration.Named.{Named}
use Rattle.tw_machine_file.specs.Machine.{declared}
use Rattle.tw_machine_file.specs.Shared.{file_field}
use Rattle.tw_machine_file.proofs.texts.declared_of.Given as goal

-- what has come, and what is to come
abbrev pub invariant-loop-named : goal.invariant-loop-named
invariant-loop-named l =
    let kinds = λ (names : List Named). declared (map file_field l.fields) (map name names) in
    declarations l.declared.items ++ kinds (drop l.named-index l.names) ≡ kinds l.names
