use Rattle.std.proofs.Common.{◌≡◌, [], drop, map}
use Rattle.serde_json.specs.View.{items_view}
use Rattle.tw_machine_text.specs.Views.{body}
use Rattle.tw_machine_file.specs.Procedures.{procedures_of}
use Rattle.tw_machine_file.specs.Texts.{language_of}
use Rattle.tw_machine_file.proofs.procedures.procedures_of.Given as goal

-- what has come, and what is to come
abbrev pub invariant-loop-place : goal.invariant-loop-place
invariant-loop-place l =
    let language = language_of l.language in
    procedures_of language l.place (map body l.procedures.items) (items_view (drop l.place l.values)) ≡ procedures_of language 0 [] (items_view l.values)
