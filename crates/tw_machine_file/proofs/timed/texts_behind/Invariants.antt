use Rattle.std.proofs.Common.{◌≡◌, drop}
use Rattle.std.specs.Prelude.{option_map}
use Rattle.serde_json.specs.View.{view, items_view}
use Rattle.tw_machine_declaration.specs.TimedViews.{named}
use Rattle.tw_machine_file.specs.Texts.{language_of}
use Rattle.tw_machine_file.specs.Timed.{no_texts, texts_behind}
use Rattle.tw_machine_file.specs.TimedViews.{timer_texts}
use Rattle.tw_machine_file.proofs.timed.texts_behind.Given as goal

-- what has come, and what is to come
abbrev pub invariant-loop-entry : goal.invariant-loop-entry
invariant-loop-entry l =
    let said = option_map (λ v. view v.now) l.procedures in
    texts_behind (language_of l.language) (named l.names) said (timer_texts l.all) (items_view (drop l.entry-index l.entries))
    ≡ texts_behind (language_of l.language) (named l.names) said no_texts (items_view l.entries)
