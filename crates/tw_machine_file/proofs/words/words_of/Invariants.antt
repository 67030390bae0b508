use Rattle.std.proofs.Common.{◌≡◌, [], drop, map}
use Rattle.serde_json.specs.View.{items_view}
use Rattle.tw_machine_declaration.specs.Seen.{value}
use Rattle.tw_machine_file.specs.Texts.{language_of}
use Rattle.tw_machine_file.specs.Words.{words_of}
use Rattle.tw_machine_file.proofs.Loops.{behind}
use Rattle.tw_machine_file.proofs.words.words_of.Given as goal

-- what has come, and what is to come
abbrev pub invariant-loop-index : goal.invariant-loop-index
invariant-loop-index l =
    behind (map value l.words.items) (words_of (language_of l.language) l.index (map value l.words.items) (items_view (drop l.index l.values)))
    ≡ words_of (language_of l.language) 0 [] (items_view l.values)
