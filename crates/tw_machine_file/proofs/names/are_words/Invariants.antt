use Rattle.std.proofs.Common.{◌≡◌, drop}
use Rattle.std.specs.List.{list_all}
use Rattle.tw_machine_text.specs.Text.{is_word}
use Rattle.tw_machine_file.proofs.names.are_words.Given as goal

abbrev pub invariant-loop-c : goal.invariant-loop-c
invariant-loop-c l = list_all is_word (drop l.c-index l.text) ≡ list_all is_word l.text
