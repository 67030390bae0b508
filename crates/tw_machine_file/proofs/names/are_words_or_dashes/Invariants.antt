use Rattle.std.proofs.Common.{◌≡◌, drop}
use Rattle.std.specs.List.{list_all}
use Rattle.tw_machine_file.specs.Names.{is_word_or_dash}
use Rattle.tw_machine_file.proofs.names.are_words_or_dashes.Given as goal

abbrev pub invariant-loop-c : goal.invariant-loop-c
invariant-loop-c l = list_all is_word_or_dash (drop l.c-index l.text) ≡ list_all is_word_or_dash l.text
