use Rattle.std.proofs.Common.{◌≡◌, ◌++◌, drop, map}
use Rattle.tw_machine_declaration.specs.Seen.{value}
use Rattle.tw_machine.specs.Seen.{seen_word}
use Rattle.tw_machine_compiler.specs.Program.{shown_word}
use Rattle.tw_machine_compiler.proofs.members.words.Given as goal

-- what has come and what is to come
abbrev pub invariant-loop-text : goal.invariant-loop-text
invariant-loop-text l = map seen_word l.words.items ++ map (shown_word l.standings) (map value (drop l.text-index l.texts)) ≡ map (shown_word l.standings) (map value l.texts)
