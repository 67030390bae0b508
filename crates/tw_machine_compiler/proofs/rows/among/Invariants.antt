use Rattle.std.proofs.Common.{◌≡◌, drop, map}
use Rattle.tw_machine_declaration.specs.Seen.{value}
use Rattle.tw_machine_compiler.specs.Rows.{rows, among}
use Rattle.tw_machine_compiler.proofs.rows.among.Given as goal

-- what is to come decides
abbrev pub invariant-loop-word : goal.invariant-loop-word
invariant-loop-word l = among l.one (rows l.standings (map value (drop l.word-index l.words))) ≡ among l.one (rows l.standings (map value l.words))
