use Rattle.std.proofs.Common.{◌≡◌, ◌++◌, drop, map}
use Rattle.tw_machine_declaration.specs.Seen.{name, value}
use Rattle.tw_machine_warnings.specs.Machines.{words_warnings}
use Rattle.tw_machine_warnings.specs.Warning.{warning}
use Rattle.tw_machine_warnings.proofs.programs.add_words.Given as goal

-- what has come, and what is to come
abbrev pub invariant-loop-index : goal.invariant-loop-index
invariant-loop-index l =
    map warning l.warnings.items ++ words_warnings l.place l.draws (map name l.names) l.index (map value (drop l.index l.words))
    ≡ map warning l.fn.warnings.items ++ words_warnings l.place l.draws (map name l.names) 0 (map value l.words)
