use Rattle.std.proofs.Common.{◌≡◌, ◌+◌, ◌++◌, drop, map}
use Rattle.tw_machine_text.specs.Letters.{own_names}
use Rattle.tw_machine_declaration.specs.Seen.{name}
use Rattle.tw_machine_warnings.specs.Names.{index_warnings}
use Rattle.tw_machine_warnings.specs.Texts.{text}
use Rattle.tw_machine_warnings.specs.Warning.{warning}
use Rattle.tw_machine_warnings.proofs.names.add_indexes.Given as goal

-- what has come, and what is to come
abbrev pub invariant-loop-named : goal.invariant-loop-named
invariant-loop-named l =
    record {
      number : l.number ≡ own_names + l.named-index;
      said :
          map warning l.warnings.items ++ index_warnings l.place (text l.said) l.number (map name (drop l.named-index l.names))
          ≡ map warning l.fn.warnings.items ++ index_warnings l.place (text l.said) own_names (map name l.names);
    }
