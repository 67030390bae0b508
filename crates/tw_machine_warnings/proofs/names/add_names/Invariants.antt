use Rattle.std.proofs.Common.{◌≡◌, ◌+◌, ◌++◌, drop, map}
use Rattle.tw_machine_text.specs.Letters.{own_names}
use Rattle.tw_machine_declaration.specs.Seen.{declaration, name}
use Rattle.tw_machine_warnings.specs.Names.{name_warnings}
use Rattle.tw_machine_warnings.specs.Warning.{warning}
use Rattle.tw_machine_warnings.proofs.names.add_names.Given as goal

-- what has come, and what is to come
abbrev pub invariant-loop-named : goal.invariant-loop-named
invariant-loop-named l =
    record {
      number : l.number ≡ own_names + l.named-index;
      said :
          map warning l.warnings.items ++ name_warnings l.place (declaration l.declaration) l.number (map name (drop l.named-index l.declaration.names.items))
          ≡ map warning l.fn.warnings.items ++ name_warnings l.place (declaration l.declaration) own_names (map name l.declaration.names.items);
    }
