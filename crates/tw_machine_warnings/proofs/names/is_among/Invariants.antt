use Rattle.std.proofs.Common.{◌≡◌, drop}
use Rattle.std.specs.List.{list_any}
use Rattle.tw_machine_warnings.specs.Names.{is_parameter}
use Rattle.tw_machine_warnings.proofs.names.is_among.Given as goal

abbrev pub invariant-loop-constant : goal.invariant-loop-constant
invariant-loop-constant l = list_any (is_parameter l.place) (drop l.constant-index l.constants) ≡ list_any (is_parameter l.place) l.constants
