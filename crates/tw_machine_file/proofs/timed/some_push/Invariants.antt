use Rattle.std.proofs.Common.{◌≡◌, drop, map}
use Rattle.std.specs.List.{list_any}
use Rattle.tw_machine_text.specs.Views.{body}
use Rattle.tw_machine_declaration.specs.Timed.{pushes}
use Rattle.tw_machine_file.proofs.timed.some_push.Given as goal

-- what is to come decides
abbrev pub invariant-loop-program : goal.invariant-loop-program
invariant-loop-program l = list_any (pushes l.queue) (map body (drop l.program-index l.programs)) ≡ list_any (pushes l.queue) (map body l.programs)
