use Rattle.std.proofs.Common.{map, take}
use Rattle.tw_file_settings.specs.Texts.{AreRead}
use Rattle.tw_file_settings.proofs.assignment.each_in.Given as goal

-- those before are read
abbrev pub invariant-loop-text : goal.invariant-loop-text
invariant-loop-text l = AreRead (map (λ t. t.now) (take l.text-index l.texts)) l.assignments.items
