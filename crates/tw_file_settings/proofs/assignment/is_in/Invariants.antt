use Rattle.std.proofs.Common.{◌≡◌, drop}
use Rattle.tw_file_settings.specs.Texts.{is_in, targets_of}
use Rattle.tw_file_settings.proofs.assignment.is_in.Given as goal

-- none of those before is it
abbrev pub invariant-loop-assignment : goal.invariant-loop-assignment
invariant-loop-assignment l = is_in l.target (targets_of (drop l.assignment-index l.assignments)) ≡ is_in l.target (targets_of l.assignments)
