use Rattle.std.proofs.Common.{◌≡◌, drop}
use Rattle.tw_file_settings.specs.Texts.{has_twice, targets_of}
use Rattle.tw_file_settings.proofs.assignment.has_twice.Given as goal

-- none of those before stands again
abbrev pub invariant-loop-place : goal.invariant-loop-place
invariant-loop-place l = has_twice (targets_of (drop l.place l.assignments)) ≡ has_twice (targets_of l.assignments)
