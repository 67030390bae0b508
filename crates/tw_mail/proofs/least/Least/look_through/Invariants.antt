use Rattle.std.proofs.Common.{take}
use Rattle.tw_mail.specs.Mail.{IsLeastOf}
use Rattle.tw_mail.proofs.least.Least.look_through.Given as goal

abbrev pub invariant-loop-place : goal.invariant-loop-place
invariant-loop-place l = IsLeastOf l.self.stamp l.self.count (take l.place l.items)
