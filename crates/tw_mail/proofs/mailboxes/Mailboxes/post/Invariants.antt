use Rattle.std.proofs.Common.{◌≡◌, ◌-◌, take}
use Rattle.tw_mail.specs.Mail.{mail}
use Rattle.tw_theory.specs.Executive.{posted}
use Rattle.tw_mail.proofs.mailboxes.Mailboxes.post.Given as goal

abbrev pub invariant-loop-place : goal.invariant-loop-place
invariant-loop-place l = l.self ≡ mail (posted l.fn.self.boxes (take l.place l.items))

-- the items posted are taken back, the last first
abbrev pub invariant-loop-back : goal.invariant-loop-back
invariant-loop-back l = l.self ≡ mail (posted l.fn.self.boxes (take (l.place - l.back) l.items))
