use Rattle.std.proofs.Common.{◌≡◌, map, replicate, []}
use Rattle.tw_mail.specs.Mail.{Held}
use Rattle.tw_mail.proofs.mailboxes.Mailboxes.new.Given as goal

abbrev pub invariant-loop : goal.invariant-loop
invariant-loop l = record {
  empty : map (λ (b : Held). b.items) l.boxes.items ≡ replicate l.counter [];
}
