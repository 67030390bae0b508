-- The mailboxes so far are empty.
use Rattle.std.proofs.Common.{◌≡◌, ◌<◌, ℕ, true}
use Rattle.tw_theory.specs.Exchange.{is_empty}
use Rattle.tw_theory.specs.Executive.{mail_of}
use Rattle.tw_exchange.proofs.idle.all_empty.Given as goal

abbrev pub invariant-loop-component : goal.invariant-loop-component
invariant-loop-component g l = (d : ℕ) → d < l.component → is_empty (mail_of l.executive.world.mail d) ≡ true
