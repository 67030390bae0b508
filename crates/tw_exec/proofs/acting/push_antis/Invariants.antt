-- The anti-messages of those so far.
use Rattle.std.proofs.Common.{◌≡◌, ◌++◌, take}
use Rattle.tw_theory.specs.Bundles.{antis}
use Rattle.tw_exec.proofs.acting.push_antis.Given as goal

abbrev pub invariant-loop-message : goal.invariant-loop-message
invariant-loop-message l = l.items.items ≡ l.fn.items.items ++ antis (take l.message-index l.messages)
