use Rattle.std.proofs.Common.{◌≡◌, take}
use Rattle.tw_msgs.specs.Counting.{signed_count}
use Rattle.tw_msgs.proofs.counting.signed_count.Given as goal

-- the count so far
abbrev pub invariant-loop-item : goal.invariant-loop-item
invariant-loop-item l = l.count ≡ signed_count l.message (take l.item-index l.items)
