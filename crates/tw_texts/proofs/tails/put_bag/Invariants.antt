use Rattle.std.proofs.Common.{◌≡◌, ◌+◌, ◌*◌, ◌-◌, ◌≤◌, ◌++◌, drop, length, codes}
use Rattle.std.specs.Prelude.{flat_map}
use Rattle.tw_texts.specs.Texts.{item_text}
use Rattle.tw_texts.proofs.tails.put_bag.Given as goal

-- the items from `left` on are written, each behind a blank
abbrev pub invariant-loop-left : goal.invariant-loop-left
invariant-loop-left l =
    (l.left ≤ length l.rest) × (l.start ≤ l.end) × (l.end ≤ l.start + 25 * (length l.rest - l.left))
    × (drop l.start l.line ≡ flat_map (λ x. codes " " ++ item_text x) (drop l.left l.rest) ++ drop l.end l.fn.line)

abbrev pub decreases-loop-left : goal.decreases-loop-left
decreases-loop-left l = l.left
