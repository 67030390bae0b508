use Rattle.std.proofs.Common.{◌≡◌, ◌+◌, ◌*◌, ◌-◌, ◌≤◌, ◌++◌, drop, length, codes}
use Rattle.std.specs.Prelude.{flat_map}
use Rattle.std.specs.Fmt.{signed_decimal}
use Rattle.tw_texts.proofs.tails.put_words.Given as goal

-- the words from `left` on are written, each behind a blank
abbrev pub invariant-loop-left : goal.invariant-loop-left
invariant-loop-left l =
    (l.left ≤ length l.rest) × (l.start ≤ l.end) × (l.end ≤ l.start + 41 * (length l.rest - l.left))
    × (drop l.start l.line ≡ flat_map (λ x. codes " " ++ signed_decimal x) (drop l.left l.rest) ++ drop l.end l.fn.line)

abbrev pub decreases-loop-left : goal.decreases-loop-left
decreases-loop-left l = l.left
