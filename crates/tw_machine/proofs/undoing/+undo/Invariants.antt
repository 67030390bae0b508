use Rattle.std.proofs.Common.{◌≡◌}
use Rattle.std.specs.Prelude.{reverse}
use Rattle.tw_machine.specs.Running.{at_turn}
use Rattle.tw_machine.specs.Undoing.{past, undone, undone_turns}
use Rattle.tw_machine.proofs.undoing.+undo.Given as goal

abbrev pub decreases-undo : goal.decreases-undo
decreases-undo l = goal.size-undo l

-- the turns that are left are to be taken back
abbrev pub invariant-loop-more : goal.invariant-loop-more
invariant-loop-more l = undone_turns l.more (λ k t. undone l.inner.value l.numbers (at_turn l.input k) t) (past l.memory (reverse l.log.items))
    ≡ undone_turns l.initial.more (λ k t. undone l.inner.value l.numbers (at_turn l.input k) t) (past l.initial.memory (reverse l.initial.log.items))

abbrev pub decreases-loop-more : goal.decreases-loop-more
decreases-loop-more l = l.more
