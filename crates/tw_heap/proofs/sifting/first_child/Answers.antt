use Rattle.std.proofs.Common.{◌≡◌, ◌+◌, length, true, arith, sym, subst, ◌∙◌}
use Rattle.tw_heap.specs.Entries.{is_before}
use Rattle.tw_heap.specs.Heap.{at, InOrder}
use Rattle.tw_heap.proofs.HeapMoves.{child_cases, not_back, not_itself, not_child_of}
use Rattle.tw_heap.proofs.sifting.first_child.Goals.{else-right-entries-via-then-right-entries+else-before, else-right-entries-via-else-right-entries}
use Rattle.tw_heap.proofs.sifting.first_child.Goals as goal

pub returns-then-before-clause-first : goal.returns-then-before-clause-first
returns-then-before-clause-first c = λ k is inside.
    let es = c.args.entries.now in
    let left = c.args.place + c.args.place + 1 in
    let right = left + 1 in
    let less : is_before (at es right) (at es left) ≡ true = sym c.before-then-right-entries.ensures ∙ c.if-before.true in
    child_cases (InOrder es right) c.args.place k (not_back (at es right) (at es left) less) (not_itself (at es right)) is

pub returns-else-right-entries-clause-first : goal.returns-else-right-entries-clause-first
returns-else-right-entries-clause-first c = λ k is inside.
    let es = c.args.entries.now in
    let left = c.args.place + c.args.place + 1 in
    elim c.else-right-entries.branch [
      | else-right-entries-via-then-right-entries+else-before w ↦
          child_cases (InOrder es left) c.args.place k (not_itself (at es left)) (sym w.before-then-right-entries.ensures ∙ w.if-before.false) is
      | else-right-entries-via-else-right-entries w ↦
          subst (λ j. InOrder es left j) (sym (not_child_of c.args.place k (length es) is (omega arith) inside)) (not_itself (at es left))
    ]
