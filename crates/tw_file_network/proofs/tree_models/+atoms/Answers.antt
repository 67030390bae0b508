use Rattle.std.proofs.Common.{◌≡◌, ◌+◌, ◌≤◌, ℕ, arith, min}
use Rattle.tw_file_network.proofs.ManyAtoms.{counted_here}
use Rattle.tw_file_network.proofs.tree_models.+atoms.Goals as goal

-- one part more
more : (count n here left all sum : ℕ) → sum ≡ min (count + n) 1025 → min (count + here) 1025 ≡ all → min here 1025 ≡ min (n + left) 1025 → min (sum + left) 1025 ≡ all
more count n here left all sum is before at = grind arith

small : (count sum : ℕ) → sum ≡ min count 1025 → sum ≤ 1025
small count sum is = omega arith

pub atoms-loop-part-preserved : goal.atoms-loop-part-preserved
atoms-loop-part-preserved t c =
    record {
      rest = more c.loop-part.count c.part_atoms.result _ _ _ _ c.min-count.ensures c.loop-part.invariant.rest
          (counted_here c.args.draft.now.parts.items c.deref-part-items.result.now c.loop-part.part-index c.loop-part-item.result c.deref-part-items.ensures.value c.loop-part-test.true c.loop-part-item.is
          c.part_atoms.result c.part_atoms.ensures.value);
      small = small _ _ c.min-count.ensures;
    }
