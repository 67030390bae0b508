use Rattle.std.proofs.Common.{◌≡◌, ◌+◌, ◌≤◌, drop, length, min}
use Rattle.tw_nested.specs.Tree.{models_in, parts_of}
use Rattle.tw_file_network.proofs.tree_models.+atoms.Given as goal

-- what has come and what is to come
abbrev pub invariant-atoms-loop-part : goal.invariant-atoms-loop-part
invariant-atoms-loop-part l =
    record {
      rest : min (l.count + length (models_in (parts_of (drop l.part-index l.draft.parts.items)))) 1025 ≡ min (length (models_in (parts_of l.draft.parts.items))) 1025;
      small : l.count ≤ 1025;
    }
