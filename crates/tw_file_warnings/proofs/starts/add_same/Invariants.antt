use Rattle.std.proofs.Common.{◌≡◌, ◌++◌, [], drop, map, take}
use Rattle.tw_machine_warnings.specs.Warning.{warning}
use Rattle.tw_file_warnings.specs.StartViews.{start}
use Rattle.tw_file_warnings.specs.Starts.{same_starts}
use Rattle.tw_file_warnings.proofs.starts.add_same.Given as goal

-- what has come, and what is to come behind those before it
abbrev pub invariant-loop-index : goal.invariant-loop-index
invariant-loop-index l =
    map warning l.warnings.items ++ same_starts (map start (take l.index l.starts)) (map start (drop l.index l.starts))
    ≡ map warning l.fn.warnings.items ++ same_starts [] (map start l.starts)
