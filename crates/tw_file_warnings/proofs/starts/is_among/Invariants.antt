use Rattle.std.proofs.Common.{◌≡◌, drop, map}
use Rattle.std.specs.List.{list_any}
use Rattle.tw_file_warnings.specs.StartViews.{start}
use Rattle.tw_file_warnings.specs.Starts.{is_start}
use Rattle.tw_file_warnings.proofs.starts.is_among.Given as goal

-- none of those that have come is
abbrev pub invariant-loop-one : goal.invariant-loop-one
invariant-loop-one l = list_any (is_start l.random) (map start (drop l.one-index l.starts)) ≡ list_any (is_start l.random) (map start l.starts)
