use Rattle.std.proofs.Common.{◌≡◌, ◌+◌, ℕ, List, drop, length, map}
use Rattle.std.specs.Prelude.{unwrap_or}
use Rattle.std.specs.Str.{bytes_eq}
use Rattle.indexmap.specs.IndexMap.{get_by}
use Rattle.tw_file_network.specs.Numbers.{number_of}
use Rattle.tw_file_network.proofs.numbers.Numbers.new.Given as goal

-- the map has the numbers of the names from i on
abbrev pub invariant-loop-i : goal.invariant-loop-i
invariant-loop-i l =
    (name : List ℕ) → unwrap_or (get_by (λ k. bytes_eq name k.now) l.by_name) (length l.fn.names)
    ≡ l.i + number_of (map (λ n. n.now) (drop l.i l.fn.names)) name
