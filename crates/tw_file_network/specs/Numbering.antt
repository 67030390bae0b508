-- The numbers that a map keeps, as a function from names.
use Rattle.std.specs.Prelude.{ℕ, List, unwrap_or}
use Rattle.std.specs.Str.{bytes_eq}
use Rattle.indexmap.specs.IndexMap.{get_by}
use Rattle.tw_file_network.specs.declared.numbers.Numbers.{Numbers}

-- the number under a name, or the count where there is none
abbrev pub numbering : Numbers → List ℕ → ℕ
numbering n name = unwrap_or (get_by (λ k. bytes_eq name k.now) n.by_name) n.count
