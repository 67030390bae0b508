use Rattle.std.proofs.Common.{◌≡◌, ◌++◌, drop, map}
use Rattle.std.specs.Prelude.{flat_map}
use Rattle.tw_machine_compiler.proofs.starts.list_numbers.Given as goal

-- what has come and what is to come
abbrev pub invariant-loop-list : goal.invariant-loop-list
invariant-loop-list l = l.out.items ++ flat_map (λ list. list) (map (λ list. list.items) (drop l.list-index l.lists)) ≡ flat_map (λ list. list) (map (λ list. list.items) l.lists)
