-- Machines by hand: the adder of `machine-tally`, the line of `machine-ring`, parts of the pool of `machine-pool`, and lists.
use Rattle.std.specs.Prelude.{◌≡◌, pos, List, [], ◌∷◌, ◌++◌, true, false, filter_map, flat_map, replicate}
use Rattle.tw_machine.specs.declared.language.Measure.TheVariants.{Length, Room, Front}
use Rattle.tw_machine.specs.declared.language.Leaf.TheVariants as leaf
use Rattle.tw_machine.specs.declared.language.Unary.TheVariants as unary
use Rattle.tw_machine.specs.declared.language.Binary.TheVariants as binary
use Rattle.tw_machine.specs.declared.language.Expr.TheVariants.{Plain}
use Rattle.tw_machine.specs.declared.language.Target.TheVariants.{Single}
use Rattle.tw_machine.specs.declared.language.Change.TheVariants as change
use Rattle.tw_machine.specs.declared.language.Position.TheVariants.{End, Given as AtPlace}
use Rattle.tw_machine.specs.declared.language.Which.TheVariants.{Foremost}
use Rattle.tw_machine.specs.declared.language.Statement.TheVariants as m
use Rattle.tw_machine_text.specs.declared.words.Builtin.TheVariants.{Value, Now}
use Rattle.tw_machine_text.specs.declared.words.SourceChange.TheVariants.{Set, Add}
use Rattle.tw_machine_text.specs.declared.words.Operator.TheVariants.{Comma, Equal, Greater, Plus}
use Rattle.tw_machine_text.specs.declared.words.Deed.TheVariants.{Pop, Clear}
use Rattle.tw_machine_text.specs.declared.words.Verb.TheVariants.{Push, Put}
use Rattle.tw_machine_text.specs.Letters.{own, own_names}
use Rattle.tw_machine_text.specs.Tree.{Tree, Number, Name, Known, Indexed, Call, RandomBelow, Binary, SourceStatement, Assign, Act, Treat, Draw, Wait, If, Repeat, Block, Empty, Then, One}
use Rattle.tw_machine_declaration.specs.declared.declaration.Constant.TheVariants as c
use Rattle.tw_machine_declaration.specs.Seen.{Declares, Given, register, list_parameter, table, list_table}
use Rattle.tw_machine_declaration.specs.declared.names.Standing.{Standing}
use Rattle.tw_machine_declaration.specs.declared.names.Standing.TheVariants as s
use Rattle.tw_machine_declaration.specs.Names.{given_numbers, lists_taken, numbers, own_standings}
use Rattle.tw_machine.specs.Seen.{one, two, both, branch, repeated}
use Rattle.tw_machine_compiler.specs.Statements.{statement, block}
use Rattle.tw_machine_compiler.specs.Rows.{row_of, twice}
use Rattle.tw_machine_declaration.specs.Work.{statement_work, block_work}

-- behind the functions' names, which nothing else has
abbrev pub behind_functions : List Standing → List Standing
behind_functions own = replicate own_names s.Nothing ++ own

abbrev pub then : Block → SourceStatement → Block
then before last = Then before last false

-- registers `count`, `sum`, `last`: the first names that are declared, the cells 0 to 2
abbrev pub adder : List Standing
adder = s.Cell 0 ∷ s.Cell 1 ∷ s.Cell 2 ∷ []

abbrev pub adder_names : Type 0
adder_names =
    (given : Given) → own_standings given (lists_taken given) (register (c.Number (pos 0)) ∷ register (c.Number (pos 0)) ∷ register (c.Number (pos 0)) ∷ []) ≡ adder

-- count += 1, sum += value, last = value
abbrev pub adder_external : Block
adder_external = then (then (then Empty (Assign (Name (own 0)) Add (Number 1))) (Assign (Name (own 1)) Add (Known Value))) (Assign (Name (own 2)) Set (Known Value))

abbrev pub adder_adds : Type 0
adder_adds =
    block (behind_functions adder) adder_external
    ≡ both (both (both m.Skip (m.Alter change.Add (Single 0) (Plain (leaf.Number (pos 1))))) (m.Alter change.Add (Single 1) (Plain leaf.Value))) (m.Set (Single 2) (Plain leaf.Value))

-- a parameter `service` of 2, a register `dropped`, a queue `jobs` with room for 64: the first names that are declared
abbrev pub line : List Standing
line = behind_functions (s.Number (pos 2) ∷ s.Cell 0 ∷ s.Queue 0 64 ∷ [])

abbrev pub length_of_jobs : Tree
length_of_jobs = Call 3 (Name (own 2))

-- pop jobs, if length(jobs) > 0 { wait service }
abbrev pub line_internal : Block
line_internal = then (then Empty (Treat Pop (Name (own 2)))) (If (One (Binary Greater length_of_jobs (Number 0)) (then Empty (Wait (Name (own 0))))))

abbrev pub line_serves : Type 0
line_serves =
    block line line_internal
    ≡ both (both m.Skip (m.Take (Single 0) Foremost)) (branch (two binary.Greater (Plain (leaf.Queue Length 0)) (Plain (leaf.Number (pos 0)))) (both m.Skip (m.Wait (Plain (leaf.Number (pos 2))))) m.Skip)

-- `pop jobs` is 2, the `if` 1, its test 4 and its block 2
abbrev pub line_computes : Type 0
line_computes = block_work line line_internal ≡ 9

-- clear jobs
abbrev pub clear_jobs : SourceStatement
clear_jobs = Treat Clear (Name (own 2))

abbrev pub line_clears : Type 0
line_clears = statement line clear_jobs ≡ m.Clear (Single 0) 64

-- two nodes, and the room of `jobs` more
abbrev pub clear_computes : Type 0
clear_computes = statement_work line clear_jobs ≡ 66

-- dropped += length(jobs) == room(jobs)
abbrev pub line_drops : Type 0
line_drops =
    statement line (Assign (Name (own 1)) Add (Binary Equal length_of_jobs (Call 4 (Name (own 2)))))
    ≡ m.Alter change.Add (Single 0) (two binary.Equal (Plain (leaf.Queue Length 0)) (Plain (leaf.Queue Room 0)))

-- push jobs value
abbrev pub line_takes : Type 0
line_takes = statement line (Act Push (Name (own 2)) (Known Value)) ≡ m.Put (Single 0) End (Plain leaf.Value)

-- parameters `servers` and `places` of 3, a register `end`, queues `busy`, `who`, `waiting`, a table `service` of 20: the first names that are declared
abbrev pub pool : List Standing
pool = behind_functions (s.Number (pos 3) ∷ s.Number (pos 3) ∷ s.Cell 0 ∷ s.Queue 0 3 ∷ s.Queue 1 3 ∷ s.Queue 2 3 ∷ s.Table (record { first = 0; count = 20 }) ∷ [])

-- end = now + service[random(20)]
abbrev pub pool_draws : Type 0
pool_draws =
    statement pool (Assign (Name (own 2)) Set (Binary Plus (Known Now) (Indexed (own 6) (RandomBelow (Number 20)))))
    ≡ m.Set (Single 0) (two binary.Plus (Plain leaf.Now) (one (unary.Table (record { first = 0; count = 20 })) (one unary.RandomBelow (Plain (leaf.Number (pos 20))))))

-- end = length(service): the number of numbers, which is one node
abbrev pub pool_counts : Type 0
pool_counts = (statement pool (Assign (Name (own 2)) Set (Name (own 6))) ≡ m.Set (Single 0) (Plain (leaf.Number (pos 20)))) × (statement_work pool (Assign (Name (own 2)) Set (Name (own 6))) ≡ 3)

-- put who place(busy, end), front(waiting)
abbrev pub pool_put : SourceStatement
pool_put = Act Put (Name (own 4)) (Binary Comma (Call 9 (Binary Comma (Name (own 3)) (Name (own 2)))) (Call 5 (Name (own 5))))

abbrev pub pool_puts : Type 0
pool_puts = statement pool pool_put ≡ m.Put (Single 1) (AtPlace (one (unary.Place 0) (Plain (leaf.Register 0)))) (Plain (leaf.Queue Front 2))

-- seven nodes, and the rooms of `busy` and `who` more
abbrev pub pool_computes : Type 0
pool_computes = statement_work pool pool_put ≡ 13

-- repeat places { draw }
abbrev pub pool_repeats : Type 0
pool_repeats = statement pool (Repeat (Name (own 1)) (then Empty Draw)) ≡ repeated 3 (both m.Skip m.Draw)

-- `repeat` is 2, and three turns of 1 each
abbrev pub pool_turns : Type 0
pool_turns = statement_work pool (Repeat (Name (own 1)) (then Empty Draw)) ≡ 5

-- a register `a`, an array register `b` of two, a queue `q`, arrays `r` of two queues and `u` of as many as a parameter says of which nothing is given: the first names that are declared
abbrev pub shows : List Standing
shows = behind_functions (s.Cell 0 ∷ s.Cells (record { first = 1; count = 2 }) ∷ s.Queue 0 4 ∷ s.Queues (record { first = 1; count = 2 }) 3 ∷ s.Queues (record { first = 3; count = 0 }) 3 ∷ [])

-- b, a, b
abbrev pub array_twice : Type 0
array_twice = twice (filter_map (row_of shows) (Name (own 1) ∷ Name (own 0) ∷ Name (own 1) ∷ [])) ≡ true

-- r[1], q, r[5]: past the end is the last
abbrev pub last_twice : Type 0
last_twice = twice (filter_map (row_of shows) (Indexed (own 3) (Number 1) ∷ Name (own 2) ∷ Indexed (own 3) (Number 5) ∷ [])) ≡ true

-- a, a, b, q, r[0], r[1], b[0], b[0], u[0], u[1]: what is an expression may stand there again
abbrev pub none_twice : Type 0
none_twice =
    twice (filter_map (row_of shows) (Name (own 0) ∷ Name (own 0) ∷ Name (own 1) ∷ Name (own 2) ∷ Indexed (own 3) (Number 0) ∷ Indexed (own 3) (Number 1) ∷ Indexed (own 1) (Number 0) ∷ Indexed (own 1) (Number 0) ∷ Indexed (own 4) (Number 0) ∷ Indexed (own 4) (Number 1) ∷ [])) ≡ false

-- ---- lists

-- a component's two lists
abbrev pub two_lists : Given
two_lists = record { numbers = []; lists = (pos 7 ∷ pos 8 ∷ pos 9 ∷ []) ∷ (pos 4 ∷ []) ∷ [] }

-- three tables that are named after them, two of them after the second, and one that has its own numbers
abbrev pub reader : List Declares
reader = list_parameter 0 ∷ list_parameter 1 ∷ list_table 1 ∷ table (pos 1 ∷ pos 2 ∷ []) ∷ list_table 0 ∷ list_table 1 ∷ []

-- tables of one list are one and the same
abbrev pub lists_once : Type 0
lists_once =
    own_standings two_lists (lists_taken two_lists) reader
    ≡ s.Nothing ∷ s.Nothing ∷ s.Table (record { first = 3; count = 1 }) ∷ s.Table (record { first = 4; count = 2 }) ∷ s.Table (record { first = 0; count = 3 }) ∷ s.Table (record { first = 3; count = 1 }) ∷ []

-- and its numbers count once
abbrev pub numbers_once : Type 0
numbers_once = given_numbers two_lists ++ flat_map numbers reader ≡ pos 7 ∷ pos 8 ∷ pos 9 ∷ pos 4 ∷ pos 1 ∷ pos 2 ∷ []
