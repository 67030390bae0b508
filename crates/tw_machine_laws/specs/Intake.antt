-- What the machines of relay and queue do with an item that comes: their first queue takes it, and their first register counts what finds no room.
use Rattle.std.specs.Prelude.{ℕ, pos}
use Rattle.tw_machine.specs.declared.language.Measure.TheVariants.{Length, Room}
use Rattle.tw_machine.specs.declared.language.Leaf.TheVariants as leaf
use Rattle.tw_machine.specs.declared.language.Binary.TheVariants.{Equal}
use Rattle.tw_machine.specs.declared.language.Expr.{Expr}
use Rattle.tw_machine.specs.declared.language.Expr.TheVariants.{Plain}
use Rattle.tw_machine.specs.declared.language.Target.TheVariants.{Single}
use Rattle.tw_machine.specs.declared.language.Change.TheVariants.{Add}
use Rattle.tw_machine.specs.declared.language.Position.TheVariants.{End}
use Rattle.tw_machine.specs.declared.language.Statement.{Statement}
use Rattle.tw_machine.specs.declared.language.Statement.TheVariants.{Skip, Alter, Put, Wait}
use Rattle.tw_machine.specs.Seen.{both, branch, two}

abbrev pub length_of_queue : Expr
length_of_queue = Plain (leaf.Queue Length 0)

-- if length(jobs) == 0 { wait service }
abbrev pub begins : ℕ → Statement
begins wait = branch (two Equal length_of_queue (Plain (leaf.Number (pos 0)))) (both Skip (Wait (Plain (leaf.Number (pos wait))))) Skip

-- dropped += length(jobs) == room(jobs)
abbrev pub drops : Statement
drops = Alter Add (Single 0) (two Equal length_of_queue (Plain (leaf.Queue Room 0)))

-- push jobs value
abbrev pub pushes : Statement
pushes = Put (Single 0) End (Plain leaf.Value)

abbrev pub takes_in : ℕ → Statement
takes_in wait = both (both (both Skip (begins wait)) drops) pushes
