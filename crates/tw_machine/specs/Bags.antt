-- The items of a bag one after another, with the times at which it comes.
--     run_bag a numbers t bag s      the state after a statement for each item
--     kept_bag, undone_bag      what this logs, and how it is taken back
--     input_of t bag k      what is read for the item at a place
use Rattle.std.specs.Prelude.{ℕ, ℤ, List}
use Rattle.tw_atomic.specs.Atomic.{Bag}
use Rattle.tw_machine.specs.declared.language.Statement.{Statement}
use Rattle.tw_machine.specs.declared.memory.Input.{Input}
use Rattle.tw_machine.specs.declared.memory.State.{State}
use Rattle.tw_machine.specs.declared.items.Times.{Times}
use Rattle.tw_machine.specs.Undoing.{Past}
use Rattle.tw_machine.specs.Machine.{input_at, run_all, kept_all, undone_all}

abbrev pub run_bag : Statement → List ℤ → Times → Bag → State → State
run_bag a numbers t bag s = run_all a numbers t.elapsed t.left t.tick bag s

abbrev pub kept_bag : Statement → List ℤ → Times → Bag → State → List ℤ → List ℤ
kept_bag a numbers t bag s log = kept_all a numbers t.elapsed t.left t.tick bag s log

abbrev pub undone_bag : Statement → List ℤ → Times → Bag → Past → Past
undone_bag a numbers t bag u = undone_all a numbers t.elapsed t.left t.tick bag u

abbrev pub input_of : Times → Bag → ℕ → Input
input_of t bag k = input_at t.elapsed t.left t.tick bag k
