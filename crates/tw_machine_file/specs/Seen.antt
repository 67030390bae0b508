-- A machine of a file without where its parts lie in memory.
use Rattle.std.specs.Prelude.{ℕ, Bool, List, Option, map, string_bytes}
use Rattle.tw_machine_text.specs.Tree.{Block}
use Rattle.tw_machine_text.specs.Views.{body}
use Rattle.tw_machine_text.specs.declared.kinds.Kind.{Kind}
use Rattle.tw_machine_text.specs.declared.kinds.Kind.TheVariants as kind
use Rattle.tw_machine_declaration.specs.Seen.{Declaration, Declares, Name, Output, Value, parameter, list_parameter, register, registers, queue, queues, table, list_table, observation, procedure, timer, timer_array, fixed, field, number, together, greatest, due, next, declaration, name, output, value}
use Rattle.tw_machine_declaration.specs.declared.declaration.Constant.{Constant}
use Rattle.tw_machine_declaration.specs.declared.declaration.Timer.{Timer}
use Rattle.tw_machine_file.specs.Constants.{Numbers, numbers_in}
use Rattle.tw_machine_file.specs.declared.declarations.Scope as rust
use Rattle.tw_machine_file.specs.declared.machine.FileMachine.{FileMachine}
use Rattle.tw_machine_file.specs.declared.machine.Starts as rust_starts
use Rattle.tw_machine_file.specs.declared.machine.Texts as rust_texts

-- what something is that a name declares, for the texts' reader; no text names what is hidden
abbrev pub kind_of : Declares → Kind
kind_of (parameter k) = kind.Parameter
kind_of (list_parameter k) = kind.ListParameter
kind_of (register c) = kind.Register
kind_of (registers cs) = kind.RegisterArray
kind_of (queue c) = kind.Queue
kind_of (queues n c) = kind.QueueArray
kind_of (table ns) = kind.Table
kind_of (list_table k) = kind.Table
kind_of observation = kind.Observation
kind_of (procedure k) = kind.Procedure k
kind_of (timer before) = kind.Timer before
kind_of (timer_array before last) = kind.TimerArray before last
kind_of (fixed n) = kind.Constant n
kind_of field = kind.Nothing
kind_of (number c) = kind.Nothing
kind_of (together ts) = kind.Nothing
kind_of (greatest t) = kind.Nothing
kind_of (due ts) = kind.Nothing
kind_of (next ts) = kind.Nothing

-- what is declared so far: all names in order, and of these those that stand for numbers, the parameters that are lists, and the timers; whether the machine has a member `timers`
pub record Scope : Type 0 where
  pub names : List Name
  pub numbers : Numbers
  pub lists : List (List ℕ)
  pub timed : Bool
  pub timers : List Timer

abbrev pub scope : rust.Scope → Scope
scope s = record { names = map name s.names.items; numbers = numbers_in s.numbers; lists = map string_bytes s.lists.items; timed = s.timed; timers = s.timers.items }

-- what a machine does, sends and shows, and whether it sends at any time
pub record Texts : Type 0 where
  pub sends : Bool
  pub internal : Block
  pub external : Block
  pub outputs : List Output
  pub words : List Value

abbrev pub texts : rust_texts.Texts → Texts
texts t = record { sends = t.sends; internal = body t.internal; external = body t.external; outputs = map output t.outputs.items; words = map value t.words.items }

-- what a machine starts with, and its greatest wait
pub record Starts : Type 0 where
  pub random : Constant
  pub first : Option Constant
  pub longest : Option Constant

abbrev pub starts : rust_starts.Starts → Starts
starts s = record { random = s.random; first = s.first; longest = s.longest }

-- its name, what it declares, and the names of its parameters that are numbers and of those that are lists
pub record Machine : Type 0 where
  pub name : List ℕ
  pub declaration : Declaration
  pub numbers : List (List ℕ)
  pub lists : List (List ℕ)

abbrev pub machine : FileMachine → Machine
machine m = record { name = string_bytes m.name; declaration = declaration m.declaration; numbers = map string_bytes m.numbers.items; lists = map string_bytes m.lists.items }
