-- What a machine declares, and what a component gives, without where their parts lie in memory.
use Rattle.std.specs.Prelude.{ℕ, ℤ, List, Option, map, option_map, string_bytes}
use Rattle.tw_machine_text.specs.Tree.{Tree, Block}
use Rattle.tw_machine_text.specs.Views as program
use Rattle.tw_machine_declaration.specs.declared.declaration.Constant.{Constant}
use Rattle.tw_machine_declaration.specs.declared.declaration.Declaration as rust_declaration
use Rattle.tw_machine_declaration.specs.declared.declaration.Given as rust_given
use Rattle.tw_machine_declaration.specs.declared.declaration.Named.{Named}
use Rattle.tw_machine_declaration.specs.declared.declaration.OutputText.{OutputText}
use Rattle.tw_machine_declaration.specs.declared.declaration.Thing.{Thing}
use Rattle.tw_machine_declaration.specs.declared.declaration.Thing.TheVariants as t
use Rattle.tw_machine_declaration.specs.declared.declaration.Timer.{Timer}
use Rattle.tw_machine_declaration.specs.declared.declaration.Timers as rust_timers
use Rattle.tw_machine_declaration.specs.declared.declaration.Value as rust_value
use Rattle.tw_machine_declaration.specs.declared.declaration.Value.TheVariants as v

-- the timers of a machine, in order, and the least number of ticks for which one runs
pub record Timers : Type 0 where
  pub each : List Timer
  pub least : Option Constant

abbrev pub timers : rust_timers.Timers → Timers
timers ts = record { each = ts.each.items; least = ts.least }

-- what a machine declares by a name: parameters, tables of lists and procedures by their place among those of their kind; a timer by the hidden names that say how many are before it, and, with a count, its greatest index; a number of the file; the name of a field alone. The last five are hidden
pub data Declares : Type 0 where
  parameter : (place : ℕ) → Declares
  list_parameter : (place : ℕ) → Declares
  register : (start : Constant) → Declares
  registers : (starts : List Constant) → Declares
  queue : (room : Constant) → Declares
  queues : (count room : Constant) → Declares
  table : (numbers : List ℤ) → Declares
  list_table : (place : ℕ) → Declares
  observation : Declares
  procedure : (place : ℕ) → Declares
  timer : (before : ℕ) → Declares
  timer_array : (before greatest : ℕ) → Declares
  fixed : (n : ℤ) → Declares
  field : Declares
  number : (c : Constant) → Declares
  together : (ts : List Timer) → Declares
  greatest : (t : Timer) → Declares
  due : (ts : Timers) → Declares
  next : (ts : Timers) → Declares

abbrev pub thing : Thing → Declares
thing (t.Parameter k) = parameter k
thing (t.ListParameter k) = list_parameter k
thing (t.Register c) = register c
thing (t.RegisterArray cs) = registers cs.items
thing (t.Queue c) = queue c
thing (t.QueueArray n c) = queues n c
thing (t.Table ns) = table ns.items
thing (t.ListTable k) = list_table k
thing t.Observation = observation
thing (t.Procedure k) = procedure k
thing (t.Timer before) = timer before
thing (t.TimerArray before last) = timer_array before last
thing (t.Constant n) = fixed n
thing t.Field = field
thing (t.Number c) = number c
thing (t.Together ts) = together ts.items
thing (t.Greatest one) = greatest one
thing (t.Due ts) = due (timers ts)
thing (t.Next ts) = next (timers ts)

-- a name, and what is declared by it
abbrev pub Name : Type 0
Name = List ℕ × Declares

abbrev pub name : Named → Name
name n = (string_bytes n.name, thing n.thing)

-- an expression in a member: a whole number, or the tree of a text
pub data Value : Type 0 where
  whole : (n : ℤ) → Value
  tree : (e : Tree) → Value

abbrev pub value : rust_value.Value → Value
value (v.Number n) = whole n
value (v.Text e) = tree (program.tree e)

-- an entry of what is sent
pub record Output : Type 0 where
  pub port : Value
  pub sent : Value
  pub when : Option Value
  pub each : Option Tree

abbrev pub output : OutputText → Output
output o = record { port = value o.port; sent = value o.value; when = option_map value o.when; each = option_map program.tree o.each }

-- what a machine declares: its names in order, what it starts with, its greatest wait, its timers, and what it does, sends and shows
pub record Declaration : Type 0 where
  pub names : List Name
  pub random : Constant
  pub first : Option Constant
  pub longest : Option Constant
  pub timers : Option Timers
  pub internal : Block
  pub external : Block
  pub outputs : List Output
  pub words : List Value

abbrev pub declaration : rust_declaration.Declaration → Declaration
declaration d = record {
  names = map name d.names.items;
  random = d.random;
  first = d.first;
  longest = d.longest;
  timers = option_map timers d.timers;
  internal = program.body d.internal;
  external = program.body d.external;
  outputs = map output d.outputs.items;
  words = map value d.words.items;
}

-- what a component gives: for each parameter that is a number, and for each that is a list
pub record Given : Type 0 where
  pub numbers : List ℤ
  pub lists : List (List ℤ)

abbrev pub given : rust_given.Given → Given
given g = record { numbers = g.numbers.items; lists = map (λ list. list.items) g.lists.items }
