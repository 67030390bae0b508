-- The texts of a machine: programs, and expressions in members.
use Rattle.std.specs.Prelude.{◌++◌, ◌∷◌, [], ℕ, ℤ, List, Option, Some, None, Result, Ok, option_and_then, option_map}
use Rattle.std.specs.Option.{ok_or, option_or}
use Rattle.serde_json.specs.Data.{Data, Items, no_items, item}
use Rattle.serde_json.specs.Find.{as_array, as_str}
use Rattle.tw_machine_text.specs.Tree.{Block, Empty, Tree}
use Rattle.tw_machine_text.specs.Kinds.{kinds_of}
use Rattle.tw_machine_text.specs.TextViews.{names_of, declarations}
use Rattle.tw_machine_text.specs.declared.kinds.Meaning.{Meaning}
use Rattle.tw_machine_text.specs.declared.kinds.Member.{Member}
use Rattle.tw_machine_text.specs.declared.kinds.Timing.{Timing}
use Rattle.tw_machine_declaration.specs.Seen.{Value, whole, tree}
use Rattle.tw_machine_file.specs.Constants.{whole_of}
use Rattle.tw_machine_file.specs.Fault.{Fault, text, once, made, expected}
use Rattle.tw_machine_file.specs.Said.{program_said, tree_said}
use Rattle.tw_machine_file.specs.declared.texts.Language as lent
use Rattle.tw_machine_file.specs.declared.fault.Part.{Part}
use Rattle.tw_machine_file.specs.declared.fault.Why.TheVariants as why

-- the names that are declared, in order, the timers, if there are any, and what each name stands for
pub record Language : Type 0 where
  pub names : List (List ℕ)
  pub timing : Option Timing
  pub kinds : List Meaning

-- what is said, or that the text of this part says nothing
abbrev pub said : {A : Type 0} → Part → Option A → Result A Fault
said part o = ok_or o (text part)

-- ---- programs

-- lines, each after a newline
abbrev pub more_lines : Items → Option (List ℕ)
more_lines no_items = Some []
more_lines (item d ds) = option_and_then (λ line. option_map (λ rest. 10 ∷ line ++ rest) (more_lines ds)) (as_str d)

-- lines, with a newline between two
abbrev pub lines : Items → Option (List ℕ)
lines no_items = Some []
lines (item d ds) = option_and_then (λ line. option_map (λ rest. line ++ rest) (more_lines ds)) (as_str d)

-- a text, or an array of texts, which are its lines
abbrev pub text_of : Data → Option (List ℕ)
text_of d = option_or (as_str d) (option_and_then lines (as_array d))

-- the program of a text that may use procedures of these programs
abbrev pub program_text : Language → List Block → Part → List ℕ → Result Block Fault
program_text l procedures part t = said part (program_said l.names l.timing l.kinds procedures t)

-- a member that is a program, if there is one
abbrev pub program_in : Language → List Block → Part → Option Data → Result Block Fault
program_in l procedures part None = Ok Empty
program_in l procedures part (Some d) = once (expected part why.Shape (text_of d)) (program_text l procedures part)

-- ---- expressions

-- the expression, the queue or the array register of a text
abbrev pub tree_text : Language → Part → Member → List ℕ → Result Tree Fault
tree_text l part member t = said part (tree_said member l.names l.timing l.kinds t)

-- the text of a member
abbrev pub tree_in : Language → Part → Member → Data → Result Tree Fault
tree_in l part member d = once (expected part why.Shape (as_str d)) (tree_text l part member)

abbrev pub value_by : Language → Part → Member → Data → Option ℤ → Result Value Fault
value_by l part member d (Some n) = Ok (whole n)
value_by l part member d None = made tree (tree_in l part member d)

-- a whole number, or a text
abbrev pub value_in : Language → Part → Member → Data → Result Value Fault
value_in l part member d = value_by l part member d (whole_of d)

-- ---- the same of names that are lent to the texts' reader

unfoldable pub language_of : lent.Language → Language
language_of l = record { names = names_of l.declared.now; timing = l.timing; kinds = kinds_of (declarations l.declared.now) }
