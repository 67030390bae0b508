-- The texts of a machine: its programs, what it sends and what it shows.
--     in_text s t, in_machine s d      something stands in a text, in one of a machine's
use Rattle.std.specs.Prelude.{pos, negsuc, ℤ, Bool, true, false, ◌||◌, Option, Some, None, nat_le}
use Rattle.std.specs.List.{list_any}
use Rattle.tw_machine_text.specs.Tree.{Tree, Block}
use Rattle.tw_machine_text.specs.Views.{body}
use Rattle.tw_machine_declaration.specs.Seen as plain
use Rattle.tw_machine_declaration.specs.Seen.{Declaration, Output, Value, whole, tree}
use Rattle.tw_machine_warnings.specs.declared.deeds.Doing.{Doing}
use Rattle.tw_machine_warnings.specs.declared.sought.Sought.{Sought}
use Rattle.tw_machine_warnings.specs.declared.sought.Sought.TheVariants as s
use Rattle.tw_machine_warnings.specs.declared.texts.Text as rust
use Rattle.tw_machine_warnings.specs.declared.texts.Text.TheVariants as t
use Rattle.tw_machine_warnings.specs.Deeds.{does}
use Rattle.tw_machine_warnings.specs.Sought.{in_tree, in_block, is_outside}

-- a program, an entry of what is sent, a word
pub data Text : Type 0 where
  program : (b : Block) → Text
  sending : (o : Output) → Text
  shown : (v : Value) → Text

abbrev pub text : rust.Text → Text
text (t.Program b) = program (body b.now)
text (t.Output o) = sending (plain.output o.now)
text (t.Word v) = shown (plain.value v.now)

-- ---- what stands in them

abbrev pub in_value : Sought → Value → Bool
in_value s (whole n) = false
in_value s (tree e) = in_tree s e

abbrev pub in_when : Sought → Option Value → Bool
in_when s (Some v) = in_value s v
in_when s None = false

abbrev pub in_each : Sought → Option Tree → Bool
in_each s (Some q) = in_tree s q
in_each s None = false

-- what is said of each item, and from which queue it comes
abbrev pub in_item : Sought → Output → Bool
in_item s o = in_value s o.port || (in_value s o.sent || in_when s o.when)

abbrev pub in_output : Sought → Output → Bool
in_output s o = in_item s o || in_each s o.each

abbrev pub in_text : Sought → Text → Bool
in_text s (program b) = in_block s b
in_text s (sending o) = in_output s o
in_text s (shown v) = in_value s v

abbrev pub in_machine : Sought → Declaration → Bool
in_machine s d = in_block s d.internal || (in_block s d.external || (list_any (in_output s) d.outputs || list_any (in_value s) d.words))

-- ---- what a machine does

abbrev pub does_machine : Doing → Declaration → Bool
does_machine deed d = does deed d.internal || does deed d.external

-- ---- numbers that are always 0

-- `value` and `left` in what stands for no item that comes
abbrev pub has_zero : Block → Bool
has_zero b = in_block s.Value b || in_block s.Left b

-- what is sent for each value of a queue has that value, but for the choice of the queue
abbrev pub value_is_zero : Output → Option Tree → Bool
value_is_zero o None = in_output s.Value o
value_is_zero o (Some q) = in_tree s.Value q

abbrev pub has_zero_output : Output → Bool
has_zero_output o = in_output s.Left o || value_is_zero o o.each

abbrev pub has_zero_word : Value → Bool
has_zero_word v = in_value s.Value v || in_value s.Left v

-- ---- ports

-- a port that is none of 0 to 15, whatever happens
abbrev pub is_number_past : ℤ → Bool
is_number_past (pos n) = nat_le 16 n
is_number_past (negsuc n) = true

abbrev pub is_past : Value → Bool
is_past (whole n) = is_number_past n
is_past (tree e) = is_outside 16 e
