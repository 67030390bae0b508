-- What a script says.
--     line_of names command      the line that says a command, with the names of the components
--     Says names command line      a line says a command
--     lines_of bytes      the lines of a text
--     IsScript names bytes commands      the lines of a text say these commands
--     IsRefusedFor names bytes why      why a text is no script
use Rattle.std.specs.Prelude.{◌≡◌, ◌<◌, ◌≤◌, ◌⊎◌, ◌+◌, ◌-◌, ◌++◌, ◌==◌, if◌then◌else◌, take, ⊤, ℕ, List, [], ◌∷◌, Bool, true, false, IfSome, Some, codes, length, get_or, slice_get}
use Rattle.std.specs.Fmt.{decimal}
use Rattle.std.specs.Option.{option_map_or}
use Rattle.std.specs.List.{slice_split, AllByRecursion as Each}
use Rattle.std.specs.Str.{IsUtf8}
use Rattle.tw_actions.specs.declared.action.Action.{Action}
use Rattle.tw_actions.specs.declared.action.Action.TheVariants.{Step, Post, Deliver, Back, Raise, Harvest}
use Rattle.tw_script.specs.declared.command.Command.{Command}
use Rattle.tw_script.specs.declared.command.Command.TheVariants.{Act, Mark, Rewind, Show, Describe}
use Rattle.tw_script.specs.declared.refused.ScriptRefused.{ScriptRefused}
use Rattle.tw_script.specs.declared.refused.ScriptRefused.TheVariants.{OutOfMemory, TooMany, BadLine}
use Rattle.tw_vtime.specs.Stamps.{IsStamp, stamp_text}

-- ---- one line

-- the name of a component
abbrev pub name_of : List (List ℕ) → ℕ → List ℕ
name_of names p = get_or names p []

abbrev pub action_line : List (List ℕ) → Action → List ℕ
action_line names (Step p) = codes "step " ++ name_of names p
action_line names (Post p) = codes "post " ++ name_of names p
action_line names (Deliver q i) = codes "deliver " ++ name_of names q ++ codes " " ++ decimal i
action_line names (Back p s) = codes "back " ++ name_of names p ++ codes " " ++ stamp_text s
action_line names Raise = codes "raise"
action_line names (Harvest p) = codes "harvest " ++ name_of names p

-- numbers are decimal, without sign and leading zeros; one space stands between two words, and none at either end
abbrev pub line_of : List (List ℕ) → Command → List ℕ
line_of names (Act action) = action_line names action
line_of names Mark = codes "mark"
line_of names Rewind = codes "rewind"
line_of names Show = codes "show"
line_of names (Describe p) = codes "show " ++ name_of names p

-- of a component of the network, and places that a u64 has, and stamps
abbrev pub Fits : List (List ℕ) → Command → Type 0
Fits names (Act (Step p)) = p < length names
Fits names (Act (Post p)) = p < length names
Fits names (Act (Deliver q i)) = (q < length names) × (i ≤ 18446744073709551615)
Fits names (Act (Back p s)) = (p < length names) × IsStamp s
Fits names (Act Raise) = ⊤
Fits names (Act (Harvest p)) = p < length names
Fits names Mark = ⊤
Fits names Rewind = ⊤
Fits names Show = ⊤
Fits names (Describe p) = p < length names

pub record Says (names : List (List ℕ)) (command : Command) (line : List ℕ) : Type 0 where
  pub fits : Fits names command
  pub is_line : line ≡ line_of names command

-- an empty line, or one that begins with #
abbrev pub is_skipped : List ℕ → Bool
is_skipped [] = true
is_skipped (b ∷ bs) = b == 35

-- neither skipped nor the line of a command
pub record IsWrong (names : List (List ℕ)) (line : List ℕ) : Type 0 where
  pub counts : is_skipped line ≡ false
  pub says_nothing : (command : Command) → ¬ (Says names command line)

-- ---- the whole text

abbrev pub newline : ℕ
newline = 10

abbrev pub is_nothing : List ℕ → Bool
is_nothing [] = true
is_nothing (b ∷ bs) = false

abbrev pub ends_in_nothing : List (List ℕ) → Bool
ends_in_nothing pieces = option_map_or is_nothing (slice_get pieces (length pieces - 1)) false

-- of the pieces between newlines, all but the last where that is empty
abbrev pub lines_of_pieces : List (List ℕ) → List (List ℕ)
lines_of_pieces pieces = if ends_in_nothing pieces then take (length pieces - 1) pieces else pieces

-- what stands before each newline byte, and what follows the last one where that is not empty
abbrev pub lines_of : List ℕ → List (List ℕ)
lines_of bytes = lines_of_pieces (slice_split (λ b. b == newline) bytes)

abbrev pub max_lines : ℕ
max_lines = 100000

-- the commands that lines say, one after another; what is skipped says nothing
pub data AreSaid (names : List (List ℕ)) : List (List ℕ) → List Command → Type 0 where
  nothing : AreSaid names [] []
  skipped : (line : List ℕ) (lines : List (List ℕ)) (commands : List Command) → is_skipped line ≡ true → AreSaid names lines commands → AreSaid names (line ∷ lines) commands
  said : (line : List ℕ) (command : Command) (lines : List (List ℕ)) (commands : List Command) → is_skipped line ≡ false → Says names command line → AreSaid names lines commands → AreSaid names (line ∷ lines) (command ∷ commands)

pub record IsScript (names : List (List ℕ)) (bytes : List ℕ) (commands : List Command) : Type 0 where
  pub few : length (lines_of bytes) ≤ max_lines
  pub text : Each IsUtf8 (lines_of bytes)
  pub said : AreSaid names (lines_of bytes) commands

-- ---- why a text is no script

-- the line of this number, from 1, is the first that is bad
pub record IsFirst (Bad : List ℕ → Type 0) (lines : List (List ℕ)) (number : ℕ) : Type 0 where
  pub place : ℕ
  pub number_is : number ≡ place + 1
  pub bad : IfSome (slice_get lines place) Bad
  pub within : place < length lines
  pub earlier : (i : ℕ) (line : List ℕ) → i < place → slice_get lines i ≡ Some line → ¬ (Bad line)

-- the first line that is not UTF-8
abbrev pub IsFirstNoText : List (List ℕ) → ℕ → Type 0
IsFirstNoText lines number = IsFirst (λ line. ¬ (IsUtf8 line)) lines number

-- one that is not UTF-8 comes before all others
abbrev pub IsBadLine : List (List ℕ) → List (List ℕ) → ℕ → Type 0
IsBadLine names lines number = IsFirstNoText lines number ⊎ (Each IsUtf8 lines × IsFirst (IsWrong names) lines number)

abbrev pub IsRefusedFor : List (List ℕ) → List ℕ → ScriptRefused → Type 0
IsRefusedFor names bytes OutOfMemory = ⊤
IsRefusedFor names bytes TooMany = max_lines < length (lines_of bytes)
IsRefusedFor names bytes (BadLine number) = (length (lines_of bytes) ≤ max_lines) × IsBadLine names (lines_of bytes) number

-- ---- why lines are refused, apart from how many they are

abbrev pub IsNotText : List (List ℕ) → ScriptRefused → Type 0
IsNotText lines OutOfMemory = ⊤
IsNotText lines TooMany = ⊥
IsNotText lines (BadLine number) = IsFirstNoText lines number

abbrev pub SaysNothing : List (List ℕ) → List (List ℕ) → ScriptRefused → Type 0
SaysNothing names lines OutOfMemory = ⊤
SaysNothing names lines TooMany = ⊥
SaysNothing names lines (BadLine number) = IsFirst (IsWrong names) lines number
