-- What the lexer reads, without where it lies in memory.
use Rattle.std.specs.Prelude.{ℕ, List, Option, map, string_bytes}
use Rattle.tw_machine_text.specs.declared.kinds.Declared.{Declared}
use Rattle.tw_machine_text.specs.declared.kinds.Meaning.{Meaning}
use Rattle.tw_machine_text.specs.declared.kinds.Timing.{Timing}
use Rattle.tw_machine_text.specs.declared.lexing.Mode as declared
use Rattle.tw_machine_text.specs.declared.lexing.Mode.TheVariants as v
use Rattle.tw_machine_text.specs.declared.kinds.Member.{Member}
use Rattle.tw_machine_text.specs.Kinds.{kinds_of}
use Rattle.tw_machine_text.specs.Limits.{max_levels}
use Rattle.tw_machine_text.specs.Text.{Mode, Between, InComment, Reading, Reads, ReadsTree}
use Rattle.tw_machine_text.specs.Tree.{Block, Tree}

abbrev pub viewed : declared.Mode → Mode
viewed v.Between = Between
viewed v.InComment = InComment
viewed (v.Reading text) = Reading text.items

-- the names that are declared, in order, and what they are the names of
abbrev pub declarations : List Declared → List (List ℕ × Meaning)
declarations declared = map (λ d. (string_bytes d.name, d.meaning)) declared

-- the names alone
abbrev pub names_of : List Declared → List (List ℕ)
names_of declared = map (λ d. string_bytes d.name) declared

-- a text says this program, by what a machine declares, its timers if it has any, and the programs of its procedures, of at most so many nodes
abbrev pub SaysProgram : List Declared → Option Timing → List Block → ℕ → List ℕ → Block → Type 0
SaysProgram declared timing procedures many text program = Reads max_levels many (names_of declared) timing (kinds_of (declarations declared)) procedures text program

-- the text of a member says this expression, queue or array register
abbrev pub SaysMember : List Declared → Option Timing → Member → ℕ → List ℕ → Tree → Type 0
SaysMember declared timing member many text e = ReadsTree max_levels many member (names_of declared) timing (kinds_of (declarations declared)) text e
