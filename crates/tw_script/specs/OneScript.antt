-- A text is the script of at most one list of commands, and is refused for at most one reason; never both.
--     AreNames names      what is true of the names of every network
--     ScriptLaw      against such names
use Rattle.std.specs.Prelude.{◌≡◌, ◌≢◌, ℕ, List}
use Rattle.std.specs.List.{All, AllPairs}
use Rattle.tw_network.specs.Contents.{IsFlatName}
use Rattle.tw_script.specs.Scripts.{IsRefusedFor, IsScript, Says}
use Rattle.tw_script.specs.declared.command.Command.{Command}
use Rattle.tw_script.specs.declared.refused.ScriptRefused.{ScriptRefused}
use Rattle.tw_script.specs.declared.refused.ScriptRefused.TheVariants.{OutOfMemory}

-- no two are the same, and no space is in any of them
pub record AreNames (names : List (List ℕ)) : Type 0 where
  pub flat : All IsFlatName names
  pub distinct : AllPairs (λ a b. a ≢ b) names

pub record MeansOne (names : List (List ℕ)) : Type 0 where
  -- a line says at most one command
  pub command : (line : List ℕ) (a b : Command) → Says names a line → Says names b line → a ≡ b
  -- a text is the script of at most one list of them
  pub script : (bytes : List ℕ) (some others : List Command) → IsScript names bytes some → IsScript names bytes others → some ≡ others
  -- but for want of memory it is refused for at most one reason, with one first bad line
  pub refusal : (bytes : List ℕ) (why other : ScriptRefused) → IsRefusedFor names bytes why → IsRefusedFor names bytes other
      → why ≢ OutOfMemory → other ≢ OutOfMemory → why ≡ other
  -- and for none where it is a script
  pub apart : (bytes : List ℕ) (commands : List Command) (why : ScriptRefused) → IsScript names bytes commands → IsRefusedFor names bytes why
      → why ≡ OutOfMemory

abbrev pub ScriptLaw : Type 0
ScriptLaw = (names : List (List ℕ)) → AreNames names → MeansOne names
