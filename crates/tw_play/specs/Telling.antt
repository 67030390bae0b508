-- What is written while commands are obeyed.
--     IsPlayed meaning commands p p' old new      all commands were obeyed, and the writer has their answers
--     IsCutShort meaning commands p old new      a beginning of them was, up to one at which memory was wanting
--     IsWhollyDrawn meaning g n p p' old new, IsDrawnShort meaning g n p old new      the same of the actions that a generator gives
use Rattle.std.specs.Prelude.{ℕ, zero, suc, ◌≡◌, ◌<◌, ◌⊎◌, ◌++◌, List, ◌∷◌, Option, Some}
use Rattle.std.specs.Io.KnownBytes.{Appends}
use Rattle.rand_pcg.specs.Lcg.{Lcg}
use Rattle.tw_actions.specs.declared.action.Action.{Action}
use Rattle.tw_atomic.specs.Atomic.{Meaning}
use Rattle.tw_play.specs.Playing.{Played, response_text, wants_memory, AreDrawn, ArePlayed, IsObeyed, MayWant}
use Rattle.tw_play.specs.declared.response.Response.{Response}
use Rattle.tw_script.specs.declared.command.Command.{Command}
use Rattle.tw_script.specs.declared.command.Command.TheVariants.{Act}
use Rattle.tw_seeded.specs.Schedules.{action_drawn, after as next_of, drawn}

-- the line that tells of want of memory
abbrev pub refused_text : List ℕ
refused_text = response_text wants_memory

-- ---- where memory is wanting

-- this text went out, and then the answer, which says that memory was wanting; or the text alone, since what is written for the answer found
-- no room
abbrev pub HasTold : Response → Option (List ℕ) → Option (List ℕ) → List ℕ → Type 0
HasTold answer old new text = ((answer ≡ wants_memory) × Appends old new (text ++ refused_text)) ⊎ Appends old new text

-- the play stops at this command, once it is obeyed: it takes memory, and was refused for want of it, or its answer found no room
pub record IsStopped {M S : Type 0} (meaning : M → Meaning S) (next : Command) (p : Played M S) (old new : Option (List ℕ)) (text : List ℕ) : Type 0 where
  pub answer : Response
  pub left : Played M S
  pub obeyed : IsObeyed meaning next p answer left
  pub cause : answer ≡ wants_memory → MayWant next
  pub written : HasTold answer old new text

-- ---- commands

pub record IsPlayed {M S : Type 0} (meaning : M → Meaning S) (commands : List Command) (p p' : Played M S) (old new : Option (List ℕ)) : Type 0 where
  pub text : List ℕ
  pub played : ArePlayed meaning commands p text p'
  pub written : Appends old new text

-- those done were obeyed and answered, and the play stops at the next one
pub record IsCutShort {M S : Type 0} (meaning : M → Meaning S) (commands : List Command) (p : Played M S) (old new : Option (List ℕ)) : Type 0 where
  pub done : List Command
  pub next : Command
  pub rest : List Command
  pub all : done ++ next ∷ rest ≡ commands
  pub text : List ℕ
  pub reached : Played M S
  pub played : ArePlayed meaning done p text reached
  pub stopped : IsStopped meaning next reached old new text

-- ---- the actions that a generator gives

-- the generator after so many actions
abbrev pub generator_after : ℕ → Lcg → Lcg
generator_after zero g = g
generator_after (suc k) g = next_of (generator_after k g)

pub record IsWhollyDrawn {M S : Type 0} (meaning : M → Meaning S) (g : Lcg) (n : ℕ) (p p' : Played M S) (old new : Option (List ℕ)) : Type 0 where
  pub text : List ℕ
  pub played : AreDrawn meaning g n p text p'
  pub written : Appends old new text

-- so many were obeyed and answered, and the play stops at the next one that the generator gives
pub record IsDrawnShort {M S : Type 0} (meaning : M → Meaning S) (g : Lcg) (n : ℕ) (p : Played M S) (old new : Option (List ℕ)) : Type 0 where
  pub done : ℕ
  pub fewer : done < n
  pub text : List ℕ
  pub reached : Played M S
  pub played : AreDrawn meaning g done p text reached
  pub next : Action
  pub given : action_drawn reached.executive (drawn (generator_after done g)) ≡ Some next
  pub stopped : IsStopped meaning (Act next) reached old new text
