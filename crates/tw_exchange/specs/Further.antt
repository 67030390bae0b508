-- How far an executive has come.
--     Reached, reached w      of a world: how each process cancels, what each component has committed, and global virtual time
--     IsFurther from to      each process cancels as it did, what was committed stays, and global virtual time has not fallen
--     ComesFurther e e'      the same of two executives
--     IsSince begun w      w has come further than where it was begun
use Rattle.std.specs.Prelude.{ℕ, ◌≡◌, ◌≤◌, List, map}
use Rattle.tw_exec.specs.Running.{Running}
use Rattle.tw_laws.specs.Committed.{Grow}
use Rattle.tw_msgs.specs.declared.record.Record.{Record}
use Rattle.tw_theory.specs.Contents.{Cancel}
use Rattle.tw_theory.specs.Executive.{World}

pub record Reached : Type 0 where
  pub cancels : List Cancel
  pub columns : List (List Record)
  pub gvt : ℕ

abbrev pub reached : {S : Type 0} → World S → Reached
reached w = record { cancels = map (λ p. p.cancel) w.processes; columns = w.columns; gvt = w.gvt }

pub record IsFurther (from to : Reached) : Type 0 where
  pub cancels : to.cancels ≡ from.cancels
  -- each column begins with what it was
  pub columns : Grow from.columns to.columns
  pub gvt : from.gvt ≤ to.gvt

abbrev pub ComesFurther : {M S : Type 0} → Running M S → Running M S → Type 0
ComesFurther e e' = IsFurther (reached e.world) (reached e'.world)

-- ---- what is known under a lock

pub record IsSince {S : Type 0} (begun : Reached → Type 0) (w : World S) : Type 0 where
  pub from : Reached
  pub is : begun from
  pub further : IsFurther from (reached w)
