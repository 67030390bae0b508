-- What a run by workers makes of an executive and its publisher.
--     IsFull meaning e      an action of this executive wants more nodes than its process may hold
--     CanBeFull meaning e      it can come to be so as its run goes on
--     HasEnded meaning e end      the run of this executive has ended so: it is over, or it is given up
--     IsRunBy meaning e publisher end publisher'      it ends as the sequential simulator does, or comes back as far as it got
use Rattle.std.specs.Prelude.{◌≡◌, Err, IfErr, IfOk, Ok, Result, length, ⊤}
use Rattle.tw_atomic.specs.Atomic.{Meaning}
use Rattle.tw_board.specs.Known.{Known}
use Rattle.tw_exchange.specs.Ends.{IsEnd, IsOver, trace_of}
use Rattle.tw_exchange.specs.Further.{ComesFurther}
use Rattle.tw_exchange.specs.declared.outcome.Outcome.{Outcome}
use Rattle.tw_exchange.specs.declared.refused.SweepRefused.{SweepRefused}
use Rattle.tw_exchange.specs.declared.refused.SweepRefused.TheVariants.{OutOfMemory, Full}
use Rattle.tw_exec.specs.Running.{IsSoundly, Running, WantsRoom}
use Rattle.tw_theory.specs.Board.{numbers_of}
use Rattle.tw_theory.specs.Executive.{Action}
use Rattle.tw_theory.specs.Outcomes.{RunState}
use Rattle.tw_workers.specs.declared.setting.RunFault.{RunFault}

pub record IsFull {M S : Type 0} (meaning : M → Meaning S) (e : Running M S) : Type 0 where
  pub action : Action
  -- its process would hold more than 1,048,576 nodes
  pub wants : WantsRoom meaning action e

-- a sound executive of the same network and end tick that has come further is full
pub record CanBeFull {M S : Type 0} (meaning : M → Meaning S) (e : Running M S) : Type 0 where
  pub later : Running M S
  pub network : later.network ≡ e.network
  pub until : later.until ≡ e.until
  pub sound : IsSoundly meaning later
  pub further : ComesFurther e later
  pub full : IsFull meaning later

-- given up for want of nodes (12), it is full; of want of memory (4) no more is said
abbrev pub HasEnded : {M S : Type 0} → (M → Meaning S) → Running M S → Result RunState SweepRefused → Type 0
HasEnded meaning e (Ok end) = IsOver meaning e end
HasEnded meaning e (Err OutOfMemory) = ⊤
HasEnded meaning e (Err Full) = IsFull meaning e

pub record IsRunBy {M S R : Type 0} (meaning : M → Meaning S) (e : Running M S) (publisher : Known) (end : Result Outcome (RunFault M S R)) (publisher' : Known) : Type 0 where
  -- over: this is its end, and as many records were posted as its trace has
  pub outcome : IfOk end (IsEnd meaning e.network e.until)
  pub count : IfOk end (λ outcome. publisher'.numbers.1 ≡ length (trace_of outcome))
  -- given up: the executive has come further, and just its numbers were posted; for want of nodes (12) only where it is full
  pub network : IfErr end (λ fault. fault.executive.network ≡ e.network)
  pub until : IfErr end (λ fault. fault.executive.until ≡ e.until)
  pub further : IfErr end (λ fault. ComesFurther e fault.executive)
  pub full : IfErr end (λ fault. fault.why ≡ Full → IsFull meaning fault.executive)
  pub numbers : IfErr end (λ fault. publisher'.numbers ≡ numbers_of fault.executive.world)
  pub board : publisher'.board ≡ publisher.board
