-- Why a run was given up; and that nothing is said of its end while it goes on.
use Rattle.std.proofs.Common.{◌≡◌, false, List, None, Option, Some, sym, subst, ◌∙◌}
use Rattle.std.specs.Prelude.{Err, IfErr, IfSome, IsErrAnd, Ok, Result, is_some}
use Rattle.std.proofs.lemmas.Bool.{true≢false}
use Rattle.tw_atomic.specs.Atomic.{Meaning}
use Rattle.tw_board.specs.Known.{Known}
use Rattle.tw_exec.specs.Running.{IsSoundly, Running}
use Rattle.tw_exchange.specs.Sweeping.{IsCutShort}
use Rattle.tw_exchange.specs.declared.outcome.Outcome.{Outcome}
use Rattle.tw_exchange.specs.declared.refused.SweepRefused.{SweepRefused}
use Rattle.tw_exchange.specs.declared.refused.SweepRefused.TheVariants.{OutOfMemory, Full}
use Rattle.tw_theory.specs.Executive.{Action}
use Rattle.tw_workers.specs.Runs.{CanBeFull, HasEnded, IsFull, IsRunBy}
use Rattle.tw_workers.specs.declared.setting.RunFault.{RunFault}

pub none_yet : {X : Type 0} (end : Option X) (P : X → Type 0) → is_some end ≡ false → IfSome end P
none_yet None P none = tt
none_yet (Some x) P none = absurd (true≢false none)

module _ {M S : Type 0} (meaning : M → Meaning S) where
  -- a sweep that was cut short has found what it wanted wanting
  pub cut_short : (actions : List Action) (e e' : Running M S) (why : SweepRefused) → IsCutShort meaning actions e e' why → HasEnded meaning e' (Err why)
  cut_short actions e e' OutOfMemory cut = tt
  cut_short actions e e' Full cut = record { action = cut.next; wants = cut.wanting }

  is_full : (e : Running M S) (why : SweepRefused) → HasEnded meaning e (Err why) → why ≡ Full → IsFull meaning e
  is_full e why has is = subst (λ w. HasEnded meaning e (Err w)) is has

  -- so the executive that comes back is full where it was given up for nodes
  pub full_back : {R X : Type 0} (r : Result X (RunFault M S R)) (why : SweepRefused) (e : Running M S) → HasEnded meaning e (Err why)
      → IfErr r (λ fault. fault.why ≡ why) → IfErr r (λ fault. fault.executive ≡ e)
      → IfErr r (λ fault. fault.why ≡ Full → IsFull meaning fault.executive)
  full_back (Ok x) why e has is back = tt
  full_back (Err fault) why e has is back = λ full. subst (IsFull meaning) (sym back) (is_full e why has (sym is ∙ full))

-- and then the one that was handed in could come so far
pub can_be_full : {M S R : Type 0} (meaning : M → Meaning S) (e : Running M S) (publisher publisher' : Known) (end : Result Outcome (RunFault M S R)) (fault : RunFault M S R)
    → IsRunBy meaning e publisher end publisher' → end ≡ Err fault → IsSoundly meaning fault.executive → fault.why ≡ Full → CanBeFull meaning e
can_be_full meaning e publisher publisher' end fault run is sound full =
    let back = subst (λ r. IsRunBy meaning e publisher r publisher') is run in
    record { later = fault.executive; network = back.network; until = back.until; sound = sound; further = back.further; full = back.full full }

pub if_err : {X F : Type 0} (r : Result X F) (P : F → Type 0) → IsErrAnd r P → IfErr r P
if_err (Ok x) P h = tt
if_err (Err f) P h = h
