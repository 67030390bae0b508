-- What a sweep does: after it nothing is in transit, nothing owed is overdue, and all is committed before the least of all next stamps.
use Rattle.std.specs.Prelude.{ℕ, suc, Bool, ◌⊎◌, ◌<◌, ◌≤◌, ◌≡◌, List, [], ◌∷◌, ◌++◌, length, drop, true, false, None, Some, slice_get}
use Rattle.std.specs.List.{AllByRecursion as Each}
use Rattle.tw_msgs.specs.declared.message.Item.{Item}
use Rattle.tw_vtime.specs.Stamps.{max_tick}
use Rattle.tw_theory.specs.Contents.{Process, next}
use Rattle.tw_theory.specs.Exchange.{MayDraw, IsDrawn, bound_of, is_swept, work, deliveries, pass, passes, sweep, IsTaken}
use Rattle.tw_theory.specs.Executive.{World, Action, Deliver, act, replay, answers, mail_of}
use Rattle.tw_theory.specs.Network.{Network, IsNetwork}
use Rattle.tw_theory.specs.Soundness.{IsSound}
use Rattle.tw_laws.specs.Cancelling.{IsSwept, least_own}

-- of every sound executive
abbrev pub OfSound : {S : Type 0} → (Network S → ℕ → World S → Type 0) → Type 0
OfSound {S} Holds = (net : Network S) (until : ℕ) (w : World S) → IsNetwork net → until ≤ max_tick → IsSound net until w → Holds net until w

-- what the test whether an executive is swept says
pub record IsSweptAs {S : Type 0} (w : World S) : Type 0 where
  pub processes : Each IsSwept w.processes
  pub mail : Each (λ box. box ≡ []) w.mail

-- w' is w after a pass
pub record IsPassed {S : Type 0} (w w' : World S) : Type 0 where
  -- nothing lies in a mailbox
  pub mail : Each (λ box. box ≡ []) w'.mail
  pub work_stays : work w' ≤ work w
  -- it was of use where there was something to do
  pub work_falls : is_swept w ≡ false → work w' < work w

-- w' is w after a sweep
pub record IsAfterSweep {S : Type 0} (w w' : World S) : Type 0 where
  pub swept : is_swept w' ≡ true
  -- every line is gvt, which is the least of the processes' next stamps
  pub lines : (c : ℕ) (p : Process S) → slice_get w'.processes c ≡ Some p → p.line ≡ w'.gvt
  pub gvt : w'.gvt ≡ least_own w'.processes

pub record SweepLaw (S : Type 0) : Type 0 where
  pub means : (w : World S) → is_swept w ≡ true → IsSweptAs w
  pub swept : (w : World S) → IsSweptAs w → is_swept w ≡ true
  pub passed : OfSound {S = S} (λ net until w. IsPassed w (replay net until w (pass net until w)))
  -- as many passes as there is work are enough
  pub ends : OfSound {S = S} (λ net until w. is_swept (replay net until w (passes net until (work w) w)) ≡ true)
  -- and more change nothing: so it is the same list whatever the number of passes it may make
  pub enough : OfSound {S = S} (λ net until w. (n : ℕ) → work w ≤ n → passes net until n w ≡ passes net until (work w) w)
  -- a pass over a swept executive changes nothing: one more or one less of them is the same
  pub idle : (net : Network S) (until : ℕ) (w : World S) → is_swept w ≡ true → replay net until w (pass net until w) ≡ w
  -- no action of a sweep is refused
  pub taken : OfSound {S = S} (λ net until w. Each IsTaken (answers net until w (sweep net until w)))
  pub after : OfSound {S = S} (λ net until w. IsAfterSweep w (replay net until w (sweep net until w)))
  -- cut short anywhere it leaves a sound executive, and no action of it was refused
  pub cut_short : (net : Network S) (until : ℕ) (w : World S) → IsNetwork net → until ≤ max_tick → IsSound net until w
      → (done rest : List Action) → done ++ rest ≡ sweep net until w → IsSound net until (replay net until w done) × Each IsTaken (answers net until w done)

-- What is still to be done of a sweep, step by step, as a loop does it
pub record SweepSteps (S : Type 0) : Type 0 where
  -- while something lies in the mailbox of q, its first item is the next to be delivered
  pub deliver : (net : Network S) (until : ℕ) (w : World S) (q : ℕ) (p : Process S) (x : Item) → slice_get w.processes q ≡ Some p → slice_get (mail_of w.mail q) 0 ≡ Some x → q < length w.mail
      → deliveries q (drop q w.mail) ≡ Deliver q 0 ∷ deliveries q (drop q (act net until w (Deliver q 0)).1.mail)
  -- then the next mailbox follows
  pub skip : (w : World S) (q : ℕ) → q < length w.mail → slice_get (mail_of w.mail q) 0 ≡ None → deliveries q (drop q w.mail) ≡ deliveries (suc q) (drop (suc q) w.mail)
  pub none : (w : World S) → deliveries (length w.mail) (drop (length w.mail) w.mail) ≡ []
  -- a pass more while the executive is not swept; of any number of passes that is enough as many may still follow
  pub again : (net : Network S) (until : ℕ) (w : World S) → IsNetwork net → until ≤ max_tick → IsSound net until w
      → (n : ℕ) → work w ≤ n → is_swept w ≡ false
      → (passes net until n w ≡ pass net until w ++ passes net until n (replay net until w (pass net until w))) × (work (replay net until w (pass net until w)) ≤ n)
  pub stop : (net : Network S) (until : ℕ) (w : World S) (n : ℕ) → is_swept w ≡ true → passes net until n w ≡ []

-- ---- what is given out

pub record DrawLaw (S : Type 0) : Type 0 where
  -- a component may be given out exactly where its next step is before the bound
  pub bound : (until gvt window : ℕ) (p : Process S) → until ≤ max_tick → MayDraw until gvt window p → next p < bound_of until gvt window
  pub within : (until gvt window : ℕ) (p : Process S) → until ≤ max_tick → next p < bound_of until gvt window → MayDraw until gvt window p
  -- there is one, or none may be given out
  pub some : (until gvt window : ℕ) (busy : List Bool) (ps : List (Process S))
      → ((c : ℕ) × IsDrawn until gvt window busy ps c) ⊎ ((d : ℕ) (q : Process S) → slice_get ps d ≡ Some q → slice_get busy d ≡ Some false → MayDraw until gvt window q → ⊥)
  -- there is one at most
  pub one : (until gvt window : ℕ) (busy : List Bool) (ps : List (Process S)) (c d : ℕ) → IsDrawn until gvt window busy ps c → IsDrawn until gvt window busy ps d → c ≡ d
