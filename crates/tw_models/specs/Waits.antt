-- How long each model waits at the most: a model that is never due at once stays so, whatever comes. Relay and queue are such models where their delay and service are a tick or more.
--     gen_waits, tally_waits, relay_waits, queue_waits, hop_waits      each model alone
--     within_waits      a model of parts, as one of states that may have such a part
use Rattle.std.specs.Prelude.{◌≡◌, ℕ, ℤ, ◌≤◌, List, [], ◌∷◌, Option, Some, None, IfSome, refl}
use Rattle.std.proofs.Common.{arith}
use Rattle.std.proofs.Math.Path.{subst}
use Rattle.tw_atomic.specs.Atomic.{Meaning}
use Rattle.tw_atomic.specs.Waiting.{Waits, ComesBefore, AlwaysWaits}
use Rattle.tw_models.specs.Parameters.{GenParameters, RelayParameters, QueueParameters, HopParameters}
use Rattle.tw_models.specs.Left.{minus}
use Rattle.tw_models.specs.Intake.{left_after}
use Rattle.tw_models.specs.Gen.{gen_meaning}
use Rattle.tw_models.specs.Tally.{tally_meaning}
use Rattle.tw_models.specs.Relay.{relay_meaning}
use Rattle.tw_models.specs.Queue.{queue_meaning, left_with, later_jobs}
use Rattle.tw_models.specs.Hop.{hop_meaning, lcg, wait}
use Rattle.tw_models.specs.Model.{part_or, within}

-- what is left, before it is over, is a tick or more
minus-waits : (longest : ℕ) (left : Option ℕ) (elapsed : ℕ) → ComesBefore elapsed left → Waits longest left → Waits longest (minus left elapsed)
minus-waits longest None elapsed before waits = tt
minus-waits longest (Some left) elapsed before waits = (omega (arith, before), omega (arith, waits.1))

-- no time comes before any wait is over
before-zero : (longest : ℕ) (left : Option ℕ) → Waits longest left → ComesBefore 0 left
before-zero longest None waits = tt
before-zero longest (Some left) waits = waits.0

-- a whole wait
whole-waits : (longest : ℕ) → 1 ≤ longest → Waits longest (Some longest)
whole-waits longest some = (omega (arith, some), omega arith)

left_after-waits : (delay : ℕ) (kept : List ℤ) (left : Option ℕ) (elapsed : ℕ) → 1 ≤ delay → ComesBefore elapsed left → Waits delay left → Waits delay (left_after kept left elapsed delay)
left_after-waits delay [] left elapsed some before waits = whole-waits delay some
left_after-waits delay (value ∷ values) left elapsed some before waits = minus-waits delay left elapsed before waits

left_with-waits : (service : ℕ) (jobs : List ℤ) → 1 ≤ service → Waits service (left_with jobs service)
left_with-waits service [] some = tt
left_with-waits service (job ∷ jobs) some = whole-waits service some

wait-waits : (spread x : ℕ) → 1 ≤ spread → Waits spread (Some (wait spread x))
wait-waits spread x some = (omega arith, omega (arith, some))

pub gen_waits : (g : GenParameters) → 1 ≤ g.period → AlwaysWaits (gen_meaning g) g.period
gen_waits g some =
    record {
      start = whole-waits g.period some;
      int = λ s waits. whole-waits g.period some;
      ext = λ s elapsed bag before waits. minus-waits g.period s.left elapsed before waits;
      con = λ s elapsed bag waits. minus-waits g.period (Some g.period) 0 (omega (arith, some)) (whole-waits g.period some);
    }

pub tally_waits : AlwaysWaits tally_meaning 0
tally_waits =
    record {
      start = tt;
      int = λ s waits. tt;
      ext = λ s elapsed bag before waits. tt;
      con = λ s elapsed bag waits. tt;
    }

pub relay_waits : (r : RelayParameters) → 1 ≤ r.delay → AlwaysWaits (relay_meaning r) r.delay
relay_waits r some =
    record {
      start = tt;
      int = λ s waits. tt;
      ext = λ s elapsed bag before waits. left_after-waits r.delay s.held.items s.left elapsed some before waits;
      con = λ s elapsed bag waits. whole-waits r.delay some;
    }

pub queue_waits : (q : QueueParameters) → 1 ≤ q.service → AlwaysWaits (queue_meaning q) q.service
queue_waits q some =
    record {
      start = tt;
      int = λ s waits. left_with-waits q.service (later_jobs s.jobs.items) some;
      ext = λ s elapsed bag before waits. left_after-waits q.service s.jobs.items s.left elapsed some before waits;
      con = λ s elapsed bag waits.
          let jobs = later_jobs s.jobs.items in
          let begun = left_with-waits q.service jobs some in
          left_after-waits q.service jobs (left_with jobs q.service) 0 some (before-zero q.service (left_with jobs q.service) begun) begun;
    }

pub hop_waits : (h : HopParameters) → 1 ≤ h.spread → AlwaysWaits (hop_meaning h) h.spread
hop_waits h some =
    record {
      start = wait-waits h.spread h.seed some;
      int = λ s waits. wait-waits h.spread (lcg s.x) some;
      ext = λ s elapsed bag before waits. minus-waits h.spread s.left elapsed before waits;
      con = λ s elapsed bag waits.
          let drawn = wait-waits h.spread (lcg s.x) some in
          minus-waits h.spread (Some (wait h.spread (lcg s.x))) 0 drawn.0 drawn;
    }

-- a wait of a part is one of the state whose part it is
part-waits : {A : Type 0} (ta : A → Option ℕ) (longest : ℕ) (part : Option A) (a : A) → part ≡ Some a → Waits longest (ta a) → Waits longest (part_or None ta part)
part-waits ta longest part a same waits = rw same waits

-- a transition of a part; where there is none, the state stays, and never is due
turn-waits : {A S : Type 0} (whole : A → S) (part : S → Option A) (ta : A → Option ℕ) (turn : A → A) (longest : ℕ) (s : S) (its : Option A) → ((a : A) → part (whole a) ≡ Some a) → part s ≡ its
    → ((a : A) → its ≡ Some a → Waits longest (ta (turn a))) → Waits longest (part_or None ta (part (part_or s (λ a. whole (turn a)) its)))
turn-waits whole part ta turn longest s None same is stays = rw is tt
turn-waits whole part ta turn longest s (Some a) same is stays = part-waits ta longest (part (whole (turn a))) (turn a) (same (turn a)) (stays a refl)

always-within : {A S : Type 0} (whole : A → S) (part : S → Option A) (m : Meaning A) (longest : ℕ) → ((a : A) → part (whole a) ≡ Some a) → AlwaysWaits m longest → AlwaysWaits (within whole part m) longest
always-within whole part m longest same always =
    record {
      start = part-waits m.ta longest (part (whole m.start)) m.start (same m.start) always.start;
      int = λ s waits. turn-waits whole part m.ta m.int longest s (part s) same refl (λ a is. always.int a (subst (λ its. Waits longest (part_or None m.ta its)) is waits));
      ext = λ s elapsed bag before waits.
          turn-waits whole part m.ta (λ a. m.ext a elapsed bag) longest s (part s) same refl
          (λ a is. always.ext a elapsed bag (subst (λ its. ComesBefore elapsed (part_or None m.ta its)) is before) (subst (λ its. Waits longest (part_or None m.ta its)) is waits));
      con = λ s elapsed bag waits.
          turn-waits whole part m.ta (λ a. m.con a elapsed bag) longest s (part s) same refl (λ a is. always.con a elapsed bag (subst (λ its. Waits longest (part_or None m.ta its)) is waits));
    }

pub within_waits : {A S : Type 0} (whole : A → S) (part : S → Option A) (m : Meaning A) (longest : Option ℕ) → ((a : A) → part (whole a) ≡ Some a)
    → IfSome longest (AlwaysWaits m) → IfSome longest (AlwaysWaits (within whole part m))
within_waits whole part m None same always = tt
within_waits whole part m (Some longest) same always = always-within whole part m longest same always
