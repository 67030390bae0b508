-- The laws of the queue.
use Rattle.std.specs.Prelude.{◌≡◌, ◌≢◌, ℕ, ℤ, ◌-◌, ◌≤◌, ◌<◌, List, [], ◌∷◌, length, Option, refl, nat_lt, true, if◌then◌else◌}
use Rattle.std.proofs.Common.{arith, ap, ap₂, ◌∙◌, sym}
use Rattle.std.proofs.lemmas.Bool.{lt-ltb}
use Rattle.tw_atomic.specs.Atomic.{Bag, CanTurn, FitsBag, FitsOutput, turned}
use Rattle.tw_atomic.specs.declared.Turn.{Turn}
use Rattle.tw_atomic.specs.declared.Turn.TheVariants.{Int, Ext, Con}
use Rattle.tw_models.specs.declared.queue.QueueState.{QueueState}
use Rattle.tw_models.specs.Parameters.{QueueParameters}
use Rattle.tw_models.specs.Left.{FitsLeft}
use Rattle.tw_models.specs.Wraps.{dropped-back, IsWithin-ext}
use Rattle.tw_models.specs.Intake.{left_after, left_before, FitsValues, WaitsWith}
use Rattle.tw_models.specs.IntakeLaws.{kept-back, room-accepted, FitsValues-accepted, waits-after, left-back, FitsLeft-after, some-bag}
use Rattle.tw_models.specs.Queue.{IsQueue, first_job, later_jobs, left_with, with_first, queue_out, queue_int, queue_ext, queue_meaning, queue_residue, queue_undone}

QueueState-same : (a b : QueueState) → a.jobs.items ≡ b.jobs.items → a.dropped ≡ b.dropped → a.left ≡ b.left → a ≡ b
QueueState-same a b jobs dropped left =
    let made : List ℤ → ℕ → Option ℕ → QueueState = λ h n l. record { jobs = record { items = h }; dropped = n; left = l } in
    ap₂ (λ (h : List ℤ) (n : ℕ). made h n a.left) jobs dropped ∙ ap (made b.jobs.items b.dropped) left

-- the first job in front of the others again
first-back : (jobs : List ℤ) → length jobs ≤ 64 → with_first (first_job jobs) (later_jobs jobs) ≡ jobs
first-back [] room = refl
first-back (job ∷ jobs) room =
    let some_room : nat_lt (length jobs) 64 ≡ true = lt-ltb (length jobs) 64 (omega (arith, room)) in
    ap (λ b. if b then job ∷ jobs else jobs) some_room

FitsValues-later : (jobs : List ℤ) → FitsValues jobs → FitsValues (later_jobs jobs)
FitsValues-later [] fits = tt
FitsValues-later (job ∷ jobs) fits = fits.1

length-later : (jobs : List ℤ) → length jobs ≤ 64 → length (later_jobs jobs) ≤ 64
length-later [] room = room
length-later (job ∷ jobs) room = omega (arith, room)

FitsLeft-with : (jobs : List ℤ) (service : ℕ) → service < 18446744073709551616 → FitsLeft (left_with jobs service)
FitsLeft-with [] service small = tt
FitsLeft-with (job ∷ jobs) service small = small

waits-with : (jobs : List ℤ) (service : ℕ) → WaitsWith jobs (left_with jobs service)
waits-with [] service = tt
waits-with (job ∷ jobs) service = tt

IsQueue-ext : (q : QueueParameters) (s : QueueState) (elapsed : ℕ) (bag : Bag) → IsQueue q s → FitsBag bag → bag ≢ [] → IsQueue q (queue_ext q s elapsed bag)
IsQueue-ext q s elapsed bag valid bag_fits some =
    record {
      parameters = valid.parameters;
      values_fit = FitsValues-accepted 64 s.jobs.items s.jobs.items bag valid.values_fit bag_fits;
      room = room-accepted 64 s.jobs.items bag valid.room;
      dropped_fits = omega arith;
      left_fits = FitsLeft-after s.jobs.items s.left elapsed q.service valid.left_fits (omega (arith, valid.parameters.service_fits));
      waits = waits-after 64 s.jobs.items s.left elapsed q.service bag (omega arith) valid.waits some;
    }

IsQueue-int : (q : QueueParameters) (s : QueueState) → IsQueue q s → IsQueue q (queue_int q s)
IsQueue-int q s valid =
    record {
      parameters = valid.parameters;
      values_fit = FitsValues-later s.jobs.items valid.values_fit;
      room = length-later s.jobs.items valid.room;
      dropped_fits = valid.dropped_fits;
      left_fits = FitsLeft-with (later_jobs s.jobs.items) q.service (omega (arith, valid.parameters.service_fits));
      waits = waits-with (later_jobs s.jobs.items) q.service;
    }

pub queue_stays_valid : (q : QueueParameters) (turn : Turn) (s : QueueState) (elapsed : ℕ) (bag : Bag) → CanTurn (IsQueue q) (queue_meaning q) turn s elapsed bag → IsQueue q (turned (queue_meaning q) turn s elapsed bag)
queue_stays_valid q Int s elapsed bag can = IsQueue-int q s can.valid
queue_stays_valid q Ext s elapsed bag can = IsQueue-ext q s elapsed bag can.valid can.bag_fits (some-bag s.left elapsed bag can.due)
queue_stays_valid q Con s elapsed bag can = IsQueue-ext q (queue_int q s) 0 bag (IsQueue-int q s can.valid) can.bag_fits can.due.1

out-fits : (jobs : List ℤ) → FitsValues jobs → (length (queue_out jobs) ≤ 64) × FitsOutput (queue_out jobs)
out-fits [] fits = (omega arith, tt)
out-fits (job ∷ jobs) fits = (omega arith, ((omega arith, fits.0), tt))

pub queue_output_fits : (q : QueueParameters) (s : QueueState) → IsQueue q s → (length ((queue_meaning q).out s) ≤ 64) × FitsOutput ((queue_meaning q).out s)
queue_output_fits q s valid = out-fits s.jobs.items valid.values_fit

pub queue_reverses : (q : QueueParameters) (turn : Turn) (s : QueueState) (elapsed : ℕ) (bag : Bag) → CanTurn (IsQueue q) (queue_meaning q) turn s elapsed bag
    → queue_undone turn (turned (queue_meaning q) turn s elapsed bag) elapsed bag (queue_residue turn s bag) ≡ s
queue_reverses q Int s elapsed bag can = QueueState-same _ s (first-back s.jobs.items can.valid.room) refl (sym can.due.0)
queue_reverses q Ext s elapsed bag can =
    let jobs = kept-back 64 s.jobs.items bag in
    QueueState-same _ s jobs (dropped-back s.dropped (length bag) (64 - length s.jobs.items) can.valid.dropped_fits)
    (ap (λ h. left_before h (left_after s.jobs.items s.left elapsed q.service) elapsed) jobs ∙ left-back s.jobs.items s.left elapsed q.service can.valid.waits can.valid.left_fits (IsWithin-ext s.left elapsed bag can.due))
queue_reverses q Con s elapsed bag can =
    QueueState-same _ s
    (ap (with_first (first_job s.jobs.items)) (kept-back 64 (later_jobs s.jobs.items) bag) ∙ first-back s.jobs.items can.valid.room)
    (dropped-back s.dropped (length bag) (64 - length (later_jobs s.jobs.items)) can.valid.dropped_fits)
    (sym can.due.0)
