-- The line stands for the queue.
use Rattle.std.proofs.Common.{◌≡◌, ◌≢◌, ℕ, ℤ, ◌≤◌, ◌∷◌, [], List, length, map, refl, ap, arith, ◌∙◌, Bool, Option, Some, None, append-nil}
use Rattle.std.specs.Prelude.{slice_index_or, if◌then◌else◌}
use Rattle.std.specs.Int.{w64, cast_signed, cast_unsigned}
use Rattle.tw_atomic.specs.Atomic.{Bag}
use Rattle.tw_machine.specs.declared.memory.Input.{Input}
use Rattle.tw_machine.specs.declared.memory.State.{State}
use Rattle.tw_machine.specs.Memory.{QueueValue, first_of, no_queue}
use Rattle.tw_machine.specs.Machine as machine
use Rattle.tw_machine.specs.Machine.{later, machine_ext, machine_int, machine_meaning, machine_out, moved, own_input, ticks_of, time, time_left}
use Rattle.tw_machine.specs.Running.{run, with_left}
use Rattle.tw_machine.specs.Values.{bit, is_set}
use Rattle.tw_models.specs.Intake.{WaitsWith}
use Rattle.tw_models.specs.Queue.{later_jobs, left_with, queue_ext, queue_int, queue_meaning, queue_out}
use Rattle.tw_models.specs.Parameters.{QueueParameters}
use Rattle.tw_models.specs.declared.queue.QueueState.{QueueState}
use Rattle.tw_machine_laws.specs.Bisimulation.{IsBisimulation, modulo}
use Rattle.tw_machine_laws.specs.Line.{QueueStands, goes_on, line, serves}
use Rattle.tw_machine_laws.proofs.Counts.{shown}
use Rattle.tw_machine_laws.proofs.Intakes.{Keeps, accepted-within, bag_comes, begun_by-is, is_kept, kept, popped, some-lt, waits-with}

-- the first job goes, and the service of the next begins
served : (service : ℕ) (jobs : List ℤ) (c : ℤ) (i : Input) (u : State)
    → run (serves service) [] i (kept c jobs 64 None u) ≡ kept c (later_jobs jobs) 64 (left_with (later_jobs jobs) service) u
served service [] c i u = refl
served service (j ∷ []) c i u = ap (run (goes_on service) [] i) (popped c (j ∷ []) 64 None i u)
served service (j ∷ k ∷ jobs) c i u =
    let s = kept c (k ∷ jobs) 64 None u in
    ap (run (goes_on service) [] i) (popped c (j ∷ k ∷ jobs) 64 None i u)
    ∙ ap (λ (t : Bool). if is_set (bit t) then with_left s (Some service) else s) (some-lt (length jobs))

later-within : (jobs : List ℤ) → length jobs ≤ 64 → length (later_jobs jobs) ≤ 64
later-within [] h = omega arith
later-within (j ∷ jobs) h = omega (arith, h)

later-waits : (jobs : List ℤ) (service : ℕ) → WaitsWith jobs (left_with jobs service)
later-waits [] service = tt
later-waits (j ∷ jobs) service = tt

keeps : (s : QueueState) (t : State) → QueueStands s t → Keeps 64 s.jobs.items s.dropped s.left t
keeps s t r = record { cells = r.cells; queues = r.queues; left = r.left }

int-stands : (q : QueueParameters) (s : QueueState) (t : State) → QueueStands s t → QueueStands (queue_int q s) (machine_int (line q) t)
int-stands q s t r =
    let elapsed = ticks_of t.left in
    let i = own_input elapsed (later t.time elapsed) in
    let u = moved t elapsed None in
    let is : run (serves q.service) [] i u ≡ kept (cast_signed w64 s.dropped) (later_jobs s.jobs.items) 64 (left_with (later_jobs s.jobs.items) q.service) u =
    ap (run (serves q.service) [] i) (is_kept 64 s.jobs.items s.dropped None u (record { cells = r.cells; queues = r.queues; left = refl }))
    ∙ served q.service s.jobs.items (cast_signed w64 s.dropped) i u in
    record {
      cells = ap (λ (v : State). v.memory.cells) is;
      queues = ap (λ (v : State). v.memory.queues) is;
      left = ap (λ (v : State). v.left) is;
      dropped = r.dropped;
      room = later-within s.jobs.items r.room;
      waits = later-waits (later_jobs s.jobs.items) q.service;
    }

ext-stands : (q : QueueParameters) (s : QueueState) (t : State) (elapsed : ℕ) (bag : Bag) → bag ≢ [] → QueueStands s t → QueueStands (queue_ext q s elapsed bag) (machine_ext (line q) t elapsed bag)
ext-stands q s t elapsed bag some r =
    let rest = machine.minus t.left elapsed in
    let u = moved t elapsed rest in
    let all = bag_comes bag q.service 64 s.jobs.items s.dropped (machine.minus s.left elapsed) u (time elapsed) (time_left rest) (time (later t.time elapsed)) r.dropped (omega arith) r.room
    (record { cells = r.cells; queues = r.queues; left = ap (λ (left : Option ℕ). machine.minus left elapsed) r.left }) in
    record {
      cells = all.keeps.cells;
      queues = all.keeps.queues;
      left = all.keeps.left ∙ begun_by-is bag s.jobs.items q.service s.left elapsed some;
      dropped = omega arith;
      room = accepted-within 64 s.jobs.items bag r.room;
      waits = waits-with 64 s.jobs.items bag q.service s.left elapsed some (omega arith) r.waits;
    }

-- where time is left there is a job
sent-first : (jobs : List ℤ) (left : Option ℕ) (elapsed : ℕ) → WaitsWith jobs left → left ≡ Some elapsed → (0, first_of jobs) ∷ [] ≡ queue_out jobs
sent-first (j ∷ jobs) left elapsed waits due = refl
sent-first [] (Some l) elapsed waits due = absurd waits
sent-first [] None elapsed waits due = absurd (cc due)

sends-same : (q : QueueParameters) (s : QueueState) (t : State) → QueueStands s t → (elapsed : ℕ) → s.left ≡ Some elapsed → machine_out (line q) t ≡ queue_out s.jobs.items
sends-same q s t r elapsed due =
    ap (λ (queues : List QueueValue). (0, first_of (slice_index_or queues 0 no_queue).items) ∷ []) r.queues
    ∙ sent-first s.jobs.items s.left elapsed r.waits due

shows-same : (q : QueueParameters) (s : QueueState) (t : State) → QueueStands s t → modulo ((machine_meaning (line q)).words t) ≡ modulo ((queue_meaning q).words s)
shows-same q s t r =
    ap (λ (v : State). modulo ((machine_meaning (line q)).words v)) (is_kept 64 s.jobs.items s.dropped s.left t (keeps s t r))
    ∙ ap (λ (items : List ℤ). cast_unsigned w64 (cast_signed w64 s.dropped) ∷ map (cast_unsigned w64) items) (append-nil s.jobs.items)
    ∙ ap (λ (n : ℕ). n ∷ map (cast_unsigned w64) s.jobs.items) (shown s.dropped r.dropped)

pub queue_stands : (q : QueueParameters) → IsBisimulation QueueStands (queue_meaning q) (machine_meaning (line q))
queue_stands q =
    record {
      start = record { cells = refl; queues = refl; left = refl; dropped = omega arith; room = omega arith; waits = tt };
      waits = λ s t r. r.left;
      sends = sends-same q;
      shows = shows-same q;
      int = int-stands q;
      ext = λ s t r elapsed bag some. ext-stands q s t elapsed bag some r;
      con = λ s t r elapsed bag some. ext-stands q (queue_int q s) (machine_int (line q) t) 0 bag some (int-stands q s t r);
    }
