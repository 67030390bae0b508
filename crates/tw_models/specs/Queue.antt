-- The queue: it works on the first of its jobs, at most 64, and sends it on port 0 when its service is over.
use Rattle.std.specs.Prelude.{ℕ, ℤ, pos, ◌-◌, ◌<◌, ◌≤◌, List, [], ◌∷◌, ◌++◌, take, length, min, Option, Some, None, nat_lt, if◌then◌else◌}
use Rattle.tw_atomic.specs.Atomic.{Bag, Meaning}
use Rattle.tw_atomic.specs.declared.Turn.{Turn}
use Rattle.tw_atomic.specs.declared.Turn.TheVariants.{Int, Ext, Con}
use Rattle.tw_models.specs.declared.queue.QueueState.{QueueState}
use Rattle.tw_models.specs.declared.queue.QueueResidue.{QueueResidue}
use Rattle.tw_models.specs.Parameters.{QueueParameters, FitsQueue}
use Rattle.tw_models.specs.Left.{FitsLeft}
use Rattle.tw_models.specs.Intake.{accepted_values, dropped_after, dropped_before, left_after, left_before, FitsValues, WaitsWith}

-- the parameter is in range, the numbers of the state fit, there are at most 64 jobs, and time is left exactly while there is one
pub record IsQueue (q : QueueParameters) (s : QueueState) : Type 0 where
  pub parameters : FitsQueue q
  pub values_fit : FitsValues s.jobs.items
  pub room : length s.jobs.items ≤ 64
  pub dropped_fits : s.dropped < 18446744073709551616
  pub left_fits : FitsLeft s.left
  pub waits : WaitsWith s.jobs.items s.left

-- the first job, if there is one
abbrev pub first_job : List ℤ → Option ℤ
first_job [] = None
first_job (job ∷ jobs) = Some job

-- the jobs behind the first
abbrev pub later_jobs : List ℤ → List ℤ
later_jobs [] = []
later_jobs (job ∷ jobs) = jobs

-- the time left when a service begins: none without a job
abbrev pub left_with : List ℤ → ℕ → Option ℕ
left_with [] service = None
left_with (job ∷ jobs) service = Some service

-- the output: the first job on port 0
abbrev pub queue_out : List ℤ → Bag
queue_out [] = []
queue_out (job ∷ jobs) = (0, job) ∷ []

-- the first job goes, and the service of the next begins
abbrev pub queue_int : QueueParameters → QueueState → QueueState
queue_int q s = record { jobs = record { items = later_jobs s.jobs.items }; dropped = s.dropped; left = left_with (later_jobs s.jobs.items) q.service }

-- what finds room becomes a job, the rest is counted; a service begins where there was no job
abbrev pub queue_ext : QueueParameters → QueueState → ℕ → Bag → QueueState
queue_ext q s elapsed bag =
    record {
      jobs = record { items = s.jobs.items ++ accepted_values 64 s.jobs.items bag };
      dropped = dropped_after 64 s.jobs.items s.dropped bag;
      left = left_after s.jobs.items s.left elapsed q.service;
    }

abbrev pub queue_meaning : QueueParameters → Meaning QueueState
queue_meaning q =
    record {
      start = record { jobs = record { items = [] }; dropped = 0; left = None };
      ta = λ s. s.left;
      out = λ s. queue_out s.jobs.items;
      int = queue_int q;
      ext = queue_ext q;
      con = λ s elapsed bag. queue_ext q (queue_int q s) 0 bag;
      words = λ s. pos s.dropped ∷ s.jobs.items;
    }

-- what a turn keeps: how many values found room, and the job that went
abbrev pub queue_residue : Turn → QueueState → Bag → QueueResidue
queue_residue Int s bag = record { accepted = 0; gone = first_job s.jobs.items }
queue_residue Ext s bag = record { accepted = min (64 - length s.jobs.items) (length bag); gone = None }
queue_residue Con s bag = record { accepted = min (64 - length (later_jobs s.jobs.items)) (length bag); gone = first_job s.jobs.items }

-- the jobs with the one that went in front again; where there is no room, which no turn leaves, they stay
abbrev pub with_first : Option ℤ → List ℤ → List ℤ
with_first None jobs = jobs
with_first (Some job) jobs = if nat_lt (length jobs) 64 then job ∷ jobs else jobs

-- the state before a turn: the values that found room are cut off
abbrev pub queue_undone : Turn → QueueState → ℕ → Bag → QueueResidue → QueueState
queue_undone Int s elapsed bag residue = record { jobs = record { items = with_first residue.gone s.jobs.items }; dropped = s.dropped; left = Some elapsed }
queue_undone Ext s elapsed bag residue =
    let kept = take (length s.jobs.items - residue.accepted) s.jobs.items in
    record { jobs = record { items = kept }; dropped = dropped_before s.dropped (length bag) residue.accepted; left = left_before kept s.left elapsed }
queue_undone Con s elapsed bag residue =
    let kept = take (length s.jobs.items - residue.accepted) s.jobs.items in
    record { jobs = record { items = with_first residue.gone kept }; dropped = dropped_before s.dropped (length bag) residue.accepted; left = Some elapsed }
