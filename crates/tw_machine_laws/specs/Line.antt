-- The queue as a machine: what it means, its text, and which states stand for which.
--     line q, line_text      the program with a queue's parameter, and what is written
--     QueueStands s t      the machine stands in t where the queue stands in s
use Rattle.std.specs.Prelude.{◌≡◌, ℕ, ◌<◌, ◌≤◌, pos, [], ◌∷◌, None, length, codes}
use Rattle.std.specs.Int.{w64, cast_signed}
use Rattle.serde_json.specs.Data.{Data, string, array, object, no_items, item, no_members, member}
use Rattle.tw_machine.specs.declared.language.Measure.TheVariants.{Length, Front}
use Rattle.tw_machine.specs.declared.language.Leaf.TheVariants as leaf
use Rattle.tw_machine.specs.declared.language.Binary.TheVariants.{Greater}
use Rattle.tw_machine.specs.declared.language.Expr.TheVariants.{Plain}
use Rattle.tw_machine.specs.declared.language.Target.TheVariants.{Single}
use Rattle.tw_machine.specs.declared.language.Which.TheVariants.{Foremost}
use Rattle.tw_machine.specs.declared.language.Statement.{Statement}
use Rattle.tw_machine.specs.declared.language.Statement.TheVariants.{Skip, Take, Wait}
use Rattle.tw_machine.specs.declared.language.Word.TheVariants as word
use Rattle.tw_machine.specs.declared.memory.State.{State}
use Rattle.tw_machine.specs.Program.{ProgramText}
use Rattle.tw_machine.specs.Seen.{both, branch, two}
use Rattle.tw_models.specs.Intake.{WaitsWith}
use Rattle.tw_models.specs.Parameters.{QueueParameters}
use Rattle.tw_models.specs.declared.queue.QueueState.{QueueState}
use Rattle.tw_machine_laws.specs.Intake.{takes_in}
use Rattle.tw_machine_laws.specs.Texts.{count, lines}

-- if length(jobs) > 0 { wait service }
abbrev pub goes_on : ℕ → Statement
goes_on service = branch (two Greater (Plain (leaf.Queue Length 0)) (Plain (leaf.Number (pos 0)))) (both Skip (Wait (Plain (leaf.Number (pos service))))) Skip

-- pop jobs, and that
abbrev pub serves : ℕ → Statement
serves service = both (both Skip (Take (Single 0) Foremost)) (goes_on service)

abbrev pub line : QueueParameters → ProgramText
line q = record {
  cells = pos 0 ∷ [];
  rooms = 64 ∷ [];
  seed = 0;
  first = None;
  longest = None;
  numbers = [];
  internal = serves q.service;
  external = takes_in q.service;
  outputs = record { when = None; each = None; port = Plain (leaf.Number (pos 0)); value = Plain (leaf.Queue Front 0) } ∷ [];
  words = word.Number (Plain (leaf.Register 0)) ∷ word.Values 0 ∷ [];
}

-- its queue has the jobs, its register what was dropped
pub record QueueStands (s : QueueState) (t : State) : Type 0 where
  pub cells : t.memory.cells ≡ cast_signed w64 s.dropped ∷ []
  pub queues : t.memory.queues ≡ record { items = s.jobs.items; room = 64 } ∷ []
  pub left : t.left ≡ s.left
  pub dropped : s.dropped < 18446744073709551616
  pub room : length s.jobs.items ≤ 64
  pub waits : WaitsWith s.jobs.items s.left

-- {"external": ["if length(jobs) == 0 { wait service }", "dropped += length(jobs) == room(jobs)", "push jobs value"], "internal": ["pop jobs", "if length(jobs) > 0 { wait service }"],
-- "name": "line", "output": [{"port": 0, "value": "front(jobs)"}], "parameters": ["service"], "queues": {"jobs": 64}, "registers": {"dropped": 0}, "words": ["dropped", "jobs"]}
abbrev pub line_text : Data
line_text = object
    (member (codes "external") (lines (codes "if length(jobs) == 0 { wait service }" ∷ codes "dropped += length(jobs) == room(jobs)" ∷ codes "push jobs value" ∷ []))
    (member (codes "internal") (lines (codes "pop jobs" ∷ codes "if length(jobs) > 0 { wait service }" ∷ []))
    (member (codes "name") (string (codes "line"))
    (member (codes "output") (array (item (object (member (codes "port") (count 0) (member (codes "value") (string (codes "front(jobs)")) no_members))) no_items))
    (member (codes "parameters") (lines (codes "service" ∷ []))
    (member (codes "queues") (object (member (codes "jobs") (count 64) no_members))
    (member (codes "registers") (object (member (codes "dropped") (count 0) no_members))
    (member (codes "words") (lines (codes "dropped" ∷ codes "jobs" ∷ [])) no_members))))))))
