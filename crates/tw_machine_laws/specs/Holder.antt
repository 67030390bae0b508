-- The relay as a machine: what it means, its text, and which states stand for which.
--     holder r, holder_text      the program with a relay's parameter, and what is written
--     RelayStands s t      the machine stands in t where the relay stands in s
use Rattle.std.specs.Prelude.{◌≡◌, ◌<◌, ◌≤◌, pos, [], ◌∷◌, Some, None, length, codes}
use Rattle.std.specs.Int.{w64, cast_signed}
use Rattle.serde_json.specs.Data.{Data, string, array, object, no_items, item, no_members, member}
use Rattle.tw_machine.specs.declared.language.Leaf.TheVariants as leaf
use Rattle.tw_machine.specs.declared.language.Expr.TheVariants.{Plain}
use Rattle.tw_machine.specs.declared.language.Target.TheVariants.{Single}
use Rattle.tw_machine.specs.declared.language.Which.TheVariants.{Foremost}
use Rattle.tw_machine.specs.declared.language.Output.{Output}
use Rattle.tw_machine.specs.declared.language.Statement.{Statement}
use Rattle.tw_machine.specs.declared.language.Statement.TheVariants.{Skip, Take}
use Rattle.tw_machine.specs.declared.language.Word.TheVariants as word
use Rattle.tw_machine.specs.declared.memory.State.{State}
use Rattle.tw_machine.specs.Program.{ProgramText}
use Rattle.tw_machine.specs.Seen.{both, repeated}
use Rattle.tw_models.specs.Intake.{WaitsWith}
use Rattle.tw_models.specs.Parameters.{RelayParameters}
use Rattle.tw_models.specs.declared.relay.RelayState.{RelayState}
use Rattle.tw_machine_laws.specs.Intake.{takes_in}
use Rattle.tw_machine_laws.specs.Texts.{count, lines}

-- repeat 32 { pop held }
abbrev pub lets_go : Statement
lets_go = both Skip (repeated 32 (both Skip (Take (Single 0) Foremost)))

-- each value that is held
abbrev pub all_held : Output
all_held = record { when = None; each = Some (Single 0); port = Plain (leaf.Number (pos 0)); value = Plain leaf.Value }

abbrev pub holder : RelayParameters → ProgramText
holder r = record {
  cells = pos 0 ∷ [];
  rooms = 32 ∷ [];
  seed = 0;
  first = None;
  longest = None;
  numbers = [];
  internal = lets_go;
  external = takes_in r.delay;
  outputs = all_held ∷ [];
  words = word.Number (Plain (leaf.Register 0)) ∷ word.Values 0 ∷ [];
}

-- its queue has what is held, its register what was dropped
pub record RelayStands (s : RelayState) (t : State) : Type 0 where
  pub cells : t.memory.cells ≡ cast_signed w64 s.dropped ∷ []
  pub queues : t.memory.queues ≡ record { items = s.held.items; room = 32 } ∷ []
  pub left : t.left ≡ s.left
  pub dropped : s.dropped < 18446744073709551616
  pub room : length s.held.items ≤ 32
  pub waits : WaitsWith s.held.items s.left

-- {"external": ["if length(held) == 0 { wait delay }", "dropped += length(held) == room(held)", "push held value"], "internal": ["repeat 32 { pop held }"], "name": "holder",
-- "output": [{"each": "held", "port": 0, "value": "value"}], "parameters": ["delay"], "queues": {"held": 32}, "registers": {"dropped": 0}, "words": ["dropped", "held"]}
abbrev pub holder_text : Data
holder_text = object
    (member (codes "external") (lines (codes "if length(held) == 0 { wait delay }" ∷ codes "dropped += length(held) == room(held)" ∷ codes "push held value" ∷ []))
    (member (codes "internal") (lines (codes "repeat 32 { pop held }" ∷ []))
    (member (codes "name") (string (codes "holder"))
    (member (codes "output") (array (item (object (member (codes "each") (string (codes "held")) (member (codes "port") (count 0) (member (codes "value") (string (codes "value")) no_members)))) no_items))
    (member (codes "parameters") (lines (codes "delay" ∷ []))
    (member (codes "queues") (object (member (codes "held") (count 32) no_members))
    (member (codes "registers") (object (member (codes "dropped") (count 0) no_members))
    (member (codes "words") (lines (codes "dropped" ∷ codes "held" ∷ [])) no_members))))))))
