-- The tally as a machine: what it means, its text, and which states stand for which.
--     adder, adder_text      the program, and what is written
--     TallyStands s t      the machine stands in t where the tally stands in s
use Rattle.std.specs.Prelude.{◌≡◌, ◌<◌, pos, [], ◌∷◌, None, codes}
use Rattle.std.specs.Int.{w64, cast_signed}
use Rattle.serde_json.specs.Data.{Data, string, object, no_members, member}
use Rattle.tw_machine.specs.declared.language.Leaf.TheVariants as leaf
use Rattle.tw_machine.specs.declared.language.Expr.TheVariants.{Plain}
use Rattle.tw_machine.specs.declared.language.Target.TheVariants.{Single}
use Rattle.tw_machine.specs.declared.language.Change.TheVariants.{Add}
use Rattle.tw_machine.specs.declared.language.Statement.{Statement}
use Rattle.tw_machine.specs.declared.language.Statement.TheVariants.{Skip, Set, Alter}
use Rattle.tw_machine.specs.declared.language.Word.TheVariants as word
use Rattle.tw_machine.specs.declared.memory.State.{State}
use Rattle.tw_machine.specs.Program.{ProgramText}
use Rattle.tw_machine.specs.Seen.{both}
use Rattle.tw_models.specs.declared.tally.TallyState.{TallyState}
use Rattle.tw_machine_laws.specs.Texts.{count, lines}

-- count += 1, sum += value, last = value
abbrev pub adds : Statement
adds = both (both (both Skip (Alter Add (Single 0) (Plain (leaf.Number (pos 1))))) (Alter Add (Single 1) (Plain leaf.Value))) (Set (Single 2) (Plain leaf.Value))

abbrev pub adder : ProgramText
adder = record {
  cells = pos 0 ∷ pos 0 ∷ pos 0 ∷ [];
  rooms = [];
  seed = 0;
  first = None;
  longest = None;
  numbers = [];
  internal = Skip;
  external = adds;
  outputs = [];
  words = word.Number (Plain (leaf.Register 0)) ∷ word.Number (Plain (leaf.Register 1)) ∷ word.Number (Plain (leaf.Register 2)) ∷ [];
}

-- its registers have what the tally has
pub record TallyStands (s : TallyState) (t : State) : Type 0 where
  pub cells : t.memory.cells ≡ cast_signed w64 s.count ∷ s.sum ∷ s.last ∷ []
  pub left : t.left ≡ None
  pub count : s.count < 18446744073709551616

-- {"external": ["count += 1", "sum += value", "last = value"], "name": "adder", "registers": {"count": 0, "last": 0, "sum": 0}, "words": ["count", "sum", "last"]}
abbrev pub adder_text : Data
adder_text = object
    (member (codes "external") (lines (codes "count += 1" ∷ codes "sum += value" ∷ codes "last = value" ∷ []))
    (member (codes "name") (string (codes "adder"))
    (member (codes "registers") (object (member (codes "count") (count 0) (member (codes "sum") (count 0) (member (codes "last") (count 0) no_members))))
    (member (codes "words") (lines (codes "count" ∷ codes "sum" ∷ codes "last" ∷ [])) no_members))))
