-- The generator as a machine: what it means, its text, and which states stand for which.
--     maker g, maker_text      the program with a generator's parameters, and what is written
--     GenStands s t      the machine stands in t where the generator stands in s
use Rattle.std.specs.Prelude.{◌≡◌, ◌<◌, pos, [], ◌∷◌, Some, None, codes}
use Rattle.std.specs.Int.{w64, cast_signed}
use Rattle.serde_json.specs.Data.{Data, string, array, object, no_items, item, no_members, member}
use Rattle.tw_machine.specs.declared.language.Leaf.TheVariants as leaf
use Rattle.tw_machine.specs.declared.language.Expr.TheVariants.{Plain}
use Rattle.tw_machine.specs.declared.language.Target.TheVariants.{Single}
use Rattle.tw_machine.specs.declared.language.Change.TheVariants.{Add}
use Rattle.tw_machine.specs.declared.language.Statement.TheVariants.{Skip, Alter, Wait}
use Rattle.tw_machine.specs.declared.language.Word.TheVariants as word
use Rattle.tw_machine.specs.declared.memory.State.{State}
use Rattle.tw_machine.specs.Program.{ProgramText}
use Rattle.tw_machine.specs.Seen.{both}
use Rattle.tw_models.specs.Parameters.{GenParameters}
use Rattle.tw_models.specs.declared.generator.GenState.{GenState}
use Rattle.tw_machine_laws.specs.Texts.{count, lines}

-- first period; count += 1, wait period; it sends its amount
abbrev pub maker : GenParameters → ProgramText
maker g = record {
  cells = pos 0 ∷ [];
  rooms = [];
  seed = 0;
  first = Some g.period;
  longest = None;
  numbers = [];
  internal = both (both Skip (Alter Add (Single 0) (Plain (leaf.Number (pos 1))))) (Wait (Plain (leaf.Number (pos g.period))));
  external = Skip;
  outputs = record { when = None; each = None; port = Plain (leaf.Number (pos 0)); value = Plain (leaf.Number g.value) } ∷ [];
  words = word.Number (Plain (leaf.Register 0)) ∷ [];
}

-- its register has what the generator has counted
pub record GenStands (s : GenState) (t : State) : Type 0 where
  pub cells : t.memory.cells ≡ cast_signed w64 s.count ∷ []
  pub left : t.left ≡ s.left
  pub count : s.count < 18446744073709551616

-- {"first": "period", "internal": ["count += 1", "wait period"], "name": "maker", "output": [{"port": 0, "value": "amount"}], "parameters": ["period", "amount"], "registers": {"count": 0}, "words": ["count"]}
abbrev pub maker_text : Data
maker_text = object
    (member (codes "first") (string (codes "period"))
    (member (codes "internal") (lines (codes "count += 1" ∷ codes "wait period" ∷ []))
    (member (codes "name") (string (codes "maker"))
    (member (codes "output") (array (item (object (member (codes "port") (count 0) (member (codes "value") (string (codes "amount")) no_members))) no_items))
    (member (codes "parameters") (lines (codes "period" ∷ codes "amount" ∷ []))
    (member (codes "registers") (object (member (codes "count") (count 0) no_members))
    (member (codes "words") (lines (codes "count" ∷ [])) no_members)))))))
