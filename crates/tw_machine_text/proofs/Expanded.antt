-- A program that is put together of procedures has the nodes that were counted.
use Rattle.std.proofs.Common.{◌≡◌, ℕ, ◌+◌, ◌<◌, Bool, true, false, List, Option, Some, None, refl, arith}
use Rattle.std.specs.Prelude.{◌&&◌, nat_le, if◌then◌else◌}
use Rattle.std.proofs.lemmas.Bool.{leb-true}
use Rattle.tw_machine_text.specs.declared.kinds.Meaning.{Meaning}
use Rattle.tw_machine_text.specs.declared.words.Deed.TheVariants.{Pop, Clear, Do, Stop}
use Rattle.tw_machine_text.specs.Kinds.{stands_for}
use Rattle.tw_machine_text.specs.Tree.{Number, Name, Known, Indexed, Call, RandomBelow, Group, Negate, Not, Binary, SourceStatement, Assign, Act, Treat, Draw, Wait, Passivate, Start, Send, If, IfElse, Repeat, Block, Empty, Then, Arms, One, More, nodes_block, nodes_arms, deep_block}
use Rattle.tw_machine_text.specs.Desugared.{joined, procedure_of, placed, expanded_statement, expanded, expanded_arms, nodes_of_statement, nodes_of, nodes_of_arms, limited}

joined_nodes : (before p : Block) → nodes_block (joined before p) ≡ nodes_block before + nodes_block p
joined_nodes before Empty = omega arith
joined_nodes before (Then b s m) = omega (arith, joined_nodes before b)

mutual
  -- those of a statement, behind others
  placed_nodes : (kinds : List Meaning) (ps : List Block) (b : Block) (s : SourceStatement) (m : Bool) → nodes_block (placed kinds ps b (expanded_statement kinds ps s) m) ≡ nodes_block b + nodes_of_statement kinds ps s
  placed_nodes kinds ps b (Assign p c e) m = refl
  placed_nodes kinds ps b (Act v q e) m = refl
  placed_nodes kinds ps b (Treat Do (Name n)) m = joined_nodes b (procedure_of ps (stands_for kinds n))
  placed_nodes kinds ps b (Treat Do (Number n)) m = refl
  placed_nodes kinds ps b (Treat Do (Known g)) m = refl
  placed_nodes kinds ps b (Treat Do (Indexed n e)) m = refl
  placed_nodes kinds ps b (Treat Do (Call n e)) m = refl
  placed_nodes kinds ps b (Treat Do (RandomBelow e)) m = refl
  placed_nodes kinds ps b (Treat Do (Group e)) m = refl
  placed_nodes kinds ps b (Treat Do (Negate e)) m = refl
  placed_nodes kinds ps b (Treat Do (Not e)) m = refl
  placed_nodes kinds ps b (Treat Do (Binary op x y)) m = refl
  placed_nodes kinds ps b (Treat Pop q) m = refl
  placed_nodes kinds ps b (Treat Clear q) m = refl
  placed_nodes kinds ps b (Treat Stop q) m = refl
  placed_nodes kinds ps b Draw m = refl
  placed_nodes kinds ps b (Wait e) m = refl
  placed_nodes kinds ps b Passivate m = refl
  placed_nodes kinds ps b (Start t e) m = refl
  placed_nodes kinds ps b (Send e) m = refl
  placed_nodes kinds ps b (If arms) m = omega (arith, arms_nodes kinds ps arms)
  placed_nodes kinds ps b (IfElse arms last) m = omega (arith, arms_nodes kinds ps arms, block_nodes kinds ps last)
  placed_nodes kinds ps b (Repeat count each) m = omega (arith, block_nodes kinds ps each)

  pub block_nodes : (kinds : List Meaning) (ps : List Block) (b : Block) → nodes_block (expanded kinds ps b) ≡ nodes_of kinds ps b
  block_nodes kinds ps Empty = refl
  block_nodes kinds ps (Then b s m) = omega (arith, placed_nodes kinds ps (expanded kinds ps b) s m, block_nodes kinds ps b)

  arms_nodes : (kinds : List Meaning) (ps : List Block) (a : Arms) → nodes_arms (expanded_arms kinds ps a) ≡ nodes_of_arms kinds ps a
  arms_nodes kinds ps (One t b) = omega (arith, block_nodes kinds ps b)
  arms_nodes kinds ps (More a t b) = omega (arith, arms_nodes kinds ps a, block_nodes kinds ps b)

not_within : (n m : ℕ) (b : Bool) → nat_le n m ≡ b → m < n → b ≡ false
not_within n m true e h = absurd (omega (arith, leb-true n m e, h))
not_within n m false e h = refl

none_of : (a b : Bool) (p : Block) → b ≡ false → ◌≡◌ {A = Option Block} (if a && b then Some p else None) None
none_of true true p h = absurd (cc h)
none_of true false p h = refl
none_of false b p h = refl

-- a program of too many nodes is refused before it is put together
pub too_many : (most many : ℕ) (kinds : List Meaning) (ps : List Block) (b : Block) → many < nodes_of kinds ps b → limited most many (expanded kinds ps b) ≡ None
too_many most many kinds ps b h =
    let p = expanded kinds ps b in
    none_of (nat_le (deep_block p) most) (nat_le (nodes_block p) many) p (not_within (nodes_block p) many (nat_le (nodes_block p) many) refl (omega (arith, h, block_nodes kinds ps b)))
