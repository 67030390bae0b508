-- The words of a program weigh as much as it has nodes.
use Rattle.std.proofs.Common.{◌≡◌, ◌+◌, Bool, true, false, List, ◌∷◌, refl, arith}
use Rattle.tw_machine_text.specs.declared.words.Operator.TheVariants.{Comma}
use Rattle.tw_machine_text.specs.declared.words.Word.{Word}
use Rattle.tw_machine_text.specs.declared.words.Word.TheVariants as word
use Rattle.tw_machine_text.specs.Tree.{Tree, Number, Name, Known, Indexed, Call, RandomBelow, Group, Negate, Not, Binary, spelled, SourceStatement, Assign, Act, Treat, Draw, Wait, Passivate, Start, Send, If, IfElse, Repeat, Block, Empty, Then, Arms, One, More, mark, said, said_block, said_arms, nodes, nodes_statement, nodes_block, nodes_arms}
use Rattle.tw_machine_text.specs.Letters.{in_number}
use Rattle.tw_machine_text.specs.Machine.{weigh}

pub weigh_tree : (t : Tree) (ws : List Word) (chained : Bool) → weigh chained (spelled t ws) ≡ nodes t + weigh false ws
weigh_tree (Number n) ws true = refl
weigh_tree (Number n) ws false = refl
weigh_tree (Name n) ws true = refl
weigh_tree (Name n) ws false = refl
weigh_tree (Known g) ws true = refl
weigh_tree (Known g) ws false = refl
weigh_tree (Indexed n e) ws true = omega (arith, weigh_tree e (word.CloseBracket ∷ ws) false)
weigh_tree (Indexed n e) ws false = omega (arith, weigh_tree e (word.CloseBracket ∷ ws) false)
weigh_tree (Call n e) ws true = omega (arith, weigh_tree e (word.Close ∷ ws) false)
weigh_tree (Call n e) ws false = omega (arith, weigh_tree e (word.Close ∷ ws) false)
weigh_tree (RandomBelow e) ws true = omega (arith, weigh_tree e (word.Close ∷ ws) false)
weigh_tree (RandomBelow e) ws false = omega (arith, weigh_tree e (word.Close ∷ ws) false)
weigh_tree (Group e) ws true = omega (arith, weigh_tree e (word.Close ∷ ws) false)
weigh_tree (Group e) ws false = omega (arith, weigh_tree e (word.Close ∷ ws) false)
weigh_tree (Negate e) ws true = omega (arith, weigh_tree e ws false)
weigh_tree (Negate e) ws false = omega (arith, weigh_tree e ws false)
weigh_tree (Not e) ws true = omega (arith, weigh_tree e ws false)
weigh_tree (Not e) ws false = omega (arith, weigh_tree e ws false)
weigh_tree (Binary Comma a b) ws chained = omega (arith, weigh_tree a (word.Sign Comma ∷ spelled b ws) chained, weigh_tree b ws false)
weigh_tree (Binary op a b) ws chained = omega (arith, weigh_tree a (word.Sign op ∷ spelled b ws) chained, weigh_tree b ws false)

weigh_mark : (m : Bool) (ws : List Word) → weigh false (mark m ws) ≡ weigh false ws
weigh_mark true ws = omega arith
weigh_mark false ws = refl

mutual
  pub weigh_said : (x : SourceStatement) (ws : List Word) → weigh false (said x ws) ≡ nodes_statement x + weigh false ws
  weigh_said (Assign p c e) ws = omega (arith, weigh_tree p (word.Becomes c ∷ spelled e ws) false, weigh_tree e ws false)
  weigh_said (Act v q e) ws = omega (arith, weigh_tree q (spelled e ws) false, weigh_tree e ws false)
  weigh_said (Treat d q) ws = omega (arith, weigh_tree q ws false)
  weigh_said Draw ws = refl
  weigh_said (Wait e) ws = omega (arith, weigh_tree e ws false)
  weigh_said Passivate ws = refl
  weigh_said (Start t e) ws = omega (arith, weigh_tree t (word.Name in_number ∷ spelled e ws) false, weigh_tree e ws false)
  weigh_said (Send e) ws = omega (arith, weigh_tree e ws false)
  weigh_said (If a) ws = weigh_arms a ws
  weigh_said (IfElse a b) ws = omega (arith, weigh_arms a (word.Else ∷ word.OpenBrace ∷ said_block b (word.CloseBrace ∷ ws)), weigh_block b (word.CloseBrace ∷ ws))
  weigh_said (Repeat n b) ws = omega (arith, weigh_tree n (word.OpenBrace ∷ said_block b (word.CloseBrace ∷ ws)) false, weigh_block b (word.CloseBrace ∷ ws))

  pub weigh_block : (b : Block) (ws : List Word) → weigh false (said_block b ws) ≡ nodes_block b + weigh false ws
  weigh_block Empty ws = omega arith
  weigh_block (Then b x m) ws = omega (arith, weigh_block b (said x (mark m ws)), weigh_said x (mark m ws), weigh_mark m ws)

  pub weigh_arms : (a : Arms) (ws : List Word) → weigh false (said_arms a ws) ≡ nodes_arms a + weigh false ws
  weigh_arms (One t b) ws = omega (arith, weigh_tree t (word.OpenBrace ∷ said_block b (word.CloseBrace ∷ ws)) false, weigh_block b (word.CloseBrace ∷ ws))
  weigh_arms (More a t b) ws = omega (arith, weigh_arms a (word.Else ∷ word.If ∷ spelled t (word.OpenBrace ∷ said_block b (word.CloseBrace ∷ ws))), weigh_tree t (word.OpenBrace ∷ said_block b (word.CloseBrace ∷ ws)) false, weigh_block b (word.CloseBrace ∷ ws))
