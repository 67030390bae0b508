-- How large a program is: walks over it end.
use Rattle.std.proofs.Common.{ℕ, suc, ◌+◌}
use Rattle.tw_machine_text.specs.Tree.{SourceStatement, If, IfElse, Repeat, Block, Empty, Then, Arms, One, More}

abbrev mutual
  pub size_statement : SourceStatement → ℕ
  size_statement (If arms) = suc (size_arms arms)
  size_statement (IfElse arms last) = suc (size_arms arms + size_block last)
  size_statement (Repeat n each) = suc (size_block each)
  size_statement _ = 0

  pub size_block : Block → ℕ
  size_block Empty = 0
  size_block (Then b s m) = suc (size_block b + size_statement s)

  pub size_arms : Arms → ℕ
  size_arms (One t b) = suc (size_block b)
  size_arms (More a t b) = suc (size_arms a + size_block b)
