-- The two numbers of the board.
use Rattle.std.proofs.Common.{arith}
use Rattle.tw_theory.specs.Board.{Numbers, AtMost}

-- what is not above some numbers is not above greater ones
pub at_most_trans : (a b c : Numbers) → AtMost a b → AtMost b c → AtMost a c
at_most_trans a b c h k = let h0 = h.0 in let h1 = h.1 in let k0 = k.0 in let k1 = k.1 in (omega (arith, h0, k0), omega (arith, h1, k1))
