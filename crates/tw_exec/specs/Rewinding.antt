-- Processes taken back to marks.
use Rattle.std.specs.Prelude.{ℕ, List, [], ◌∷◌}
use Rattle.tw_process.specs.Process.{Held, with_cut}

-- each process is cut at its mark
abbrev pub at_marks : {M S : Type 0} → List ℕ → List (Held M S) → List (Held M S)
at_marks [] ps = ps
at_marks (s ∷ ss) [] = []
at_marks (s ∷ ss) (p ∷ ps) = with_cut s p ∷ at_marks ss ps

-- the greatest number of steps that is counted
abbrev pub greatest_count : ℕ
greatest_count = 18446744073709551615
