-- Rounds of the sequential run, one after another.
use Rattle.std.proofs.Common.{◌≡◌, ℕ, zero, suc, ◌<◌, ◌≤◌, Some, None, refl}
use Rattle.std.specs.Prelude.{nat_lt}
use Rattle.std.proofs.lemmas.Bool.{cond-true, cond-false, lt-ltb, le-ltb}
use Rattle.tw_theory.specs.Network.{Network}
use Rattle.tw_theory.specs.Simulator.{Fault, Run, round, round_time, rounds_from}

-- where the time of the next round comes before the bound, it is made first
pub from_round : {S : Type 0} (net : Network S) (bound n : ℕ) (run : Run S) → round_time run.at < bound
    → rounds_from net bound (suc n) run None ≡ rounds_from net bound n (round net run (round_time run.at)) (round net run (round_time run.at)).fault
from_round net bound n run l = cond-true (nat_lt (round_time run.at) bound) _ _ (lt-ltb (round_time run.at) bound l)

-- and where it does not, none is made
pub from_rest : {S : Type 0} (net : Network S) (bound n : ℕ) (run : Run S) → bound ≤ round_time run.at → rounds_from net bound n run None ≡ run
from_rest net bound zero run l = refl
from_rest net bound (suc n) run l = cond-false (nat_lt (round_time run.at) bound) _ _ (le-ltb (round_time run.at) bound l)

-- and after a fault none is made
pub from_fault : {S : Type 0} (net : Network S) (bound n : ℕ) (run : Run S) (met : Fault) → rounds_from net bound n run (Some met) ≡ run
from_fault net bound zero run met = refl
from_fault net bound (suc n) run met = refl
