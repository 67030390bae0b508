-- The least stamp that a process can still change.
use Rattle.std.specs.Prelude.{ℕ, min}
use Rattle.tw_theory.specs.Bundles.{least_stamp, least_owed}
use Rattle.tw_theory.specs.Contents.{Process, next}

-- of its next step, of what is outgoing, and of what it owes
abbrev pub least_in : {S : Type 0} → Process S → ℕ
least_in p = min (min (next p) (least_stamp p.outgoing)) (least_owed p.owed)
