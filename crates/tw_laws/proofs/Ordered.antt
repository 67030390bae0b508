-- Processes whose steps and messages are in order, and the inverse law over these alone.
use Rattle.std.specs.Prelude.{ℕ, ◌≡◌, List, [], ◌∷◌}
use Rattle.tw_theory.specs.Bundles.{Ascending}
use Rattle.tw_theory.specs.Contents.{Process, next}
use Rattle.tw_theory.specs.Executive.{World, replay}
use Rattle.tw_theory.specs.LocalRun.{Step}
use Rattle.tw_theory.specs.Marks.{marks, rewound, rewound_steps}
use Rattle.tw_theory.specs.Network.{Network}
use Rattle.tw_theory.specs.Soundness.{AllBefore}
use Rattle.tw_laws.specs.Inverse.{RestoredAll, count_all, steps_of}

-- its steps stand before its next one, and its pending messages are in the order of their stamps
pub record IsOrdered {S : Type 0} (p : Process S) : Type 0 where
  pub past : AllBefore (next p) p.history
  pub ascending : Ascending p.pending

abbrev pub AllOrdered : {S : Type 0} → List (Process S) → Type 0
AllOrdered [] = Unit {0}
AllOrdered (p ∷ ps) = IsOrdered p × AllOrdered ps

-- Steps on any components and a rewind to the marks before them leave mail, columns and gvt, and each process as it was but for what it has outgoing and owes
abbrev pub OrderedInverse : Type 0 → Type 0
OrderedInverse S =
    (net : Network S) (until : ℕ) (w : World S) (cs : List ℕ) → AllOrdered w.processes
    → (made : List (List (Step S)))
    × RestoredAll made w.processes (replay net until w (steps_of cs)).processes (rewound (marks w.processes) (replay net until w (steps_of cs)).processes)
    × (rewound_steps (marks w.processes) (replay net until w (steps_of cs)).processes ≡ count_all made)
    × ((replay net until w (steps_of cs)).mail ≡ w.mail)
    × ((replay net until w (steps_of cs)).columns ≡ w.columns)
    × ((replay net until w (steps_of cs)).gvt ≡ w.gvt)
