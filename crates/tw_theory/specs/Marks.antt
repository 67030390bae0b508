-- Marks, and rewinding to them.
--     marks ps      the next stamp of each process
--     rewind w ss      every process is cut at its mark, unless a step since then is committed or may be
use Rattle.std.specs.Prelude.{ℕ, ◌+◌, List, [], ◌∷◌, length, Bool, false, not, ◌&&◌, ◌||◌, ◌==◌, nat_lt, nat_le, if◌then◌else◌, Ok, Err}
use Rattle.tw_msgs.specs.declared.record.Record.{Record}
use Rattle.tw_theory.specs.Contents.{Process, next, steps_from, cut, records_of}
use Rattle.tw_theory.specs.Executive.{World, Answer, Undone, NoSuch, Committed}

abbrev pub marks : {S : Type 0} → List (Process S) → List ℕ
marks [] = []
marks (p ∷ ps) = next p ∷ marks ps

-- each process is cut at its mark
abbrev pub rewound : {S : Type 0} → List ℕ → List (Process S) → List (Process S)
rewound [] ps = ps
rewound (s ∷ ss) [] = []
rewound (s ∷ ss) (p ∷ ps) = cut s p ∷ rewound ss ps

-- how many steps that takes back
abbrev pub rewound_steps : {S : Type 0} → List ℕ → List (Process S) → ℕ
rewound_steps [] ps = 0
rewound_steps (s ∷ ss) [] = 0
rewound_steps (s ∷ ss) (p ∷ ps) = steps_from s p + rewound_steps ss ps

-- whether a record stands at or after s and before g
abbrev pub any_between : ℕ → ℕ → List Record → Bool
any_between s g [] = false
any_between s g (r ∷ rs) = nat_le s r.stamp && nat_lt r.stamp g || any_between s g rs

-- whether a step since its mark, in a column or in a history, stands before gvt
abbrev pub any_committed : {S : Type 0} → ℕ → List ℕ → List (Process S) → List (List Record) → Bool
any_committed g (s ∷ ss) (p ∷ ps) (column ∷ columns) = any_between s g column || any_between s g (records_of p.history) || any_committed g ss ps columns
any_committed g ss ps columns = false

-- marks of another number of components are refused first
unfoldable pub rewind : {S : Type 0} → World S → List ℕ → Answer × World S
rewind w ss =
    if not (length ss == length w.processes) then (Err NoSuch, w)
    else if any_committed w.gvt ss w.processes w.columns then (Err Committed, w)
    else (Ok (Undone (rewound_steps ss w.processes)), record w { processes = rewound ss w.processes })
