-- The processes of the components so far are cut.
use Rattle.std.proofs.Common.{◌≡◌, length, map, min, take}
use Rattle.tw_exec.specs.Rewinding.{at_marks, greatest_count}
use Rattle.tw_theory.specs.Marks.{rewound_steps}
use Rattle.tw_exec.proofs.marking.back_to_marks.Given as goal

abbrev pub invariant-loop-c : goal.invariant-loop-c
invariant-loop-c g l = record {
  cut : l.processes.items ≡ at_marks (take l.c l.stamps) l.fn.processes.items;
  many : length l.processes.items ≡ length l.fn.processes.items;
  counted : l.count ≡ min (rewound_steps (take l.c l.stamps) (map (λ p. p.process) l.fn.processes.items)) greatest_count;
}
