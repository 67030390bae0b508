use Rattle.std.proofs.Common.{◌≡◌, ◌++◌, map}
use Rattle.std.specs.Vec.Iter.{into_iter_items}
use Rattle.tw_machine_declaration.specs.Seen.{output}
use Rattle.tw_machine_declaration.specs.TimedViews.{timer_output}
use Rattle.tw_machine_file.specs.Timed.{outputs_by}
use Rattle.tw_machine_file.proofs.timed.add_outputs.Given as goal

-- those that have come are there
abbrev pub invariant-loop-output : goal.invariant-loop-output
invariant-loop-output l = record {
  all : l.fn.outputs.items ≡ l.yielded ++ into_iter_items l.output-iterator;
  made : map timer_output l.sent.items ≡ map timer_output l.initial.sent.items ++ outputs_by l.place l.counted (map output l.yielded);
}
