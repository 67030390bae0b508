use Rattle.std.proofs.Common.{◌≡◌, ◌++◌, map}
use Rattle.std.specs.Vec.Iter.{into_iter_items}
use Rattle.tw_machine_declaration.specs.Seen.{output}
use Rattle.tw_machine_declaration.specs.Timed.{sent_by}
use Rattle.tw_machine_declaration.specs.TimedViews.{named, timer_output}
use Rattle.tw_machine_declaration.proofs.timed.push_sent.Given as goal

-- those that have come are sent
abbrev pub invariant-loop-one : goal.invariant-loop-one
invariant-loop-one l = record {
  all : l.fn.sent.items ≡ l.yielded ++ into_iter_items l.one-iterator;
  made : map output l.outputs.items ≡ map output l.initial.outputs.items ++ map (sent_by (named l.names) l.sends) (map timer_output l.yielded);
}
