use Rattle.std.proofs.Common.{◌≡◌, ◌+◌, ◌++◌, ◌≤◌, take, vec_len, vec_capacity}
use Rattle.tw_theory.specs.Contents.{records_of}
use Rattle.tw_process.specs.Process.{with_spare, without_first}
use Rattle.tw_fossils.proofs.fossils.move_oldest.Given as goal

abbrev pub invariant-loop : goal.invariant-loop
invariant-loop g l = record {
  process : l.process ≡ with_spare l.process.spare (without_first l.counter l.fn.process);
  column : l.records.items ≡ l.fn.records.items ++ records_of (take l.counter l.fn.process.process.history);
  room : vec_len l.records ≡ vec_len l.fn.records + l.counter;
  capacity : vec_len l.fn.records + l.count ≤ vec_capacity l.records;
}
