-- How much a component did, of the list of its records.
--     of_output kind n, of_internal kind n, of_external kind n, of_confluent kind n      n in a record of that kind, and else nothing
--     counts_of rs      all counts
use Rattle.std.specs.Prelude.{ℕ, ◌+◌, List, length}
use Rattle.tw_msgs.specs.Counting.{total}
use Rattle.tw_msgs.specs.declared.record.Record.{Record}
use Rattle.tw_msgs.specs.declared.record_kind.RecordKind.{RecordKind}
use Rattle.tw_msgs.specs.declared.record_kind.RecordKind.TheVariants.{Out, Int, Ext, Con}
use Rattle.tw_figures.specs.declared.counts.Counts.{Counts}

abbrev pub of_output : RecordKind → ℕ → ℕ
of_output Out n = n
of_output _ n = 0

abbrev pub of_internal : RecordKind → ℕ → ℕ
of_internal Int n = n
of_internal _ n = 0

abbrev pub of_external : RecordKind → ℕ → ℕ
of_external Ext n = n
of_external _ n = 0

abbrev pub of_confluent : RecordKind → ℕ → ℕ
of_confluent Con n = n
of_confluent _ n = 0

-- the bag of an output is what it sends, that of a transition what came
abbrev pub sent_in : Record → ℕ
sent_in r = of_output r.kind (length r.bag)

abbrev pub received_in : Record → ℕ
received_in r = of_external r.kind (length r.bag) + of_confluent r.kind (length r.bag)

abbrev pub counts_of : List Record → Counts
counts_of records = record {
  outputs = total (λ r. of_output r.kind 1) records;
  sent = total sent_in records;
  received = total received_in records;
  int = total (λ r. of_internal r.kind 1) records;
  ext = total (λ r. of_external r.kind 1) records;
  con = total (λ r. of_confluent r.kind 1) records;
}
