-- One record more in the counts.
use Rattle.std.proofs.Common.{◌≡◌, ◌∙◌, ℕ, ◌+◌, List, [], ◌∷◌, ◌++◌, length, ap, sym, arith}
use Rattle.tw_msgs.specs.Counting.{total}
use Rattle.tw_msgs.specs.declared.record.Record.{Record}
use Rattle.tw_msgs.specs.declared.record_kind.RecordKind.TheVariants.{Out, Int, Ext, Con}
use Rattle.tw_msgs.proofs.Totals.{total-append}
use Rattle.tw_figures.specs.Counts.{counts_of, of_output, of_internal, of_external, of_confluent, sent_in, received_in}
use Rattle.tw_figures.specs.declared.counts.Counts.{Counts}

-- what one record adds to each count
pub record Adds (old : Counts) (r : Record) (new : Counts) : Type 0 where
  pub outputs : new.outputs ≡ old.outputs + of_output r.kind 1
  pub sent : new.sent ≡ old.sent + sent_in r
  pub received : new.received ≡ old.received + received_in r
  pub int : new.int ≡ old.int + of_internal r.kind 1
  pub ext : new.ext ≡ old.ext + of_external r.kind 1
  pub con : new.con ≡ old.con + of_confluent r.kind 1

total_more : (weight : Record → ℕ) (records : List Record) (r : Record) (old new : ℕ) → old ≡ total weight records → new ≡ old + weight r → new ≡ total weight (records ++ r ∷ [])
total_more weight records r old new was is = let all = total-append weight records (r ∷ []) in omega (arith, all, was, is)

pub counted_more : (records : List Record) (r : Record) (old new : Counts) → old ≡ counts_of records → Adds old r new → new ≡ counts_of (records ++ r ∷ [])
counted_more records r old new was adds = λ i. record {
  outputs = total_more (λ x. of_output x.kind 1) records r old.outputs new.outputs (ap (λ n. n.outputs) was) adds.outputs i;
  sent = total_more sent_in records r old.sent new.sent (ap (λ n. n.sent) was) adds.sent i;
  received = total_more received_in records r old.received new.received (ap (λ n. n.received) was) adds.received i;
  int = total_more (λ x. of_internal x.kind 1) records r old.int new.int (ap (λ n. n.int) was) adds.int i;
  ext = total_more (λ x. of_external x.kind 1) records r old.ext new.ext (ap (λ n. n.ext) was) adds.ext i;
  con = total_more (λ x. of_confluent x.kind 1) records r old.con new.con (ap (λ n. n.con) was) adds.con i;
}

-- ---- by the kind of the record

pub adds_output : (old : Counts) (r : Record) (outputs sent : ℕ) → r.kind ≡ Out → outputs ≡ old.outputs + 1 → sent ≡ old.sent + length r.bag
    → Adds old r (record { outputs = outputs; sent = sent; received = old.received; int = old.int; ext = old.ext; con = old.con })
adds_output old r outputs sent kind more items = record {
  outputs = more ∙ ap (λ k. old.outputs + of_output k 1) (sym kind);
  sent = items ∙ ap (λ k. old.sent + of_output k (length r.bag)) (sym kind);
  received = let e = ap (λ k. of_external k (length r.bag) + of_confluent k (length r.bag)) kind in omega (arith, e);
  int = let e = ap (λ k. of_internal k 1) kind in omega (arith, e);
  ext = let e = ap (λ k. of_external k 1) kind in omega (arith, e);
  con = let e = ap (λ k. of_confluent k 1) kind in omega (arith, e);
}

pub adds_internal : (old : Counts) (r : Record) (int : ℕ) → r.kind ≡ Int → int ≡ old.int + 1
    → Adds old r (record { outputs = old.outputs; sent = old.sent; received = old.received; int = int; ext = old.ext; con = old.con })
adds_internal old r int kind more = record {
  outputs = let e = ap (λ k. of_output k 1) kind in omega (arith, e);
  sent = let e = ap (λ k. of_output k (length r.bag)) kind in omega (arith, e);
  received = let e = ap (λ k. of_external k (length r.bag) + of_confluent k (length r.bag)) kind in omega (arith, e);
  int = more ∙ ap (λ k. old.int + of_internal k 1) (sym kind);
  ext = let e = ap (λ k. of_external k 1) kind in omega (arith, e);
  con = let e = ap (λ k. of_confluent k 1) kind in omega (arith, e);
}

pub adds_external : (old : Counts) (r : Record) (ext received : ℕ) → r.kind ≡ Ext → ext ≡ old.ext + 1 → received ≡ old.received + length r.bag
    → Adds old r (record { outputs = old.outputs; sent = old.sent; received = received; int = old.int; ext = ext; con = old.con })
adds_external old r ext received kind more items = record {
  outputs = let e = ap (λ k. of_output k 1) kind in omega (arith, e);
  sent = let e = ap (λ k. of_output k (length r.bag)) kind in omega (arith, e);
  received = let e = ap (λ k. of_external k (length r.bag) + of_confluent k (length r.bag)) kind in omega (arith, e, items);
  int = let e = ap (λ k. of_internal k 1) kind in omega (arith, e);
  ext = more ∙ ap (λ k. old.ext + of_external k 1) (sym kind);
  con = let e = ap (λ k. of_confluent k 1) kind in omega (arith, e);
}

pub adds_confluent : (old : Counts) (r : Record) (con received : ℕ) → r.kind ≡ Con → con ≡ old.con + 1 → received ≡ old.received + length r.bag
    → Adds old r (record { outputs = old.outputs; sent = old.sent; received = received; int = old.int; ext = old.ext; con = con })
adds_confluent old r con received kind more items = record {
  outputs = let e = ap (λ k. of_output k 1) kind in omega (arith, e);
  sent = let e = ap (λ k. of_output k (length r.bag)) kind in omega (arith, e);
  received = let e = ap (λ k. of_external k (length r.bag) + of_confluent k (length r.bag)) kind in omega (arith, e, items);
  int = let e = ap (λ k. of_internal k 1) kind in omega (arith, e);
  ext = let e = ap (λ k. of_external k 1) kind in omega (arith, e);
  con = more ∙ ap (λ k. old.con + of_confluent k 1) (sym kind);
}
