use Rattle.std.proofs.Common.{◌≡◌, ◌<◌, ◌+◌, ◌++◌, ◌∷◌, [], ap, sym, ◌∙◌, length, take, drop, Some, None, arith, vec_len, vec_capacity, append_assoc}
use Rattle.tw_theory.specs.Contents.{records_of}
use Rattle.tw_process.specs.Process.{oldest_of, with_spare, without_oldest, without_first}
use Rattle.tw_fossils.proofs.Oldest.{oldest_at, one_more, oldest_some, records_more, spare_left}
use Rattle.tw_fossils.proofs.fossils.move_oldest.Goals.{in-Some, in_default}
use Rattle.tw_fossils.proofs.fossils.move_oldest.Goals as goal

pub loop-preserved : goal.loop-preserved
loop-preserved g c =
    let p = c.args.process.now in
    let k = c.loop.counter in
    let h = p.process.history in
    let less : k < length h = omega (arith, c.loop-test.true, c.requires) in
    let s = c.commit_oldest.new.self.spare in
    let was = c.loop.invariant.process in
    let value : c.commit_oldest.result ≡ Some (oldest_at h k less).step.entry = c.commit_oldest.ensures.value ∙ ap (λ x. oldest_of x.process.history) was ∙ oldest_some p k less in
    let process : c.commit_oldest.new.self ≡ with_spare s (without_first (k + 1) p) =
    c.commit_oldest.ensures.contents ∙ ap (λ x. with_spare s (without_oldest x)) was
    ∙ spare_left s c.loop.process.spare (without_first k p) (drop k h) ∙ ap (with_spare s) (one_more p k less) in
    elim c.match-commit_oldest.branch [
      | in-Some w ↦
          let some : Some w.in-Some.done ≡ Some (oldest_at h k less).step.entry = sym w.in-Some.is ∙ value in
          let same : w.in-Some.done ≡ (oldest_at h k less).step.entry = cc in
          record {
            process = process;
            column = ap (λ v. v.items) w.records-is ∙ w.push_reserved.ensures.items ∙ (λ i. c.loop.invariant.column i ++ same i ∷ [])
                ∙ append_assoc c.args.records.now.items (records_of (take k h)) ((oldest_at h k less).step.entry ∷ [])
                ∙ ap (λ l. c.args.records.now.items ++ l) (sym (records_more h k less));
            room = omega (arith, ap vec_len w.records-is, w.push_reserved.ensures.len, c.loop.invariant.room);
            capacity = omega (arith, ap vec_capacity w.records-is, w.push_reserved.ensures.capacity, c.loop.invariant.capacity);
          }
      | in_default w ↦
          let none : None ≡ Some (oldest_at h k less).step.entry = sym w.in_default.is ∙ value in
          absurd (cc none)
    ]

pub returns-clause-process : goal.returns-clause-process
returns-clause-process g c =
    let all : c.loop.counter ≡ c.args.count = omega (arith, c.loop.auto.counter-end, c.loop-test.false) in
    c.loop.invariant.process ∙ ap (λ k. with_spare c.loop.process.spare (without_first k c.args.process.now)) all

pub returns-clause-records : goal.returns-clause-records
returns-clause-records g c =
    let all : c.loop.counter ≡ c.args.count = omega (arith, c.loop.auto.counter-end, c.loop-test.false) in
    c.loop.invariant.column ∙ ap (λ k. c.args.records.now.items ++ records_of (take k c.args.process.now.process.history)) all
