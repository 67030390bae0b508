use Rattle.std.proofs.Common.{◌≡◌, ◌≢◌, ℕ, ◌+◌, ◌==◌, ◌<◌, ◌≤◌, Bool, true, false, cond, get_or, ap, refl, sym, ◌∙◌, true≢false, inl, inr, arith, below_more}
use Rattle.std.specs.Ordering.{nat_cmp, is_le}
use Rattle.std.specs.Prelude.{nat_lt}
use Rattle.std.specs.declared.cmp.Ordering.TheVariants.{Less, Equal, Greater}
use Rattle.std.proofs.lemmas.Bool.{cases_lt, eqb-false, ltb-true, ltb-false}
use Rattle.std.proofs.lemmas.List.{get_or_default}
use Rattle.tw_msgs.proofs.Messages.{same_fields-Decides}
use Rattle.tw_heap.specs.Heap.{at, no_entry}
use Rattle.tw_heap.proofs.Fronts.{none_behind}
use Rattle.tw_heap.proofs.finding.find_place.Goals.{then-le, else-le}
use Rattle.tw_heap.proofs.finding.find_place.Goals as goal

-- what the test that a number is not up to another says
past : (m n : ℕ) → is_le (nat_cmp m n) ≡ false → n < m
past m n is = go (nat_lt m n) refl (m == n) refl is
  where
    go : (a : Bool) → nat_lt m n ≡ a → (b : Bool) → (m == n) ≡ b → is_le (cond a Less (cond b Equal Greater)) ≡ false → n < m
    go true l b e h = absurd (cc)
    go false l true e h = absurd (cc)
    go false l false e h = omega (arith, ltb-false m n l, eqb-false m n e)

pub returns-then-place-end-clause-none : goal.returns-then-place-end-clause-none
returns-then-place-end-clause-none c = λ k within same.
    let l = c.loop-place in
    let es = c.args.entries.now in
    let s = c.args.key.now.stamp in
    elim (cases_lt k l.place) [
      | inl before ↦ l.invariant.absent k before same
      | inr behind ↦
          let late = none_behind (s + 1) es l.place l.end c.requires l.invariant.begun c.if-place-end.true
          (λ j before early. l.invariant.ahead j before (let up = ltb-true (at es j).key.stamp (s + 1) early in omega (arith, up))) k behind within in
          let past = ltb-false (at es k).key.stamp (s + 1) late in
          let stamps = ap (λ m. m.stamp) same in
          omega (arith, past, stamps)
    ]

pub loop-place-preserved : goal.loop-place-preserved
loop-place-preserved c =
    let l = c.loop-place in
    let es = c.args.entries.now in
    let key = c.args.key.now in
    let read = get_or es l.place c.index-entries-place.result in
    let here : at es l.place ≡ read = get_or_default es l.place no_entry c.index-entries-place.result c.loop-place-test.true in
    let differs : (at es l.place).key ≢ key = λ same.
    true≢false (sym ((same_fields-Decides read.key key).1 (sym (ap (λ e. e.key) here) ∙ same)) ∙ sym c.eq.ensures ∙ c.if-eq.false) in
    record {
      absent = below_more (λ k. (at es k).key ≢ key) l.place l.invariant.absent differs;
      ahead = elim c.if-le.branch [
        | then-le w ↦ λ k less early. omega (arith, less, w.end-is, w.saturating_mul.ensures, w.saturating_add-end.ensures, l.invariant.begun)
        | else-le w ↦
            let late : key.stamp < read.key.stamp = past read.key.stamp key.stamp (sym c.le.ensures ∙ w.if-le.false) in
            below_more (λ k. (at es k).key.stamp ≤ key.stamp → k + k + 2 < c.if-le.end) l.place (λ k before early. omega (arith, w.end-is, l.invariant.ahead k before early))
            (λ early. absurd (omega (arith, early, late, ap (λ e. e.key.stamp) here)))
      ];
      begun = elim c.if-le.branch [
        | then-le w ↦ omega (arith, w.end-is, w.saturating_mul.ensures, w.saturating_add-end.ensures)
        | else-le w ↦ omega (arith, w.end-is, l.invariant.begun)
      ];
    }
