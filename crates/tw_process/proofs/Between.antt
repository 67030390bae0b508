-- Rising records, looked at from the last one: whether one stands at or after s and before g.
use Rattle.std.proofs.Common.{◌≡◌, ℕ, zero, suc, ◌+◌, ◌<◌, ◌≤◌, Bool, List, [], ◌∷◌, length, map, drop, Some, true, false, ◌&&◌, ◌||◌, refl, ap, ◌∙◌, arith}
use Rattle.std.specs.Prelude.{nat_le, nat_lt, slice_get}
use Rattle.std.proofs.lemmas.Bool.{le-leb, lt-leb, lt-ltb, le-ltb}
use Rattle.std.proofs.lemmas.Option.{none-some, same_Some}
use Rattle.tw_atomic.specs.Atomic.{Meaning}
use Rattle.tw_msgs.specs.declared.message.Message.{Message}
use Rattle.tw_msgs.specs.declared.record.Record.{Record}
use Rattle.tw_process.specs.History.{Stood, shown}
use Rattle.tw_process.specs.declared.entry.Entry.{Entry}
use Rattle.tw_theory.specs.Contents.{records_of}
use Rattle.tw_theory.specs.LocalRun.{Step}
use Rattle.tw_theory.specs.Marks.{any_between}

-- each is after the one before it, and the first is not before floor
abbrev pub Rises : ℕ → List Record → Type 0
Rises floor [] = Unit {0}
Rises floor (r ∷ rs) = (floor ≤ r.stamp) × Rises (r.stamp + 1) rs

rises_at : (floor i : ℕ) (rs : List Record) (r : Record) → Rises floor rs → slice_get rs i ≡ Some r → floor ≤ r.stamp
rises_at floor i [] r h at = absurd (none-some r at)
rises_at floor zero (x ∷ rs) r h at = omega (arith, h.0, ap (λ (y : Record). y.stamp) (same_Some x r at))
rises_at floor (suc i) (x ∷ rs) r h at = omega (arith, h.0, rises_at (x.stamp + 1) i rs r h.1 at)

or_true : (b : Bool) → (b || true) ≡ true
or_true true = refl
or_true false = refl

module _ (s g : ℕ) where
  -- a record that stands between
  one : (r : Record) → s ≤ r.stamp → r.stamp < g → (nat_le s r.stamp && nat_lt r.stamp g) ≡ true
  one r late early = ap (λ b. b && nat_lt r.stamp g) (le-leb s r.stamp late) ∙ lt-ltb r.stamp g early

  -- and one that does not
  earlier : (r : Record) → r.stamp < s → (nat_le s r.stamp && nat_lt r.stamp g) ≡ false
  earlier r early = ap (λ b. b && nat_lt r.stamp g) (lt-leb s r.stamp early)

  later : (r : Record) → s ≤ r.stamp → g ≤ r.stamp → (nat_le s r.stamp && nat_lt r.stamp g) ≡ false
  later r late past = ap (λ b. b && nat_lt r.stamp g) (le-leb s r.stamp late) ∙ le-ltb r.stamp g past

  pub found : (i : ℕ) (rs : List Record) (r : Record) → slice_get rs i ≡ Some r → s ≤ r.stamp → r.stamp < g → any_between s g rs ≡ true
  found i [] r at late early = absurd (none-some r at)
  found zero (x ∷ rs) r at late early =
      let same = ap (λ (y : Record). y.stamp) (same_Some x r at) in
      ap (λ b. b || any_between s g rs) (one x (omega (arith, late, same)) (omega (arith, early, same)))
  found (suc i) (x ∷ rs) r at late early = ap (λ b. (nat_le s x.stamp && nat_lt x.stamp g) || b) (found i rs r at late early) ∙ or_true (nat_le s x.stamp && nat_lt x.stamp g)

  -- the record before those that are known stands after them all
  pub passed : (i : ℕ) (rs : List Record) (r : Record) → slice_get rs i ≡ Some r → s ≤ r.stamp → g ≤ r.stamp → any_between s g (drop (suc i) rs) ≡ false → any_between s g (drop i rs) ≡ false
  passed i [] r at late past rest = absurd (none-some r at)
  passed zero (x ∷ rs) r at late past rest =
      let same = ap (λ (y : Record). y.stamp) (same_Some x r at) in
      ap (λ b. b || any_between s g rs) (later x (omega (arith, late, same)) (omega (arith, past, same))) ∙ rest
  passed (suc i) (x ∷ rs) r at late past rest = passed i rs r at late past rest

  -- where one stands before s, so do all before it
  pub none_earlier : (floor i : ℕ) (rs : List Record) (r : Record) → Rises floor rs → slice_get rs i ≡ Some r → r.stamp < s → any_between s g (drop (suc i) rs) ≡ false → any_between s g rs ≡ false
  none_earlier floor i [] r h at early rest = absurd (none-some r at)
  none_earlier floor zero (x ∷ rs) r h at early rest =
      let same = ap (λ (y : Record). y.stamp) (same_Some x r at) in
      ap (λ b. b || any_between s g rs) (earlier x (omega (arith, early, same))) ∙ rest
  none_earlier floor (suc i) (x ∷ rs) r h at early rest =
      let low = rises_at (x.stamp + 1) i rs r h.1 at in
      ap (λ b. b || any_between s g rs) (earlier x (omega (arith, early, low))) ∙ none_earlier (x.stamp + 1) i rs r h.1 at early rest

-- the records of a history
pub records_shown : {S R : Type 0} (es : List (Entry S R)) (a c : List Message) → records_of (shown es a c) ≡ map (λ (e : Entry S R). e.step.done) es
records_shown [] a c = refl
records_shown (e ∷ es) a c = ap (λ l. e.step.done ∷ l) (records_shown es (drop e.consumed a) (drop e.sent c))

pub stood_rises : {S : Type 0} (valid : S → Type 0) (m : Meaning S) (floor : ℕ) (steps : List (Step S)) → Stood valid m floor steps → Rises floor (records_of steps)
stood_rises valid m floor [] h = tt
stood_rises valid m floor (step ∷ steps) h = (h.1, stood_rises valid m (step.entry.stamp + 1) steps h.3)

pub length_records : {S : Type 0} (steps : List (Step S)) → length (records_of steps) ≡ length steps
length_records [] = refl
length_records (step ∷ steps) = ap suc (length_records steps)
