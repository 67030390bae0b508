-- Which component is given out.
use Rattle.std.proofs.Common.{◌≡◌, ℕ, zero, suc, ◌+◌, ◌<◌, ◌≤◌, ◌⊎◌, inl, inr, length, List, Bool, true, false, true≢false, cond, Option, Some, None, refl, sym, ap, ◌∙◌, subst, arith, ⊎_elim}
use Rattle.std.specs.Prelude.{nat_le, slice_get}
use Rattle.std.proofs.lemmas.Bool.{cond_both, leb-false, cases_lt, cases_eq}
use Rattle.std.proofs.lemmas.Option.{same_Some, none-some, slice_get_within}
use Rattle.tw_vtime.specs.Stamps.{stamp, never, max_tick, tick_of}
use Rattle.tw_theory.specs.Contents.{Process, next}
use Rattle.tw_theory.specs.Exchange.{MayDraw, IsDrawn, bound_of}
use Rattle.tw_laws.specs.Exchange.{DrawLaw}

-- the bound of the window alone
abbrev window_of : ℕ → ℕ → ℕ
window_of gvt window = cond (nat_le (tick_of gvt + window + 1) max_tick) (stamp (tick_of gvt + window + 1) 0 0) never

bound_is : (until gvt window s : ℕ) → until ≤ max_tick → s < stamp until 0 0 → tick_of s ≤ tick_of gvt + window → s < window_of gvt window
bound_is until gvt window s top end near = cond_both (nat_le (tick_of gvt + window + 1) max_tick) _ _ (λ n. s < n) (λ e. omega arith) (λ e. omega arith)

within_is : (until gvt window s : ℕ) → until ≤ max_tick → s < stamp until 0 0 → s < window_of gvt window → tick_of s ≤ tick_of gvt + window
within_is until gvt window s top end =
    cond_both (nat_le (tick_of gvt + window + 1) max_tick) _ _ (λ n. s < n → tick_of s ≤ tick_of gvt + window) (λ e l. omega arith)
    (λ e l. let late = leb-false (tick_of gvt + window + 1) max_tick e in omega arith)

module _ {S : Type 0} (until gvt window : ℕ) (busy : List Bool) (ps : List (Process S)) where
  -- component d may be given out
  record IsFree (d : ℕ) (q : Process S) : Type 0 where
    at : slice_get ps d ≡ Some q
    free : slice_get busy d ≡ Some false
    may : MayDraw until gvt window q

  -- p, component c, is at or before component d
  abbrev Leads : ℕ → Process S → ℕ → Process S → Type 0
  Leads c p d q = (next p < next q) ⊎ ((next p ≡ next q) × (c ≤ d))

  -- of the first n components
  data Best (n : ℕ) : Type 0 where
    Found : (c : ℕ) (p : Process S) → IsFree c p → c < n → ((d : ℕ) (q : Process S) → d < n → IsFree d q → Leads c p d q) → Best n
    Nothing : ((d : ℕ) (q : Process S) → d < n → IsFree d q → ⊥) → Best n

  -- whether component d may be given out
  test : (d : ℕ) → ((q : Process S) × IsFree d q) ⊎ ((q : Process S) → IsFree d q → ⊥)
  test d = go (slice_get ps d) refl (slice_get busy d) refl
    where
      go : (o : Option (Process S)) → slice_get ps d ≡ o → (b : Option Bool) → slice_get busy d ≡ b → ((q : Process S) × IsFree d q) ⊎ ((q : Process S) → IsFree d q → ⊥)
      go None e b k = inr (λ q f. none-some q (sym e ∙ f.at))
      go (Some p) e None k = inr (λ q f. none-some false (sym k ∙ f.free))
      go (Some p) e (Some true) k = inr (λ q f. true≢false (same_Some true false (sym k ∙ f.free)))
      go (Some p) e (Some false) k =
          ⊎_elim
          (λ l. ⊎_elim
          (λ m. inl (p, record { at = e; free = k; may = (l, omega arith) }))
          (λ m. inr (λ q f. let same : p ≡ q = same_Some p q (sym e ∙ f.at) in let n : next p ≡ next q = ap (λ (x : Process S). next x) same in let may = f.may.1 in absurd (omega (arith, m, subst (λ s. tick_of s ≤ tick_of gvt + window) (sym n) may))))
          (cases_lt (tick_of (next p)) (suc (tick_of gvt + window))))
          (λ l. inr (λ q f. let same : p ≡ q = same_Some p q (sym e ∙ f.at) in let n : next p ≡ next q = ap (λ (x : Process S). next x) same in let may = f.may.0 in absurd (omega (arith, l, n, may))))
          (cases_lt (next p) (stamp until 0 0))

  best : (n : ℕ) → Best n
  best zero = Nothing (λ d q l f. absurd (omega arith))
  best (suc n) = more (best n) (test n)
    where
      alone : (q r : Process S) → IsFree n q → IsFree n r → next q ≡ next r
      alone q r f g = ap (λ (x : Process S). next x) (same_Some q r (sym f.at ∙ g.at))

      more : Best n → ((q : Process S) × IsFree n q) ⊎ ((q : Process S) → IsFree n q → ⊥) → Best (suc n)
      more (Nothing none) (inl (q, f)) =
          Found n q f (omega arith) (λ d r l g. ⊎_elim (λ same. inr (alone q r f (subst (λ k. IsFree k r) same g), omega arith)) (λ ne. absurd (none d r (omega (arith, l, ne)) g)) (cases_eq d n))
      more (Nothing none) (inr taken) = Nothing (λ d r l g. ⊎_elim (λ same. taken r (subst (λ k. IsFree k r) same g)) (λ ne. none d r (omega (arith, l, ne)) g) (cases_eq d n))
      more (Found c p f l least) (inr taken) =
          Found c p f (omega arith) (λ d r m g. ⊎_elim (λ same. absurd (taken r (subst (λ k. IsFree k r) same g))) (λ ne. least d r (omega (arith, m, ne)) g) (cases_eq d n))
      more (Found c p f l least) (inl (q, g)) =
          ⊎_elim
          (λ sooner. Found n q g (omega arith) (λ d r m k.
          ⊎_elim (λ same. inr (alone q r g (subst (λ x. IsFree x r) same k), omega arith)) (λ ne. inl (⊎_elim (λ a. omega (arith, a, sooner)) (λ a. omega (arith, a.0, sooner)) (least d r (omega (arith, m, ne)) k))) (cases_eq d n)))
          (λ later. Found c p f (omega arith) (λ d r m k.
          ⊎_elim (λ same. let e = alone q r g (subst (λ x. IsFree x r) same k) in ⊎_elim (λ a. inl (omega (arith, a, e))) (λ a. inr (omega (arith, a, later, e), omega arith)) (cases_lt (next p) (next q))) (λ ne. least d r (omega (arith, m, ne)) k) (cases_eq d n)))
          (cases_lt (next q) (next p))

  some : ((c : ℕ) × IsDrawn until gvt window busy ps c)
      ⊎ ((d : ℕ) (q : Process S) → slice_get ps d ≡ Some q → slice_get busy d ≡ Some false → MayDraw until gvt window q → ⊥)
  some = go (best (length ps))
    where
      go : Best (length ps) → ((c : ℕ) × IsDrawn until gvt window busy ps c) ⊎ ((d : ℕ) (q : Process S) → slice_get ps d ≡ Some q → slice_get busy d ≡ Some false → MayDraw until gvt window q → ⊥)
      go (Found c p f l least) = inl (c, record { process = p; at = f.at; free = f.free; may = f.may; least = λ d q at free may. least d q (slice_get_within ps d q at) (record { at = at; free = free; may = may }) })
      go (Nothing none) = inr (λ d q at free may. none d q (slice_get_within ps d q at) (record { at = at; free = free; may = may }))

pub draw_law : {S : Type 0} → DrawLaw S
draw_law {S} = record { bound = bound; within = within; some = λ until gvt window busy ps. some until gvt window busy ps; one = one }
  where
    bound : (until gvt window : ℕ) (p : Process S) → until ≤ max_tick → MayDraw until gvt window p → next p < bound_of until gvt window
    bound until gvt window p top may = let a = may.0 in let b = bound_is until gvt window (next p) top may.0 may.1 in omega arith

    within : (until gvt window : ℕ) (p : Process S) → until ≤ max_tick → next p < bound_of until gvt window → MayDraw until gvt window p
    within until gvt window p top l = let a : next p < stamp until 0 0 = omega arith in let b : next p < window_of gvt window = omega arith in (a, within_is until gvt window (next p) top a b)

    one : (until gvt window : ℕ) (busy : List Bool) (ps : List (Process S)) (c d : ℕ) → IsDrawn until gvt window busy ps c → IsDrawn until gvt window busy ps d → c ≡ d
    one until gvt window busy ps c d x y =
        ⊎_elim
        (λ l. ⊎_elim (λ m. absurd (omega (arith, l, m))) (λ m. absurd (omega (arith, l, m.0))) (y.least c x.process x.at x.free x.may))
        (λ l. ⊎_elim (λ m. absurd (omega (arith, l.0, m))) (λ m. omega (arith, l.1, m.1)) (y.least c x.process x.at x.free x.may))
        (x.least d y.process y.at y.free y.may)
