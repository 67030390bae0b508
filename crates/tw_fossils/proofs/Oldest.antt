-- The oldest steps leave a history one after another.
use Rattle.std.proofs.Common.{◌≡◌, ℕ, zero, suc, ◌+◌, ◌<◌, List, [], ◌∷◌, ◌++◌, length, take, drop, Some, refl, sym, ap, ◌∙◌, arith}
use Rattle.tw_process.specs.Process.{Held, left_by, oldest_of, with_history, with_spare, without_oldest, without_first}
use Rattle.tw_theory.specs.Contents.{records_of}
use Rattle.tw_theory.specs.LocalRun.{Step}
use Rattle.tw_theory.specs.Standing.{floor_after}
use Rattle.tw_theory.proofs.Histories.{floor_push}

-- the k-th step of a history
pub record Oldest {S : Type 0} (h : List (Step S)) (k : ℕ) : Type 0 where
  pub step : Step S
  pub rest : List (Step S)
  pub split : drop k h ≡ step ∷ rest
  pub dropped : drop (k + 1) h ≡ rest
  pub taken : take (k + 1) h ≡ take k h ++ step ∷ []

pub oldest_at : {S : Type 0} (h : List (Step S)) (k : ℕ) → k < length h → Oldest h k
oldest_at [] k less = absurd (omega (arith, less))
oldest_at (x ∷ h) zero less = record { step = x; rest = h; split = refl; dropped = refl; taken = refl }
oldest_at (x ∷ h) (suc k) less =
    let o = oldest_at h k (omega (arith, less)) in
    let next : suc k + 1 ≡ suc (k + 1) = omega arith in
    record { step = o.step; rest = o.rest; split = o.split; dropped = ap (λ n. drop n (x ∷ h)) next ∙ o.dropped; taken = ap (λ n. take n (x ∷ h)) next ∙ ap (λ l. x ∷ l) o.taken }

pub one_more : {M S : Type 0} (p : Held M S) (k : ℕ) → k < length p.process.history → without_oldest (without_first k p) ≡ without_first (k + 1) p
one_more p k less =
    let o = oldest_at p.process.history k less in
    ap (left_by (without_first k p)) o.split
    ∙ (λ i. record p { process = with_history p.process (sym o.dropped i); floor = sym (ap (floor_after p.floor) o.taken ∙ floor_push p.floor (take k p.process.history) o.step) i })

pub oldest_some : {M S : Type 0} (p : Held M S) (k : ℕ) (less : k < length p.process.history) → oldest_of (drop k p.process.history) ≡ Some (oldest_at p.process.history k less).step.entry
oldest_some p k less = ap oldest_of (oldest_at p.process.history k less).split

records_push : {S : Type 0} (xs : List (Step S)) (x : Step S) → records_of (xs ++ x ∷ []) ≡ records_of xs ++ x.entry ∷ []
records_push [] x = refl
records_push (y ∷ xs) x = ap (λ l. y.entry ∷ l) (records_push xs x)

pub records_more : {S : Type 0} (h : List (Step S)) (k : ℕ) (less : k < length h) → records_of (take (k + 1) h) ≡ records_of (take k h) ++ (oldest_at h k less).step.entry ∷ []
records_more h k less = let o = oldest_at h k less in ap (λ l. records_of l) o.taken ∙ records_push (take k h) o.step

pub spare_left : {M S : Type 0} (s x : ℕ) (q : Held M S) (h : List (Step S)) → with_spare s (left_by (with_spare x q) h) ≡ with_spare s (left_by q h)
spare_left s x q [] = refl
spare_left s x q (step ∷ h) = refl
