-- A text that is a stamp's is three numbers with dots between, or `end`.
use Rattle.std.proofs.Common.{◌≡◌, ◌≢◌, ◌≤◌, ◌++◌, ◌∷◌, [], ◌∙◌, ◌+◌, ◌%◌, ℕ, List, codes, decimal, refl, sym, ap, arith, Bool, true, false, true≢false, eqb, Bor, ⊎_elim, append_assoc}
use Rattle.std.proofs.lemmas.Bool.{eqb-true, ne_eqb}
use Rattle.std.specs.Prelude.{Option, Some, None, IfSome, IfNone, if◌then◌else◌, MatchOption}
use Rattle.std.proofs.lemmas.Fmt.{decimal_by_steps, decimal_injective}
use Rattle.std.proofs.lemmas.Str.Pattern.{split_after, IsSplitOnceResult}
use Rattle.tw_script.proofs.Cuts.{cut_once, free_append, free_cons, free_none, no_cut}
use Rattle.tw_script.specs.Words.{IsFree}
use Rattle.tw_vtime.specs.Stamps.{never, stamp, stamp_text, tick_of, micro_of, phase_of, IsInRange, IsStamp}

pub record IsWritten (word : List ℕ) (tick micro phase : ℕ) : Type 0 where
  pub in_range : IsInRange (record { tick = tick; micro = micro; phase = phase })
  pub is : word ≡ decimal tick ++ 46 ∷ (decimal micro ++ 46 ∷ decimal phase)

digit_free : (d : ℕ) → 48 ≤ d → IsFree 46 (d ∷ [])
digit_free d l = free_cons 46 d [] (λ e. omega (arith, l, e)) (free_none 46)

digits_free : (n : ℕ) → n ≤ 18446744073709551615 → IsFree 46 (decimal n)
digits_free n l = decimal_by_steps (λ m ds. IsFree 46 ds)
    (λ m h. digit_free (48 + m) (omega arith))
    (λ m ds h free. free_append 46 ds ((48 + m % 10) ∷ []) free (digit_free (48 + m % 10) (omega arith)))
    n (omega (arith, l))

abbrev text_by : ℕ → Bool → List ℕ
text_by s b = if b then codes "end" else (decimal (tick_of s) ++ codes "." ++ decimal (micro_of s) ++ codes "." ++ decimal (phase_of s))

regrouped : (a b c : List ℕ) → a ++ codes "." ++ b ++ codes "." ++ c ≡ a ++ 46 ∷ (b ++ 46 ∷ c)
regrouped a b c =
    append_assoc (a ++ codes "." ++ b) (codes ".") c
    ∙ append_assoc (a ++ codes ".") b (codes "." ++ c)
    ∙ append_assoc a (codes ".") (b ++ 46 ∷ c)

written_by : (s : ℕ) (word : List ℕ) (b : Bool) → eqb s never ≡ b → IsStamp s → (word ≡ codes "end" → ⊥) → word ≡ text_by s b → IsWritten word (tick_of s) (micro_of s) (phase_of s)
written_by s word true f h is_no_end e = absurd (is_no_end e)
written_by s word false f h is_no_end e = record {
  in_range = (⊎_elim (λ l. l) (λ is. absurd (true≢false (sym (ap (λ n. eqb n never) is) ∙ f))) h, omega arith, omega arith);
  is = e ∙ regrouped (decimal (tick_of s)) (decimal (micro_of s)) (decimal (phase_of s));
}

pub written : (s : ℕ) (word : List ℕ) → IsStamp s → (word ≡ codes "end" → ⊥) → word ≡ stamp_text s → IsWritten word (tick_of s) (micro_of s) (phase_of s)
written s word h is_no_end e = written_by s word (eqb s never) refl h is_no_end e

pub cut_first : (word : List ℕ) (t m p : ℕ) → IsWritten word t m p → (r : Option (Bor (List ℕ) × Bor (List ℕ))) → IsSplitOnceResult 46 word r
    → MatchOption r ⊥ (λ x. (x.0.now ≡ decimal t) × (x.1.now ≡ decimal m ++ 46 ∷ decimal p))
cut_first word t m p w r h = split_after 46 word (decimal t) (decimal m ++ 46 ∷ decimal p) r h (omega arith) w.is (digits_free t (omega (arith, w.in_range.0)))

pub cut_second : (rest : List ℕ) (t m p : ℕ) → IsInRange (record { tick = t; micro = m; phase = p }) → rest ≡ decimal m ++ 46 ∷ decimal p → (r : Option (Bor (List ℕ) × Bor (List ℕ))) → IsSplitOnceResult 46 rest r
    → MatchOption r ⊥ (λ x. (x.0.now ≡ decimal m) × (x.1.now ≡ decimal p))
cut_second rest t m p range is r h = split_after 46 rest (decimal m) (decimal p) r h (omega arith) is (digits_free m (omega (arith, range.1)))

text_of_parts : (t m p : ℕ) → IsInRange (record { tick = t; micro = m; phase = p }) → decimal t ++ 46 ∷ (decimal m ++ 46 ∷ decimal p) ≡ stamp_text (stamp t m p)
text_of_parts t m p h =
    let small : eqb (stamp t m p) never ≡ false = ne_eqb (stamp t m p) never (λ e. omega (arith, e, h.0, h.1, h.2)) in
    let tick : tick_of (stamp t m p) ≡ t = omega (arith, h.1, h.2) in
    let micro : micro_of (stamp t m p) ≡ m = omega (arith, h.1, h.2) in
    let phase : phase_of (stamp t m p) ≡ p = omega (arith, h.1, h.2) in
    sym (ap (text_by (stamp t m p)) small ∙ regrouped (decimal (tick_of (stamp t m p))) (decimal (micro_of (stamp t m p))) (decimal (phase_of (stamp t m p)))
    ∙ (λ i. decimal (tick i) ++ 46 ∷ (decimal (micro i) ++ 46 ∷ decimal (phase i))))

-- what a stamp of these three numbers is written as
pub some_written : (word : List ℕ) (t m p : ℕ) → word ≡ decimal t ++ 46 ∷ (decimal m ++ 46 ∷ decimal p) → (r : Option ℕ) → IfSome r (λ s. s ≡ stamp t m p) → IfSome r (λ _. IsInRange (record { tick = t; micro = m; phase = p })) → IfSome r (λ s. word ≡ stamp_text s)
some_written word t m p e None is h = is
some_written word t m p e (Some s) is h = e ∙ text_of_parts t m p h ∙ ap stamp_text (sym is)

pub none_written : (word : List ℕ) (t m p : ℕ) (r : Option ℕ) → IfNone r (IsInRange (record { tick = t; micro = m; phase = p }) → ⊥)
    → ((s : ℕ) → IsStamp s → word ≡ stamp_text s → IsInRange (record { tick = t; micro = m; phase = p })) → IfNone r ((s : ℕ) → IsStamp s → word ≢ stamp_text s)
none_written word t m p None out is_in = λ s is e. out (is_in s is e)
none_written word t m p (Some s) out is_in = out

pub in_range_by : {t m p u n q : ℕ} → IsInRange (record { tick = u; micro = n; phase = q }) → t ≤ 18446744073709551615 → m ≤ 18446744073709551615 → p ≤ 18446744073709551615
    → decimal t ≡ decimal u → decimal m ≡ decimal n → decimal p ≡ decimal q → IsInRange (record { tick = t; micro = m; phase = p })
in_range_by {t} {m} {p} {u} {n} {q} h a b c d e f = (
  omega (arith, h.0, decimal_injective t u (omega (arith, a)) (omega (arith, h.0)) d),
  omega (arith, h.1, decimal_injective m n (omega (arith, b)) (omega (arith, h.1)) e),
  omega (arith, h.2, decimal_injective p q (omega (arith, c)) (omega (arith, h.2)) f),
)

-- ---- a stamp is known by its text

end_free : IsFree 46 (codes "end")
end_free = free_cons 46 101 (110 ∷ 100 ∷ []) (λ e. omega (arith, e)) (free_cons 46 110 (100 ∷ []) (λ e. omega (arith, e)) (digit_free 100 (omega arith)))

no_end : (s : ℕ) → text_by s false ≡ codes "end" → ⊥
no_end s e = no_cut 46 (decimal (tick_of s)) (decimal (micro_of s) ++ 46 ∷ decimal (phase_of s)) (codes "end") (sym e ∙ regrouped (decimal (tick_of s)) (decimal (micro_of s)) (decimal (phase_of s))) end_free

tick_fits : (s : ℕ) → eqb s never ≡ false → IsStamp s → tick_of s ≤ 1099511627774
tick_fits s f h = ⊎_elim (λ l. l) (λ is. absurd (true≢false (sym (ap (λ n. eqb n never) is) ∙ f))) h

parts_same : (s t : ℕ) → tick_of s ≤ 1099511627774 → tick_of t ≤ 1099511627774 → text_by s false ≡ text_by t false → s ≡ t
parts_same s t l m e =
    let written = sym (regrouped (decimal (tick_of s)) (decimal (micro_of s)) (decimal (phase_of s))) ∙ e ∙ regrouped (decimal (tick_of t)) (decimal (micro_of t)) (decimal (phase_of t)) in
    let first = cut_once 46 (decimal (tick_of s)) _ (decimal (tick_of t)) _ (digits_free (tick_of s) (omega (arith, l))) (digits_free (tick_of t) (omega (arith, m))) written in
    let second = cut_once 46 (decimal (micro_of s)) _ (decimal (micro_of t)) _ (digits_free (micro_of s) (omega arith)) (digits_free (micro_of t) (omega arith)) first.1 in
    let tick : tick_of s ≡ tick_of t = decimal_injective (tick_of s) (tick_of t) (omega (arith, l)) (omega (arith, m)) first.0 in
    let micro : micro_of s ≡ micro_of t = decimal_injective (micro_of s) (micro_of t) (omega arith) (omega arith) second.0 in
    let phase : phase_of s ≡ phase_of t = decimal_injective (phase_of s) (phase_of t) (omega arith) (omega arith) second.1 in
    omega (arith, tick, micro, phase)

pub one_stamp : (s t : ℕ) → IsStamp s → IsStamp t → stamp_text s ≡ stamp_text t → s ≡ t
one_stamp s t h g e = by (eqb s never) (eqb t never) refl refl
  where
    by : (b d : Bool) → eqb s never ≡ b → eqb t never ≡ d → s ≡ t
    by true true x y = eqb-true s never x ∙ sym (eqb-true t never y)
    by true false x y = absurd (no_end t (sym (ap (text_by t) y) ∙ sym e ∙ ap (text_by s) x))
    by false true x y = absurd (no_end s (sym (ap (text_by s) x) ∙ e ∙ ap (text_by t) y))
    by false false x y = parts_same s t (tick_fits s x h) (tick_fits t y g) (sym (ap (text_by s) x) ∙ e ∙ ap (text_by t) y)
