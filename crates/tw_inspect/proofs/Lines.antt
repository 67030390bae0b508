-- The lines of one component more, and of one message more.
use Rattle.std.proofs.Common.{◌≡◌, ◌∙◌, ◌++◌, ◌+◌, ◌<◌, ◌≤◌, ◌∷◌, [], ℕ, List, ap, sym, length, get_or, drop, add-one, zero-add, append-nil, append_assoc, arith}
use Rattle.std.specs.Prelude.{flat_map, zero, suc}
use Rattle.std.specs.List.{range_with_len}
use Rattle.std.proofs.lemmas.Grind.{flat_map-append}
use Rattle.std.proofs.lemmas.List.{drop_all, drop_more}

range_more : (a n : ℕ) → range_with_len a (suc n) ≡ range_with_len a n ++ (a + n) ∷ []
range_more a zero = let e : a ≡ a + 0 = omega arith in ap (λ x. x ∷ []) e
range_more a (suc n) =
    let e : a + 1 + n ≡ a + suc n = omega arith in
    ap (λ l. a ∷ l) (range_more (a + 1) n ∙ ap (λ x. range_with_len (a + 1) n ++ x ∷ []) e)

pub lines_more : (line : ℕ → List ℕ) (n : ℕ) → flat_map line (range_with_len 0 (n + 1)) ≡ flat_map line (range_with_len 0 n) ++ line n
lines_more line n =
    ap (λ k. flat_map line (range_with_len 0 k)) (add-one n) ∙ ap (flat_map line) (range_more 0 n) ∙ flat_map-append line (range_with_len 0 n) ((0 + n) ∷ [])
    ∙ ap (λ l. flat_map line (range_with_len 0 n) ++ l) (append-nil (line (0 + n)) ∙ ap line (zero-add n))

-- the next line is written, and is no longer to come
pub next_line : {X : Type 0} (line : X → List ℕ) (t new whole : List ℕ) (xs : List X) (i : ℕ) (x : X)
    → i < length xs → x ≡ get_or xs i x → new ≡ t ++ line x → t ++ flat_map line (drop i xs) ≡ whole → new ++ flat_map line (drop (i + 1) xs) ≡ whole
next_line line t new whole xs i x there is p q =
    let rest : List ℕ = flat_map line (drop (i + 1) xs) in
    ap (λ l. l ++ rest) p ∙ append_assoc t (line x) rest ∙ ap (λ y. t ++ (line y ++ rest)) is
    ∙ ap (λ l. t ++ flat_map line l) (sym (drop_more xs i x there)) ∙ q

-- where no line is to come, the whole is written
pub all_lines : {X : Type 0} (line : X → List ℕ) (t whole : List ℕ) (xs : List X) (i : ℕ) → length xs ≤ i → t ++ flat_map line (drop i xs) ≡ whole → t ≡ whole
all_lines line t whole xs i past q = sym (append-nil t) ∙ ap (λ l. t ++ flat_map line l) (sym (drop_all i xs past)) ∙ q

-- five parts, one after another, are one part
pub five_parts : (t a b c d e : List ℕ) → t ++ a ++ b ++ c ++ d ++ e ≡ t ++ (a ++ b ++ c ++ d ++ e)
five_parts t a b c d e = simp append_assoc

-- seven parts, one after another, are one part
pub seven_parts : (t a b c d e f g : List ℕ) → t ++ a ++ b ++ c ++ d ++ e ++ f ++ g ≡ t ++ (a ++ b ++ c ++ d ++ e ++ f ++ g)
seven_parts t a b c d e f g = simp append_assoc
