-- A text with each run of blanks as one, letter by letter.
use Rattle.std.proofs.Common.{◌≡◌, ◌∙◌, ◌<◌, ◌≤◌, ◌++◌, ◌∷◌, [], ℕ, suc, Bool, true, false, true≢false, cond, List, ap, append-nil, append_assoc, arith, codes, filter, flat_map, get_or, length, refl, sym, ⊎_elim}
use Rattle.std.specs.Prelude.{encode_utf8}
use Rattle.std.specs.List.{onto_first, slice_split}
use Rattle.std.proofs.lemmas.Bool.{cases_lt}
use Rattle.std.proofs.lemmas.Bool.Decides.{nat_tests}
use Rattle.std.proofs.lemmas.Str.{encode_ascii, inside_one, len_utf8_bounds, length-encode}
use Rattle.std.proofs.lemmas.List.Splits.{slice_split-cons_no, slice_split-cons_yes}
use Rattle.tw_figure_names.specs.Texts.{is_blank, joined, parted, some_text}

-- words behind others
abbrev pub more : List (List ℕ) → List ℕ
more texts = flat_map (λ t. codes " " ++ t) (filter some_text texts)

-- what comes behind a letter, where these stand between blanks: the first goes on with its word, if no blank came
abbrev pub ahead : Bool → List (List ℕ) → List ℕ
ahead true texts = more texts
ahead false [] = []
ahead false (text ∷ texts) = text ++ more texts

-- what comes behind what was written
abbrev pub rest : List ℕ → Bool → List (List ℕ) → List ℕ
rest [] is_parted texts = joined (codes " ") (filter some_text texts)
rest (c ∷ cs) is_parted texts = ahead is_parted texts

-- ---- a blank

pub past_blank : (out : List ℕ) (is_parted : Bool) (c : ℕ) (text : List ℕ) → is_blank c ≡ true → rest out is_parted (slice_split is_blank (c ∷ text)) ≡ rest out true (slice_split is_blank text)
past_blank [] is_parted c text is = ap (λ ts. rest [] is_parted ts) (slice_split-cons_yes is_blank c text is)
past_blank (b ∷ bs) true c text is = ap (λ ts. more ts) (slice_split-cons_yes is_blank c text is)
past_blank (b ∷ bs) false c text is = ap (λ ts. ahead false ts) (slice_split-cons_yes is_blank c text is)

-- ---- a letter

-- bytes of which none is a blank
abbrev pub NoBlank : List ℕ → Type 0
NoBlank text = (k : ℕ) → k < length text → is_blank (get_or text k 0) ≡ false

-- something stands before the first blank
pub some_split : (text : List ℕ) → (first : List ℕ) × (others : List (List ℕ)) × (slice_split is_blank text ≡ first ∷ others)
some_split [] = ([], [], refl)
some_split (c ∷ cs) =
    let before = some_split cs in
    elim (is_blank c) as (λ b. (first : List ℕ) × (others : List (List ℕ)) × (cond b ([] ∷ slice_split is_blank cs) (onto_first c (slice_split is_blank cs)) ≡ first ∷ others))
    [ true ↦ ([], slice_split is_blank cs, refl) | false ↦ (c ∷ before.0, before.1, ap (onto_first c) before.2) ]

pub past_letters : (es text first : List ℕ) (others : List (List ℕ)) → NoBlank es → slice_split is_blank text ≡ first ∷ others → slice_split is_blank (es ++ text) ≡ (es ++ first) ∷ others
past_letters [] text first others none is = is
past_letters (e ∷ es) text first others none is =
    slice_split-cons_no is_blank e (es ++ text) (none 0 (omega arith))
    ∙ ap (onto_first e) (past_letters es text first others (λ k below. none (suc k) (omega arith)) is)

regroup : (a b c d : List ℕ) → a ++ ((b ++ c) ++ d) ≡ (a ++ b) ++ (c ++ d)
regroup a b c d = simp append_assoc

regroup_behind : (a b c d e : List ℕ) → a ++ ((b ++ (c ++ d)) ++ e) ≡ ((a ++ b) ++ c) ++ (d ++ e)
regroup_behind a b c d e = simp append_assoc

-- the bytes of a letter, which no blank is among
past_letter : (out es text : List ℕ) (is_parted : Bool) → 0 < length es → NoBlank es
    → out ++ rest out is_parted (slice_split is_blank (es ++ text)) ≡ (parted is_parted out ++ es) ++ rest (parted is_parted out ++ es) false (slice_split is_blank text)
past_letter out [] text is_parted some none = absurd (omega arith)
past_letter [] (e ∷ es) text is_parted some none =
    let s = some_split text in
    ap (λ ts. rest [] is_parted ts) (past_letters (e ∷ es) text s.0 s.1 none s.2)
    ∙ append_assoc (e ∷ es) s.0 (more s.1)
    ∙ sym (ap (λ ts. (e ∷ es) ++ ahead false ts) s.2)
past_letter (b ∷ bs) (e ∷ es) text false some none =
    let s = some_split text in
    ap (λ ts. (b ∷ bs) ++ ahead false ts) (past_letters (e ∷ es) text s.0 s.1 none s.2)
    ∙ regroup (b ∷ bs) (e ∷ es) s.0 (more s.1)
    ∙ sym (ap (λ ts. ((b ∷ bs) ++ (e ∷ es)) ++ ahead false ts) s.2)
past_letter (b ∷ bs) (e ∷ es) text true some none =
    let s = some_split text in
    ap (λ ts. (b ∷ bs) ++ more ts) (past_letters (e ∷ es) text s.0 s.1 none s.2)
    ∙ regroup_behind (b ∷ bs) (codes " ") (e ∷ es) s.0 (more s.1)
    ∙ sym (ap (λ ts. (((b ∷ bs) ++ codes " ") ++ (e ∷ es)) ++ ahead false ts) s.2)

-- ---- the next letter of a text

past_ascii : (c : ℕ) → 128 ≤ c → is_blank c ≡ false
past_ascii c high = grind (arith, nat_tests)

blank_byte : (c : ℕ) → is_blank c ≡ true → encode_utf8 c ≡ c ∷ []
blank_byte c is = encode_ascii c (⊎_elim (λ low. low) (λ high. absurd (true≢false (sym is ∙ past_ascii c high))) (cases_lt c 128))

letter_bytes : (c : ℕ) → is_blank c ≡ false → NoBlank (encode_utf8 c)
letter_bytes c is = λ k below.
    ⊎_elim (λ low. ap is_blank (sym (inside_one c [] (encode_utf8 c) k (sym (append-nil (encode_utf8 c))) below low)) ∙ is)
    (λ high. past_ascii (get_or (encode_utf8 c) k 0) high)
    (cases_lt (get_or (encode_utf8 c) k 0) 128)

pub after_blank : (out text left : List ℕ) (is_parted : Bool) (c : ℕ) → is_blank c ≡ true → text ≡ encode_utf8 c ++ left
    → out ++ rest out is_parted (slice_split is_blank text) ≡ out ++ rest out true (slice_split is_blank left)
after_blank out text left is_parted c is next =
    ap (λ t. out ++ rest out is_parted (slice_split is_blank t)) (next ∙ ap (λ es. es ++ left) (blank_byte c is))
    ∙ ap (λ more. out ++ more) (past_blank out is_parted c left is)

pub after_letter : (out text left new : List ℕ) (is_parted : Bool) (c : ℕ) → is_blank c ≡ false → text ≡ encode_utf8 c ++ left → new ≡ parted is_parted out ++ encode_utf8 c
    → out ++ rest out is_parted (slice_split is_blank text) ≡ new ++ rest new false (slice_split is_blank left)
after_letter out text left new is_parted c is next written =
    ap (λ t. out ++ rest out is_parted (slice_split is_blank t)) next
    ∙ past_letter out (encode_utf8 c) left is_parted (omega (arith, length-encode c, (len_utf8_bounds c).0)) (letter_bytes c is)
    ∙ sym (ap (λ w. w ++ rest w false (slice_split is_blank left)) written)

-- nothing is to come
pub at_end : (out : List ℕ) (is_parted : Bool) → out ++ rest out is_parted (slice_split is_blank []) ≡ out
at_end [] is_parted = refl
at_end (c ∷ cs) true = append-nil (c ∷ cs)
at_end (c ∷ cs) false = append-nil (c ∷ cs)
