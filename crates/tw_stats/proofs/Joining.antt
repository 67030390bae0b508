-- Texts that are joined, one after another.
use Rattle.std.proofs.Common.{◌≡◌, ◌<◌, ◌++◌, ◌+◌, ◌∷◌, ◌∙◌, [], ℕ, suc, List, length, get_or, drop, add-one, nat_lt, flat_map, if◌then◌else◌, refl, sym, ap, append_assoc, append-nil, arith}
use Rattle.std.specs.Prelude.{Bool, true, false}
use Rattle.std.specs.List.{join_by}
use Rattle.std.proofs.Math.Seq.{drop-cons}

-- the texts that are still to come, joined, behind others or at first
abbrev pub joined_from : List ℕ → Bool → List (List ℕ) → List ℕ
joined_from sep behind texts = if behind then flat_map (λ t. sep ++ t) texts else join_by (λ t. t) sep texts

pub joined_more : (sep : List ℕ) (behind : Bool) (text : List ℕ) (texts : List (List ℕ))
    → joined_from sep behind (text ∷ texts) ≡ (if behind then sep else []) ++ (text ++ joined_from sep true texts)
joined_more sep false text texts = refl
joined_more sep true text texts = append_assoc sep text (flat_map (λ t. sep ++ t) texts)

pub joined_end : (sep : List ℕ) (behind : Bool) → joined_from sep behind [] ≡ []
joined_end sep false = refl
joined_end sep true = refl

pub is_behind : (k : ℕ) → nat_lt 0 (k + 1) ≡ true
is_behind k = grind arith

-- a text more
pub adds_text : (sep : List ℕ) (place : ℕ) (text old new whole : List ℕ) (texts : List (List ℕ)) → new ≡ (old ++ (if nat_lt 0 place then sep else [])) ++ text
    → old ++ joined_from sep (nat_lt 0 place) (text ∷ texts) ≡ whole → new ++ joined_from sep (nat_lt 0 (place + 1)) texts ≡ whole
adds_text sep place text old new whole texts is had =
    let gap = if nat_lt 0 place then sep else [] in
    let rest = joined_from sep true texts in
    ap (λ b. new ++ joined_from sep b texts) (is_behind place)
    ∙ ap (λ l. l ++ rest) is
    ∙ append_assoc (old ++ gap) text rest
    ∙ append_assoc old gap (text ++ rest)
    ∙ ap (λ l. old ++ l) (sym (joined_more sep (nat_lt 0 place) text texts))
    ∙ had

-- ---- what is left of a list

pub rest_at : {X : Type 0} (xs : List X) (i : ℕ) (x : X) → i < length xs → x ≡ get_or xs i x → drop i xs ≡ x ∷ drop (i + 1) xs
rest_at xs i x within here = drop-cons xs i x within ∙ ap (λ y. y ∷ drop (suc i) xs) (sym here) ∙ ap (λ n. x ∷ drop n xs) (sym (add-one i))

-- ---- texts that are added, one behind another

pub record Adds (old new text : List ℕ) : Type 0 where
  pub is : new ≡ old ++ text

pub adds_both : {old mid new a b : List ℕ} → Adds old mid a → Adds mid new b → Adds old new (a ++ b)
adds_both {old} {mid} {new} {a} {b} first next = record { is = next.is ∙ ap (λ l. l ++ b) first.is ∙ append_assoc old a b }

pub adds_nothing : (text : List ℕ) → Adds text text []
adds_nothing text = record { is = sym (append-nil text) }
