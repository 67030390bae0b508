-- Names as the texts of strings.
use Rattle.std.proofs.Common.{◌≡◌, ℕ, ◌<◌, ◌≤◌, Bool, true, false, List, [], ◌∷◌, length, map, refl, sym, ap, ◌∙◌, arith, String, string_bytes, ◌||◌, nat_lt, Option, None, Some, IfSome, IfNone, cond, slice_index_or, slice_get, zero, suc, true≢false}
use Rattle.std.specs.Global.{Global}
use Rattle.std.specs.List.{list_any, position, position_or_len, Contains}
use Rattle.std.specs.Str.{bytes_eq}
use Rattle.std.proofs.lemmas.Bool.{ltb-true, ltb-false}
use Rattle.std.proofs.lemmas.List.{get_or-map, length-map}
use Rattle.std.proofs.lemmas.List.Sums.{fails_before_first, passes_at_first}
use Rattle.std.proofs.lemmas.Slice.Eq.{bytes_eq-Decides}
use Rattle.tw_network.specs.Faults.{has_name}

-- a name among strings
pub has_name_of_keys : (keys : List (String Global)) (name : List ℕ) → has_name (map string_bytes keys) name ≡ list_any (λ k. bytes_eq name (string_bytes k)) keys
has_name_of_keys [] name = refl
has_name_of_keys (k ∷ keys) name = ap (λ b. bytes_eq name (string_bytes k) || b) (has_name_of_keys keys name)

-- a text is equal to itself
pub text_itself : (text : List ℕ) → bytes_eq text text ≡ true
text_itself text = (bytes_eq-Decides text text).1 refl

same_text : (one other : List ℕ) → bytes_eq one other ≡ true → one ≡ other
same_text one other = (bytes_eq-Decides one other).0

at_index : (texts : List (List ℕ)) (i : ℕ) (d : List ℕ) → i < length texts → slice_get texts i ≡ Some (slice_index_or texts i d)
at_index [] i d lt = absurd (omega (arith, lt))
at_index (t ∷ ts) zero d lt = refl
at_index (t ∷ ts) (suc i) d lt = at_index ts i d (omega (arith, lt))

-- what a look-up of a name finds has that name
name_at_position : (name : List ℕ) (keys : List (String Global)) (i : ℕ) → position (λ k. bytes_eq name (string_bytes k)) keys ≡ Some i → slice_get (map string_bytes keys) i ≡ Some name
name_at_position name [] i e = absurd cc
name_at_position name (k ∷ keys) i e = go (nat_lt (position_or_len (λ k. bytes_eq name (string_bytes k)) (k ∷ keys)) (length (k ∷ keys))) refl e
  where
    go : (b : Bool) → nat_lt (position_or_len (λ k. bytes_eq name (string_bytes k)) (k ∷ keys)) (length (k ∷ keys)) ≡ b → cond b (Some (position_or_len (λ k. bytes_eq name (string_bytes k)) (k ∷ keys))) None ≡ Some i → slice_get (map string_bytes (k ∷ keys)) i ≡ Some name
    go true lt is =
        let q : String Global → Bool = λ k. bytes_eq name (string_bytes k) in
        let place = position_or_len q (k ∷ keys) in
        let within : place < length (k ∷ keys) = ltb-true place (length (k ∷ keys)) lt in
        let here : place ≡ i = cc in
        let same = same_text name _ (passes_at_first q (k ∷ keys) k within) in
        let there = at_index (map string_bytes (k ∷ keys)) place name (omega (arith, within, length-map (k ∷ keys) string_bytes)) in
        let text = get_or-map string_bytes (k ∷ keys) place k name within in
        ap (slice_get (map string_bytes (k ∷ keys))) (sym here) ∙ there ∙ ap (λ t. Some t) (text ∙ sym same)
    go false lt is = absurd cc

-- and where it finds nothing, nothing has that name
no_name_at_none : (name : List ℕ) (keys : List (String Global)) → position (λ k. bytes_eq name (string_bytes k)) keys ≡ None → Contains (map string_bytes keys) name → ⊥
no_name_at_none name [] e there = let lt = there.1 in omega (arith, lt)
no_name_at_none name (k ∷ keys) e there = go (nat_lt (position_or_len (λ k. bytes_eq name (string_bytes k)) (k ∷ keys)) (length (k ∷ keys))) refl e
  where
    go : (b : Bool) → nat_lt (position_or_len (λ k. bytes_eq name (string_bytes k)) (k ∷ keys)) (length (k ∷ keys)) ≡ b → cond b (Some (position_or_len (λ k. bytes_eq name (string_bytes k)) (k ∷ keys))) None ≡ None → ⊥
    go true lt is = absurd cc
    go false lt is =
        let q : String Global → Bool = λ k. bytes_eq name (string_bytes k) in
        let place = position_or_len q (k ∷ keys) in
        let past : length (k ∷ keys) ≤ place = ltb-false place (length (k ∷ keys)) lt in
        let within : there.0 < length (k ∷ keys) = omega (arith, there.1, length-map (k ∷ keys) string_bytes) in
        let differs = fails_before_first q (k ∷ keys) there.0 k (omega (arith, within, past)) in
        let text = get_or-map string_bytes (k ∷ keys) there.0 k name within in
        true≢false (sym (text_itself name) ∙ ap (bytes_eq name) (sym there.2 ∙ text) ∙ differs)

pub look_up_finds : (name : List ℕ) (keys : List (String Global)) → IfSome (position (λ k. bytes_eq name (string_bytes k)) keys) (λ i. slice_get (map string_bytes keys) i ≡ Some name)
look_up_finds name keys = go (position (λ k. bytes_eq name (string_bytes k)) keys) refl
  where
    go : (o : Option ℕ) → position (λ k. bytes_eq name (string_bytes k)) keys ≡ o → IfSome o (λ i. slice_get (map string_bytes keys) i ≡ Some name)
    go None e = tt
    go (Some i) e = name_at_position name keys i e

pub look_up_misses : (name : List ℕ) (keys : List (String Global)) → IfNone (position (λ k. bytes_eq name (string_bytes k)) keys) (¬ Contains (map string_bytes keys) name)
look_up_misses name keys = go (position (λ k. bytes_eq name (string_bytes k)) keys) refl
  where
    go : (o : Option ℕ) → position (λ k. bytes_eq name (string_bytes k)) keys ≡ o → IfNone o (¬ Contains (map string_bytes keys) name)
    go None e = no_name_at_none name keys e
    go (Some i) e = tt
