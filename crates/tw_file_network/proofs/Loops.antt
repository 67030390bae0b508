-- Reading a list of values one by one.
use Rattle.std.proofs.Common.{◌≡◌, ◌++◌, ◌∷◌, [], ◌+◌, ◌<◌, ℕ, suc, List, map, sym, refl, length, drop, get_or, append_assoc, add-one, drop-cons}
use Rattle.std.proofs.lemmas.List.{map-append}
use Rattle.std.specs.Prelude.{Option, Some, None, option_map}
use Rattle.serde_json.specs.Data.{Data}
use Rattle.serde_json.specs.View.{view, items_view}
use Rattle.serde_json.specs.declared.value.Value.{Value}
use Rattle.tw_file_network.specs.Shape.{all_read}

-- what the values from i on read, after what was read before
abbrev pub rest_read : {A : Type 0} → (Data → Option A) → List Value → List A → ℕ → Option (List A)
rest_read read vs done i = option_map (λ rest. done ++ rest) (all_read read (items_view (drop i vs)))

-- one thing more at the end
regroup : {A : Type 0} (done : List A) (x : A) (o : Option (List A))
    → option_map (λ rest. done ++ rest) (option_map (λ xs. x ∷ xs) o) ≡ option_map (λ rest. (done ++ x ∷ []) ++ rest) o
regroup done x None = refl
regroup done x (Some xs) = rw append_assoc refl

-- one value more
read_more : {A : Type 0} (read : Data → Option A) (vs : List Value) (done : List A) (i : ℕ) (v : Value) (x : A)
    → i < length vs → read (view (get_or vs i v)) ≡ Some x → rest_read read vs done i ≡ rest_read read vs (done ++ x ∷ []) (i + 1)
read_more read vs done i v x h is = rw (add-one, drop-cons vs i v, is) (regroup done x (all_read read (items_view (drop (suc i) vs))))

-- the same, of items that are kept as values of another type
pub read_more_as : {A B : Type 0} (read : Data → Option A) (made : B → A) (vs : List Value) (done : List B) (i : ℕ) (v : Value) (b : B)
    → i < length vs → Some (made b) ≡ read (view (get_or vs i v))
    → rest_read read vs (map made done) i ≡ rest_read read vs (map made (done ++ b ∷ [])) (i + 1)
read_more_as read made vs done i v b h is =
    rw map-append (read_more read vs (map made done) i v (made b) h (sym is))
