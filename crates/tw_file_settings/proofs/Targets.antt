-- The way of a target, a component at a time.
use Rattle.std.proofs.Common.{◌≡◌, ◌∙◌, ◌<◌, ◌+◌, ℕ, zero, suc, List, [], ◌∷◌, Option, Some, None, Bool, true, false, length, arith, refl, sym, ap}
use Rattle.std.specs.Prelude.{codes, slice_set}
use Rattle.std.specs.List.{after_first, before_first, position_or_len, slice_index_or, slice_split}
use Rattle.std.proofs.lemmas.List.Splits.{slice_split_first}
use Rattle.serde_json.specs.Data.{Data, Num, Items, no_items, item, null, array}
use Rattle.serde_json.specs.View.{view, items_view}
use Rattle.serde_json.specs.declared.value.Value.{Value}
use Rattle.tw_file_settings.specs.Assigned.{assigned, component_changed, first_changed, parameter_set, path_set, place_named}
use Rattle.tw_file_settings.specs.Members.{components_of, is_named, with_at}
use Rattle.tw_file_settings.specs.Texts.{is_dot}
use Rattle.tw_file_settings.proofs.Putting.{with_again}

-- ---- the target

unsplit : (t : List ℕ) → position_or_len is_dot t ≡ length t → slice_split is_dot t ≡ t ∷ []
unsplit [] is = refl
unsplit (b ∷ t) is = go (is_dot b) refl (unsplit t)
  where
    go : (yes : Bool) → is_dot b ≡ yes → (position_or_len is_dot t ≡ length t → slice_split is_dot t ≡ t ∷ []) → slice_split is_dot (b ∷ t) ≡ (b ∷ t) ∷ []
    go true e rest = let at : 0 ≡ suc (length t) = rw e at is in absurd (omega (arith, at))
    go false e rest =
        let at : 1 + position_or_len is_dot t ≡ suc (length t) = rw e at is in
        let later : position_or_len is_dot t ≡ length t = omega (arith, at) in
        rw (e, rest later) refl

-- without a dot it is a parameter
pub parameter_alone : (t : List ℕ) (n : Num) (d : Data) → position_or_len is_dot t ≡ length t → assigned t n d ≡ parameter_set t n d
parameter_alone t n d is = ap (λ path. path_set path n d) (unsplit t is)

some_part : (t : List ℕ) → (first : List ℕ) × (rest : List (List ℕ)) × (slice_split is_dot t ≡ first ∷ rest)
some_part [] = ([], [], refl)
some_part (b ∷ t) = go (is_dot b) refl (some_part t)
  where
    go : (yes : Bool) → is_dot b ≡ yes → ((first : List ℕ) × (rest : List (List ℕ)) × (slice_split is_dot t ≡ first ∷ rest)) → (first : List ℕ) × (rest : List (List ℕ)) × (slice_split is_dot (b ∷ t) ≡ first ∷ rest)
    go true e more = ([], slice_split is_dot t, rw e refl)
    go false e (first, rest, is) = (b ∷ first, rest, rw (e, is) refl)

-- before its first dot there is a component's name
component_first : (t : List ℕ) (n : Num) (d : Data) → position_or_len is_dot t < length t
    → assigned t n d ≡ component_changed (before_first is_dot t) (assigned (after_first is_dot t) n) d
component_first t n d within =
    let (first, rest, is) = some_part (after_first is_dot t) in
    let split : slice_split is_dot t ≡ before_first is_dot t ∷ first ∷ rest =
    slice_split_first is_dot t 0 within ∙ ap (λ more. before_first is_dot t ∷ more) is in
    ap (λ path. path_set path n d) split ∙ ap (λ path. component_changed (before_first is_dot t) (path_set path n) d) (sym is)

-- the same of a name and a rest that are known
pub component_named : (t : List ℕ) (n : Num) (d : Data) (name rest : List ℕ) → position_or_len is_dot t < length t → name ≡ before_first is_dot t → rest ≡ after_first is_dot t
    → assigned t n d ≡ component_changed name (assigned rest n) d
component_named t n d name rest within first after = rw (first, after) (component_first t n d within)

-- ---- the components

none_first : (name : List ℕ) (f : Data → Option Data) (ds : Items) (i : ℕ) → place_named i name ds ≡ None → first_changed name f ds ≡ None
none_first name f no_items i none = refl
none_first name f (item d ds) i none = go (is_named name d) refl (none_first name f ds (i + 1))
  where
    go : (yes : Bool) → is_named name d ≡ yes → (place_named (i + 1) name ds ≡ None → first_changed name f ds ≡ None) → first_changed name f (item d ds) ≡ None
    go true e rest = let bad : Some i ≡ None = rw e at none in cc
    go false e rest = let later : place_named (i + 1) name ds ≡ None = rw e at none in rw (e, rest later) refl

low : (name : List ℕ) (ds : Items) (i p : ℕ) → place_named i name ds ≡ Some p → (i < p + 1)
low name no_items i p is = let bad : None ≡ Some p = is in cc
low name (item d ds) i p is = go (is_named name d) refl (low name ds (i + 1) p)
  where
    go : (yes : Bool) → is_named name d ≡ yes → (place_named (i + 1) name ds ≡ Some p → i + 1 < p + 1) → (i < p + 1)
    go true e rest = let same : Some i ≡ Some p = rw e at is in let equal : i ≡ p = cc in omega (arith, equal)
    go false e rest = let later : place_named (i + 1) name ds ≡ Some p = rw e at is in omega (arith, rest later)

-- the first of the name is the one at the place: nothing is made of it
stays_at : (name : List ℕ) (f : Data → Option Data) (vs : List Value) (i k : ℕ) (x : Value) → place_named i name (items_view vs) ≡ Some (i + k)
    → f (view (slice_index_or vs k x)) ≡ None → first_changed name f (items_view vs) ≡ None
stays_at name f [] i k x is none = let bad : None ≡ Some (i + k) = is in cc
stays_at name f (v ∷ vs) i zero x is none = go (is_named name (view v)) refl
  where
    go : (yes : Bool) → is_named name (view v) ≡ yes → first_changed name f (items_view (v ∷ vs)) ≡ None
    go true e = rw (e, none) refl
    go false e = let later : place_named (i + 1) name (items_view vs) ≡ Some (i + 0) = rw e at is in absurd (omega (arith, low name (items_view vs) (i + 1) (i + 0) later))
stays_at name f (v ∷ vs) i (suc k) x is none = go (is_named name (view v)) refl (λ later. stays_at name f vs (i + 1) k x later none)
  where
    go : (yes : Bool) → is_named name (view v) ≡ yes → (place_named (i + 1) name (items_view vs) ≡ Some (i + 1 + k) → first_changed name f (items_view vs) ≡ None) → first_changed name f (items_view (v ∷ vs)) ≡ None
    go true e rest = let same : Some i ≡ Some (i + suc k) = rw e at is in let equal : i ≡ i + suc k = cc in absurd (omega (arith, equal))
    go false e rest =
        let later : place_named (i + 1) name (items_view vs) ≡ Some (i + suc k) = rw e at is in
        let next : i + suc k ≡ i + 1 + k = omega arith in
        rw (e, rest (later ∙ ap (λ p. Some p) next)) refl

-- and it becomes what is made of it
changes_at : (name : List ℕ) (f : Data → Option Data) (vs : List Value) (i k : ℕ) (x new : Value) → place_named i name (items_view vs) ≡ Some (i + k)
    → f (view (slice_index_or vs k x)) ≡ Some (view new) → first_changed name f (items_view vs) ≡ Some (items_view (slice_set vs k new))
changes_at name f [] i k x new is made = let bad : None ≡ Some (i + k) = is in cc
changes_at name f (v ∷ vs) i zero x new is made = go (is_named name (view v)) refl
  where
    go : (yes : Bool) → is_named name (view v) ≡ yes → first_changed name f (items_view (v ∷ vs)) ≡ Some (items_view (slice_set (v ∷ vs) 0 new))
    go true e = rw (e, made) refl
    go false e = let later : place_named (i + 1) name (items_view vs) ≡ Some (i + 0) = rw e at is in absurd (omega (arith, low name (items_view vs) (i + 1) (i + 0) later))
changes_at name f (v ∷ vs) i (suc k) x new is made = go (is_named name (view v)) refl (λ later. changes_at name f vs (i + 1) k x new later made)
  where
    go : (yes : Bool) → is_named name (view v) ≡ yes → (place_named (i + 1) name (items_view vs) ≡ Some (i + 1 + k) → first_changed name f (items_view vs) ≡ Some (items_view (slice_set vs k new))) → first_changed name f (items_view (v ∷ vs)) ≡ Some (items_view (slice_set (v ∷ vs) (suc k) new))
    go true e rest = let same : Some i ≡ Some (i + suc k) = rw e at is in let equal : i ≡ i + suc k = cc in absurd (omega (arith, equal))
    go false e rest =
        let later : place_named (i + 1) name (items_view vs) ≡ Some (i + suc k) = rw e at is in
        let next : i + suc k ≡ i + 1 + k = omega arith in
        rw (e, rest (later ∙ ap (λ p. Some p) next)) refl

-- ---- the model

pub no_components : (name : List ℕ) (f : Data → Option Data) (d : Data) → components_of d ≡ None → component_changed name f d ≡ None
no_components name f d none = rw none refl

pub no_component : (name : List ℕ) (f : Data → Option Data) (d : Data) (ds : Items) → components_of d ≡ Some ds → place_named 0 name ds ≡ None → component_changed name f d ≡ None
no_component name f d ds is none = rw (is, none_first name f ds 0 none) refl

pub no_parameter : (name : List ℕ) (f : Data → Option Data) (d : Data) (vs : List Value) (k : ℕ) (x : Value) → components_of d ≡ Some (items_view vs)
    → place_named 0 name (items_view vs) ≡ Some k → f (view (slice_index_or vs k x)) ≡ None → component_changed name f d ≡ None
no_parameter name f d vs k x is at none =
    let there : k ≡ 0 + k = omega arith in
    rw (is, stays_at name f vs 0 k x (at ∙ ap (λ p. Some p) there) none) refl

-- the component is put back into the model, from which the components were taken
pub put_back : (name : List ℕ) (f : Data → Option Data) (d between after : Data) (vs : List Value) (k : ℕ) (x new : Value) → components_of d ≡ Some (items_view vs)
    → place_named 0 name (items_view vs) ≡ Some k → f (view (slice_index_or vs k x)) ≡ Some (view new)
    → between ≡ with_at (codes "components") null d → after ≡ with_at (codes "components") (array (items_view (slice_set vs k new))) between
    → component_changed name f d ≡ Some after
put_back name f d between after vs k x new is at made taken put =
    let there : k ≡ 0 + k = omega arith in
    let whole : after ≡ with_at (codes "components") (array (items_view (slice_set vs k new))) d =
    put ∙ ap (with_at (codes "components") (array (items_view (slice_set vs k new)))) taken
    ∙ with_again (codes "components") (array (items_view (slice_set vs k new))) null d in
    rw (is, changes_at name f vs 0 k x new (at ∙ ap (λ p. Some p) there) made) (ap (λ all. Some all) (sym whole))
