-- Components reseeded one after another.
use Rattle.std.proofs.Common.{◌≡◌, ◌∙◌, ◌<◌, ◌≤◌, ◌+◌, ◌*◌, ◌%◌, ◌^◌, ◌++◌, ℕ, zero, suc, List, [], ◌∷◌, Some, None, drop, length, take, arith, refl, sym, ap, ap₂}
use Rattle.std.specs.Prelude.{codes, option_and_then, slice_index, slice_set, unwrap_or}
use Rattle.std.specs.List.{slice_index_or}
use Rattle.serde_json.specs.Data.{Data, Items, no_items, item, null, array}
use Rattle.serde_json.specs.Find.{as_array}
use Rattle.serde_json.specs.View.{view, items_view}
use Rattle.serde_json.specs.declared.value.Value.{Value}
use Rattle.tw_machine.specs.Random.{split_mix}
use Rattle.tw_file_settings.specs.Members.{components_of, items_at, with_at}
use Rattle.tw_file_settings.specs.Reseeded.{component_reseeded, each_component, items_map, next_seed, own_reseeded, reseeded}
use Rattle.tw_file_settings.proofs.Putting.{get_beside, with_again}

-- ---- a seed

pub seed_behind : (s behind p r : ℕ) → s ≡ suc behind → r ≡ split_mix ((p + behind * 0x9E3779B97F4A7C15 % 2 ^ 64) % 2 ^ 64) → r ≡ next_seed s p
seed_behind s behind p r next is = rw next is

-- ---- of items

-- so many of them from the front on
abbrev pub mapped_to : (Data → Data) → ℕ → Items → Items
mapped_to f zero ds = ds
mapped_to f (suc i) no_items = no_items
mapped_to f (suc i) (item d ds) = item (f d) (mapped_to f i ds)

pub one_more : (f : Data → Data) (vs : List Value) (ds : Items) (i k : ℕ) (x new : Value) → k ≡ suc i → i < length vs
    → items_view vs ≡ mapped_to f i ds → view new ≡ f (view (slice_index_or vs i x)) → items_view (slice_set vs i new) ≡ mapped_to f k ds
one_more f [] ds i k x new next within are is = absurd (omega arith)
one_more f (v ∷ vs) ds zero k x new next within are is = rw (next, ← are) (ap (λ d. item d (items_view vs)) is)
one_more f (v ∷ vs) no_items (suc i) k x new next within are is = let bad : item (view v) (items_view vs) ≡ no_items = are in cc
one_more f (v ∷ vs) (item d ds) (suc i) k x new next within are is =
    let both : item (view v) (items_view vs) ≡ item (f d) (mapped_to f i ds) = are in
    let first : view v ≡ f d = cc in
    let rest : items_view vs ≡ mapped_to f i ds = cc in
    rw next (ap₂ item first (one_more f vs ds i (suc i) x new refl (omega arith) rest is))

pub all_mapped : (f : Data → Data) (vs : List Value) (n : ℕ) → length vs ≤ n → mapped_to f n (items_view vs) ≡ items_map f (items_view vs)
all_mapped f [] zero many = refl
all_mapped f [] (suc n) many = refl
all_mapped f (v ∷ vs) zero many = absurd (omega arith)
all_mapped f (v ∷ vs) (suc n) many = ap (item (f (view v))) (all_mapped f vs n (omega arith))

-- a list over which another of its length was written
pub written_over : (vs news : List Value) (n : ℕ) → n ≡ length vs → length news ≡ length vs → take n (news ++ drop (length news) vs) ≡ news
written_over [] [] n all same = rw all refl
written_over [] (v ∷ news) n all same = absurd (omega (arith, same))
written_over (v ∷ vs) [] n all same = absurd (omega (arith, same))
written_over (v ∷ vs) (w ∷ news) n all same = rw all (ap (λ rest. w ∷ rest) (written_over vs news (length vs) refl (omega (arith, same))))

-- ---- of a model

-- its components are put back, from which they were taken
pub each_back : (f : Data → Data) (d between after : Data) (vs news : List Value) → components_of d ≡ Some (items_view vs) → items_view news ≡ items_map f (items_view vs)
    → between ≡ with_at (codes "components") null d → after ≡ with_at (codes "components") (array (items_view news)) between
    → after ≡ each_component f d
each_back f d between after vs news is are taken put =
    put ∙ ap₂ (λ ds e. with_at (codes "components") (array ds) e) are taken
    ∙ with_again (codes "components") (array (items_map f (items_view vs))) null d ∙ sym (whole f d (items_view vs) is)
  where
    whole : (f : Data → Data) (d : Data) (ds : Items) → components_of d ≡ Some ds → each_component f d ≡ with_at (codes "components") (array (items_map f ds)) d
    whole f d ds is = rw is refl

pub no_each : (f : Data → Data) (d : Data) → components_of d ≡ None → d ≡ each_component f d
no_each f d none = rw none refl

-- those in it too, where there is room for a level
pub deeper : (models : Items) (s room less : ℕ) (d after : Data) → room ≡ suc less → after ≡ each_component (component_reseeded models s less) (own_reseeded models s d) → after ≡ component_reseeded models s room d
deeper models s room less d after next is = rw next is

-- ---- of a file

pub whole_file : (s : ℕ) (d after : Data) → (s ≡ 0 → ⊥) → after ≡ each_component (component_reseeded (items_at (codes "models") d) s 63) d → after ≡ reseeded s d
whole_file zero d after some is = absurd (some refl)
whole_file (suc s) d after some is = is

-- its machines stay where they are while the components are out
pub same_models : (d : Data) → items_at (codes "models") (with_at (codes "components") null d) ≡ items_at (codes "models") d
same_models d = ap (λ o. unwrap_or (option_and_then as_array o) no_items) (get_beside (codes "models") (codes "components") null d (λ same. apart same))
  where
    apart : codes "models" ≡ codes "components" → ⊥
    apart same = let bad : 109 ≡ 99 = ap (λ t. slice_index t 0) same in absurd (omega (arith, bad))
