-- A value with other numbers nests no deeper.
use Rattle.std.proofs.Common.{◌≡◌, ◌≤◌, ℕ, zero, suc, max, List, [], ◌∷◌, Bool, true, false, Option, Some, None, Ordering, Less, Equal, Greater, nat_cmp, option_map, arith, refl, ap}
use Rattle.std.specs.Cmp.Lexicographic.{slice_cmp}
use Rattle.std.specs.List.{slice_split}
use Rattle.std.specs.Option.{option_map_or}
use Rattle.std.specs.Ordering.{match_ordering}
use Rattle.std.specs.Prelude.{codes, is_some, option_and_then, unwrap_or}
use Rattle.std.specs.Str.{bytes_eq}
use Rattle.serde_json.specs.Data.{Data, Num, Items, Members, no_items, item, no_members, member, null, boolean, number, string, array, object, put, depth, items_depth, members_depth}
use Rattle.serde_json.specs.Find.{as_array, get, get_member}
use Rattle.serde_json.specs.View.{number_view}
use Rattle.tw_file_settings.specs.Assigned.{assigned, component_changed, first_changed, is_kept, member_changed, number_for, parameter_set, path_set}
use Rattle.tw_file_settings.specs.Members.{components_of, is_named, items_at, text_at, with_at}
use Rattle.tw_file_settings.specs.Reseeded.{component_reseeded, each_component, first_named, items_map, member_or_same, model_reseeded, own_reseeded, parameter_reseeded, reseeded, seeding_parameter}
use Rattle.tw_file_settings.specs.Set.{all_assigned, set}
use Rattle.tw_file_settings.specs.Texts.{is_dot}
use Rattle.tw_file_settings.specs.declared.assignment.Assignment.{Assignment}
use Rattle.tw_file_settings.specs.declared.settings.Settings.{Settings}

-- ---- options

then_some : {A B : Type 0} (f : A → Option B) (o : Option A) (y : B) → option_and_then f o ≡ Some y → (x : A) × (o ≡ Some x) × (f x ≡ Some y)
then_some f None y is = let bad : None ≡ Some y = is in cc
then_some f (Some x) y is = (x, refl, is)

map_some : {A B : Type 0} (f : A → B) (o : Option A) (y : B) → option_map f o ≡ Some y → (x : A) × (o ≡ Some x) × (f x ≡ y)
map_some f None y is = let bad : None ≡ Some y = is in cc
map_some f (Some x) y is = let same : f x ≡ y = cc in (x, refl, same)

-- ---- members

either : (o : Ordering) (a b c : Members) (n : ℕ) → members_depth a ≤ n → members_depth b ≤ n → members_depth c ≤ n → members_depth (match_ordering o a b c) ≤ n
either Less a b c n p q r = p
either Equal a b c n p q r = q
either Greater a b c n p q r = r

put_depth : (k : List ℕ) (d : Data) (ms : Members) (n : ℕ) → depth d ≤ n → members_depth ms ≤ n → members_depth (put k d ms) ≤ n
put_depth k d no_members n p q = omega arith
put_depth k d (member l e ms) n p q =
    either _ (member k d (member l e ms)) (member l d ms) (member l e (put k d ms)) n (omega arith) (omega arith) (omega (arith, put_depth k d ms n p (omega arith)))

with_depth : (k : List ℕ) (e d : Data) (n : ℕ) → suc (depth e) ≤ n → depth d ≤ n → depth (with_at k e d) ≤ n
with_depth k e null n p q = q
with_depth k e (boolean b) n p q = q
with_depth k e (number x) n p q = q
with_depth k e (string s) n p q = q
with_depth k e (array ds) n p q = q
with_depth k e (object ms) zero p q = absurd (omega (arith, p))
with_depth k e (object ms) (suc n) p q = let rest = put_depth k e ms n (omega arith) (omega arith) in omega (arith, rest)

found_at : (o : Ordering) (e : Data) (rest : Option Data) (x : Data) (n : ℕ) → match_ordering o rest (Some e) rest ≡ Some x → depth e ≤ n → (rest ≡ Some x → depth x ≤ n) → depth x ≤ n
found_at Less e rest x n is here later = later is
found_at Equal e rest x n is here later = let same : e ≡ x = cc in let deep : depth e ≡ depth x = ap depth same in omega (arith, here, deep)
found_at Greater e rest x n is here later = later is

member_depth : (k : List ℕ) (ms : Members) (x : Data) → get_member k ms ≡ Some x → depth x ≤ members_depth ms
member_depth k no_members x is = let bad : None ≡ Some x = is in cc
member_depth k (member l e ms) x is =
    found_at (slice_cmp nat_cmp k l) e (get_member k ms) x (max (depth e) (members_depth ms)) is (omega arith) (λ later. omega (arith, member_depth k ms x later))

get_depth : (k : List ℕ) (d x : Data) → get k d ≡ Some x → suc (depth x) ≤ depth d
get_depth k null x is = let bad : None ≡ Some x = is in cc
get_depth k (boolean b) x is = let bad : None ≡ Some x = is in cc
get_depth k (number n) x is = let bad : None ≡ Some x = is in cc
get_depth k (string s) x is = let bad : None ≡ Some x = is in cc
get_depth k (array ds) x is = let bad : None ≡ Some x = is in cc
get_depth k (object ms) x is = let inside = member_depth k ms x is in omega (arith, inside)

array_depth : (e : Data) (ds : Items) → as_array e ≡ Some ds → depth e ≡ suc (items_depth ds)
array_depth null ds is = let bad : None ≡ Some ds = is in cc
array_depth (boolean b) ds is = let bad : None ≡ Some ds = is in cc
array_depth (number n) ds is = let bad : None ≡ Some ds = is in cc
array_depth (string s) ds is = let bad : None ≡ Some ds = is in cc
array_depth (array own) ds is = let same : own ≡ ds = cc in ap (λ all. suc (items_depth all)) same
array_depth (object ms) ds is = let bad : None ≡ Some ds = is in cc

-- what is made of a value nests no deeper
abbrev Shrinks : (Data → Option Data) → Type 0
Shrinks f = (d e : Data) → f d ≡ Some e → depth e ≤ depth d

changed_depth : (k : List ℕ) (f : Data → Option Data) → Shrinks f → Shrinks (member_changed k f)
changed_depth k f small d e is =
    let (x, found, made) = then_some (λ old. option_map (λ new. with_at k new d) (f old)) (get k d) e is in
    let (new, of, whole) = map_some (λ y. with_at k y d) (f x) e made in
    let inside = get_depth k d x found in
    let smaller = small x new of in
    let all = with_depth k new d (depth d) (omega (arith, inside, smaller)) (omega arith) in
    let same : depth (with_at k new d) ≡ depth e = ap depth whole in
    omega (arith, all, same)

-- ---- a parameter

number_depth : (n : Num) → Shrinks (number_for n)
number_depth n d e is = go (is_some (as_array d)) refl
  where
    go : (b : Bool) → is_some (as_array d) ≡ b → depth e ≤ depth d
    go true meets = let bad : None ≡ Some e = rw meets at is in cc
    go false differs = let made : Some (number n) ≡ Some e = rw differs at is in let same : number n ≡ e = cc in let flat : 0 ≡ depth e = ap depth same in omega (arith, flat)

parameter_depth : (name : List ℕ) (n : Num) → Shrinks (parameter_set name n)
parameter_depth name n d e is = go (is_kept name) refl
  where
    model : (b : Bool) → is_some (get (codes "model") d) ≡ b → is_kept name ≡ false → depth e ≤ depth d
    model true meets other = let made : member_changed name (number_for n) d ≡ Some e = rw (other, meets) at is in changed_depth name (number_for n) (number_depth n) d e made
    model false differs other = let bad : None ≡ Some e = rw (other, differs) at is in cc

    go : (b : Bool) → is_kept name ≡ b → depth e ≤ depth d
    go true meets = let bad : None ≡ Some e = rw meets at is in cc
    go false differs = model (is_some (get (codes "model") d)) refl differs

-- ---- a component of a model

first_depth : (name : List ℕ) (f : Data → Option Data) → Shrinks f → (ds es : Items) → first_changed name f ds ≡ Some es → items_depth es ≤ items_depth ds
first_depth name f small no_items es is = let bad : None ≡ Some es = is in cc
first_depth name f small (item d ds) es is = go (is_named name d) refl (first_depth name f small ds)
  where
    go : (b : Bool) → is_named name d ≡ b → ((rest : Items) → first_changed name f ds ≡ Some rest → items_depth rest ≤ items_depth ds) → items_depth es ≤ items_depth (item d ds)
    go true meets later =
        let made : option_map (λ e. item e ds) (f d) ≡ Some es = rw meets at is in
        let (e, of, whole) = map_some (λ x. item x ds) (f d) es made in
        let smaller = small d e of in
        let same : items_depth (item e ds) ≡ items_depth es = ap items_depth whole in
        omega (arith, smaller, same)
    go false differs later =
        let made : option_map (item d) (first_changed name f ds) ≡ Some es = rw differs at is in
        let (rest, of, whole) = map_some (item d) (first_changed name f ds) es made in
        let smaller = later rest of in
        let same : items_depth (item d rest) ≡ items_depth es = ap items_depth whole in
        omega (arith, smaller, same)

components_depth : (d : Data) (ds news : Items) → components_of d ≡ Some ds → items_depth news ≤ items_depth ds → depth (with_at (codes "components") (array news) d) ≤ depth d
components_depth d ds news is small =
    let (e, found, all) = then_some as_array (get (codes "components") d) ds is in
    let inside = get_depth (codes "components") d e found in
    let deep = array_depth e ds all in
    with_depth (codes "components") (array news) d (depth d) (omega (arith, inside, deep, small)) (omega arith)

component_depth : (name : List ℕ) (f : Data → Option Data) → Shrinks f → Shrinks (component_changed name f)
component_depth name f small d e is =
    let (ds, found, made) = then_some (λ old. option_map (λ new. with_at (codes "components") (array new) d) (first_changed name f old)) (components_of d) e is in
    let (news, of, whole) = map_some (λ new. with_at (codes "components") (array new) d) (first_changed name f ds) e made in
    let all = components_depth d ds news found (first_depth name f small ds news of) in
    let same : depth (with_at (codes "components") (array news) d) ≡ depth e = ap depth whole in
    omega (arith, all, same)

path_depth : (path : List (List ℕ)) (n : Num) → Shrinks (path_set path n)
path_depth [] n d e is = let bad : None ≡ Some e = is in cc
path_depth (name ∷ []) n d e is = parameter_depth name n d e is
path_depth (name ∷ next ∷ path) n d e is = component_depth name (path_set (next ∷ path) n) (path_depth (next ∷ path) n) d e is

all_depth : (given : List Assignment) → Shrinks (all_assigned given)
all_depth [] d e is = let same : d ≡ e = cc in let deep : depth d ≡ depth e = ap depth same in omega (arith, deep)
all_depth (a ∷ given) d e is =
    let (x, first, rest) = then_some (all_assigned given) (assigned a.target.now (number_view a.number) d) e is in
    let smaller = path_depth (slice_split is_dot a.target.now) (number_view a.number) d x first in
    let small = all_depth given x e rest in
    omega (arith, smaller, small)

-- ---- seeds

same_depth : (k : List ℕ) (f : Data → Option Data) → Shrinks f → (d : Data) → depth (member_or_same k f d) ≤ depth d
same_depth k f small d = go (member_changed k f d) refl
  where
    go : (o : Option Data) → member_changed k f d ≡ o → depth (unwrap_or o d) ≤ depth d
    go None is = omega arith
    go (Some e) is = changed_depth k f small d e is

numbers_depth : {A : Type 0} (g : Data → Option A) (h : A → Num) → Shrinks (λ e. option_map (λ x. number (h x)) (g e))
numbers_depth g h d e is =
    let (x, of, whole) = map_some (λ y. number (h y)) (g d) e is in
    let flat : 0 ≡ depth e = ap depth whole in
    omega (arith, flat)

model_depth : (models : Items) (s : ℕ) (model : List ℕ) (d : Data) → depth (model_reseeded models s model d) ≤ depth d
model_depth models s model d = go (bytes_eq model (codes "hop")) refl
  where
    named : (o : Option (List ℕ)) → depth (option_map_or (λ name. parameter_reseeded s name d) o d) ≤ depth d
    named None = omega arith
    named (Some name) = same_depth name _ (numbers_depth _ _) d

    go : (b : Bool) → bytes_eq model (codes "hop") ≡ b → depth (model_reseeded models s model d) ≤ depth d
    go true meets = rw meets (same_depth (codes "seed") _ (numbers_depth _ _) d)
    go false differs = rw differs (named (option_and_then seeding_parameter (first_named model models)))

own_depth : (models : Items) (s : ℕ) (d : Data) → depth (own_reseeded models s d) ≤ depth d
own_depth models s d = go (text_at (codes "model") d)
  where
    go : (o : Option (List ℕ)) → depth (option_map_or (λ model. model_reseeded models s model d) o d) ≤ depth d
    go None = omega arith
    go (Some model) = model_depth models s model d

items_map_depth : (f : Data → Data) → ((d : Data) → depth (f d) ≤ depth d) → (ds : Items) → items_depth (items_map f ds) ≤ items_depth ds
items_map_depth f small no_items = omega arith
items_map_depth f small (item d ds) = let first = small d in let rest = items_map_depth f small ds in omega (arith, first, rest)

each_depth : (f : Data → Data) → ((d : Data) → depth (f d) ≤ depth d) → (d : Data) → depth (each_component f d) ≤ depth d
each_depth f small d = go (components_of d) refl
  where
    go : (o : Option Items) → components_of d ≡ o → depth (option_map_or (λ ds. with_at (codes "components") (array (items_map f ds)) d) o d) ≤ depth d
    go None is = omega arith
    go (Some ds) is = components_depth d ds (items_map f ds) is (items_map_depth f small ds)

deep_depth : (models : Items) (s room : ℕ) (d : Data) → depth (component_reseeded models s room d) ≤ depth d
deep_depth models s zero d = own_depth models s d
deep_depth models s (suc room) d =
    let own = own_depth models s d in
    let each = each_depth (component_reseeded models s room) (deep_depth models s room) (own_reseeded models s d) in
    omega (arith, own, each)

reseeded_depth : (s : ℕ) (d : Data) → depth (reseeded s d) ≤ depth d
reseeded_depth zero d = omega arith
reseeded_depth (suc behind) d = each_depth (component_reseeded (items_at (codes "models") d) (suc behind) 63) (deep_depth (items_at (codes "models") d) (suc behind) 63) d

pub set_depth : (s : Settings) (d e : Data) → set s d ≡ Some e → depth e ≤ depth d
set_depth s d e is =
    let (x, of, whole) = map_some (reseeded s.replication) (all_assigned s.assignments.items d) e is in
    let given = all_depth s.assignments.items d x of in
    let seeds = reseeded_depth s.replication x in
    let same : depth (reseeded s.replication x) ≡ depth e = ap depth whole in
    omega (arith, given, seeds, same)
