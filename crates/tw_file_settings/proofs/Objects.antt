-- Members of a value that is an object.
use Rattle.std.proofs.Common.{◌≡◌, ◌∙◌, ℕ, Bor, false, true, List, Option, Some, None, String, BTreeMap, Global, option_map, string_bytes, string_cmp, refl, sym, ap, ap₂}
use Rattle.std.specs.Option.{is_some}
use Rattle.std.specs.BTreeMap.{get as found_in, insert_entry}
use Rattle.serde_json.specs.Data.{Data, Members, null, boolean, number, string, array, object, put}
use Rattle.serde_json.specs.Find.{as_object, get, get_member}
use Rattle.serde_json.specs.View.{view, members_view}
use Rattle.serde_json.specs.declared.value.Value.{Value, Object}
use Rattle.serde_json.proofs.Views.{members_view-insert_entry, view-Object, view-lookup}
use Rattle.tw_file_settings.specs.Members.{with_at}

get_in : (k : List ℕ) (d : Data) (ms : Members) → as_object d ≡ Some ms → get k d ≡ get_member k ms
get_in k null ms is = let bad : None ≡ Some ms = is in cc
get_in k (boolean b) ms is = let bad : None ≡ Some ms = is in cc
get_in k (number n) ms is = let bad : None ≡ Some ms = is in cc
get_in k (string s) ms is = let bad : None ≡ Some ms = is in cc
get_in k (array ds) ms is = let bad : None ≡ Some ms = is in cc
get_in k (object own) ms is = let same : own ≡ ms = cc in ap (get_member k) same

with_in : (k : List ℕ) (e d : Data) (ms : Members) → as_object d ≡ Some ms → with_at k e d ≡ object (put k e ms)
with_in k e null ms is = let bad : None ≡ Some ms = is in cc
with_in k e (boolean b) ms is = let bad : None ≡ Some ms = is in cc
with_in k e (number n) ms is = let bad : None ≡ Some ms = is in cc
with_in k e (string s) ms is = let bad : None ≡ Some ms = is in cc
with_in k e (array ds) ms is = let bad : None ≡ Some ms = is in cc
with_in k e (object own) ms is = let same : own ≡ ms = cc in ap (λ all. object (put k e all)) same

-- what `insert` answers was the member
pub was_member : (m : BTreeMap (String Global) Value) (key : String Global) (name : List ℕ) (d : Data) (old : Option Value) → string_bytes key ≡ name
    → as_object d ≡ Some (members_view m.entries) → old ≡ found_in string_cmp m key → option_map view old ≡ get name d
was_member m key name d old is all found =
    ap (option_map view) found ∙ view-lookup (string_bytes key) m.entries ∙ sym (get_in (string_bytes key) d (members_view m.entries) all) ∙ ap (λ k. get k d) is

-- what it leaves
pub is_left : (m new : BTreeMap (String Global) Value) (key : String Global) (name : List ℕ) (d e : Data) (v : Value) → string_bytes key ≡ name → view v ≡ e
    → as_object d ≡ Some (members_view m.entries) → new.entries ≡ insert_entry string_cmp m.entries key v → view (Object new) ≡ with_at name e d
is_left m new key name d e v is seen all entries =
    view-Object new ∙ ap (λ es. object (members_view es)) entries ∙ ap object (members_view-insert_entry m.entries key v)
    ∙ ap₂ (λ k x. object (put k x (members_view m.entries))) is seen ∙ sym (with_in name e d (members_view m.entries) all)

-- an object has what is found in a value
pub no_object : (k : List ℕ) (d : Data) → as_object d ≡ None → get k d ≡ None
no_object k null is = refl
no_object k (boolean b) is = refl
no_object k (number n) is = refl
no_object k (string s) is = refl
no_object k (array ds) is = refl
no_object k (object ms) is = let bad : Some ms ≡ None = is in cc

-- what is there is not missing
pub there : (o : Option (Bor Value)) (g : Option Data) → option_map (λ v. view v.now) o ≡ g → is_some o ≡ true → g ≡ None → ⊥
there None g is found missing = let bad : false ≡ true = found in cc
there (Some v) g is found missing = let bad : Some (view v.now) ≡ None = is ∙ missing in cc
