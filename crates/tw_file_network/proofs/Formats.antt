-- No file is of both formats.
use Rattle.std.proofs.Common.{◌≡◌, ℕ, List, Bool, true, false, refl, ap, cond}
use Rattle.std.proofs.lemmas.Slice.Eq.{bytes_eq-Decides}
use Rattle.std.specs.Option.{ok_or}
use Rattle.std.specs.Prelude.{codes, Option, None, Some, option_and_then, Result, Ok, Err}
use Rattle.std.specs.Result.{result_ok}
use Rattle.std.specs.Str.{bytes_eq}
use Rattle.serde_json.specs.Data.{Data}
use Rattle.tw_machine_file.specs.Seen.{Machine}
use Rattle.tw_file_members.specs.Members.{has_members, text_at}
use Rattle.tw_file_network.specs.Components.{after}
use Rattle.tw_file_network.specs.Meaning.{json_of, meaning_of, meaning_of_value, network_of}
use Rattle.tw_file_network.specs.Shape.{file_of, is_format}
use Rattle.tw_file_network.specs.TreeMeaning.{tree_in}
use Rattle.tw_file_network.specs.TreeShape.{member_count, TreeFile, is_machines_format, is_tree_format, machines_declared, machines_file_of, machines_file_with, tree_file_of, tree_of}
use Rattle.tw_file_network.specs.declared.refused.FileRefused.{FileRefused}
use Rattle.tw_file_network.specs.declared.refused.FileRefused.TheVariants.{BadShape}

-- a text is not the name of both
one_name : {A B : Type 0} (b : Bool) (format : Option (List ℕ)) (x : Option A) (y : Option B) (a : A)
    → cond b (cond (is_tree_format format) x None) None ≡ Some a → cond b (cond (is_format format) y None) None ≡ None
one_name false format x y a is = refl
one_name true None x y a is = refl
one_name {A} {B} true (Some t) x y a is = by (bytes_eq t (codes "tw-2")) refl is
  where
    by : (s : Bool) → bytes_eq t (codes "tw-2") ≡ s → cond s x None ≡ Some a → cond (bytes_eq t (codes "tw-1")) y None ≡ None
    by true same e = ap (λ u. cond (bytes_eq u (codes "tw-1")) y None) ((bytes_eq-Decides t (codes "tw-2")).0 same)
    by false other e = absurd cc

-- neither of these two
other_name : {A B : Type 0} (b c : Bool) (format : Option (List ℕ)) (x : Option A) (y : Option B) (a : A)
    → cond b (cond (is_machines_format format) x None) None ≡ Some a → cond c (cond (is_format format) y None) None ≡ None
other_name false c format x y a is = absurd cc
other_name true c None x y a is = absurd cc
other_name true false (Some t) x y a is = refl
other_name {A} {B} true true (Some t) x y a is = by (bytes_eq t (codes "tw-3")) refl is
  where
    by : (s : Bool) → bytes_eq t (codes "tw-3") ≡ s → cond s x None ≡ Some a → cond (bytes_eq t (codes "tw-1")) y None ≡ None
    by true same e = ap (λ u. cond (bytes_eq u (codes "tw-1")) y None) ((bytes_eq-Decides t (codes "tw-3")).0 same)
    by false other e = absurd cc

-- a file that declares machines is none of format tw-1
pub no_flat_file : (d : Data) (machines : List Machine) → machines_declared d ≡ Some machines → file_of d ≡ None
no_flat_file d machines is = other_name (has_members (member_count d) d) (has_members 5 d) (text_at (codes "format") d) _ _ machines is

no_file : (d : Data) (file : TreeFile) → tree_of d ≡ Some file → file_of d ≡ None
no_file d file is = by (is_tree_format (text_at (codes "format") d)) is
  where
    with_machines : (o : Option (List Machine)) → machines_declared d ≡ o → option_and_then (machines_file_with d) o ≡ Some file → file_of d ≡ None
    with_machines None declared at = absurd cc
    with_machines (Some machines) declared at = no_flat_file d machines declared

    by : (b : Bool) → cond b (tree_file_of d) (machines_file_of d) ≡ Some file → file_of d ≡ None
    by true at = one_name (has_members 5 d) (text_at (codes "format") d) _ _ file at
    by false at = with_machines (machines_declared d) refl at

pub one_format : (bytes : List ℕ) (file : TreeFile) → tree_in bytes ≡ Some file → meaning_of bytes ≡ Err BadShape
one_format bytes file is = by (json_of bytes) is
  where
    by : (r : Result Data FileRefused) → option_and_then tree_of (result_ok r) ≡ Some file → after meaning_of_value r ≡ Err BadShape
    by (Ok d) at = ap (λ o. after network_of (ok_or o BadShape)) (no_file d file at)
    by (Err e) at = absurd cc
