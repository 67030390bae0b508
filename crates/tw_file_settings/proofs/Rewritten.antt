-- Files with other numbers.
use Rattle.std.proofs.Common.{◌≡◌, ◌∙◌, ◌≤◌, ℕ, List, Bool, true, false, Option, Some, None, refl, sym, ap, subst, arith}
use Rattle.std.specs.Str.{IsUtf8, is_utf8}
use Rattle.std.proofs.lemmas.Str.{is_utf8-from_IsUtf8}
use Rattle.serde_json.specs.Data.{Data, depth}
use Rattle.serde_json.specs.Read.{max_depth, read}
use Rattle.serde_json.proofs.Nesting.{depth-read}
use Rattle.tw_file_settings.specs.Files.{HasNoFile, HasOneValue, IsFileBy, IsFileWith, json_in}
use Rattle.tw_file_settings.specs.Set.{set}
use Rattle.tw_file_settings.specs.declared.settings.Settings.{Settings}

-- where nothing is set
pub same_file : (s : Settings) (bytes : List ℕ) → ((d : Data) → set s d ≡ Some d) → IsFileWith s bytes bytes
same_file s bytes nothing = go (json_in bytes) refl
  where
    go : (o : Option Data) → json_in bytes ≡ o → IsFileBy s o bytes bytes
    go None is = refl
    go (Some d) is = (d, nothing d, is)

-- and where no value is written
pub no_value : (s : Settings) (bytes : List ℕ) → None ≡ json_in bytes → IsFileWith s bytes bytes
no_value s bytes none = subst (λ o. IsFileBy s o bytes bytes) none refl

read_in : (bytes : List ℕ) (d : Data) → Some d ≡ json_in bytes → read bytes ≡ Some d
read_in bytes d is = go (is_utf8 bytes) refl
  where
    go : (b : Bool) → is_utf8 bytes ≡ b → read bytes ≡ Some d
    go true e = let written : Some d ≡ read bytes = rw e at is in sym written
    go false e = let bad : Some d ≡ None = rw e at is in cc

-- a value with these settings is written, and reads back
pub written : (s : Settings) (bytes file : List ℕ) (d e : Data) → Some d ≡ json_in bytes → set s d ≡ Some e → depth e ≤ depth d → IsUtf8 file
    → (depth e ≤ max_depth → read file ≡ Some e) → IsFileWith s bytes file
written s bytes file d e is made small utf8 back =
    let shallow = depth-read bytes d (read_in bytes d is) in
    let again : json_in file ≡ Some e = rw (is_utf8-from_IsUtf8 file utf8) (back (omega (arith, shallow, small))) in
    subst (λ o. IsFileBy s o bytes file) is (e, made, again)

pub no_file : (s : Settings) (bytes : List ℕ) (d : Data) → Some d ≡ json_in bytes → set s d ≡ None → HasNoFile s bytes
no_file s bytes d is none = (d, sym is, none)

-- two files of the same bytes write one value
pub one_value : (s : Settings) → HasOneValue s
one_value s bytes file other is is' = go (json_in bytes) is is'
  where
    go : (o : Option Data) → IsFileBy s o bytes file → IsFileBy s o bytes other → json_in file ≡ json_in other
    go None same same' = ap json_in (same ∙ sym same')
    go (Some d) (e, made, reads) (e', made', reads') =
        let both : Some e ≡ Some e' = sym made ∙ made' in
        reads ∙ both ∙ sym reads'
