use Rattle.std.proofs.Common.{◌≡◌, sym, refl, ℕ, List, Bool, true, false, true≢false}
use Rattle.std.proofs.lemmas.Str.{IsUtf8-from_is_utf8, is_utf8-from_IsUtf8}
use Rattle.std.specs.Prelude.{None}
use Rattle.std.specs.Str.{IsUtf8, is_utf8}
use Rattle.serde_json.specs.Read.{read}
use Rattle.tw_file_settings.specs.Files.{json_in}
use Rattle.tw_file_settings.proofs.files.json_in.Goals as goal

-- what is not UTF-8, or UTF-8 that reads as nothing, is no JSON
no_json : (bytes : List ℕ) → (IsUtf8 bytes → read bytes ≡ None) → None ≡ json_in bytes
no_json bytes nothing = by (is_utf8 bytes) refl
  where
    by : (b : Bool) → is_utf8 bytes ≡ b → None ≡ json_in bytes
    by true is = rw (is, nothing (IsUtf8-from_is_utf8 bytes is)) refl
    by false is = rw is refl

pub returns-in-Ok : goal.returns-in-Ok
returns-in-Ok c = rw (is_utf8-from_IsUtf8 c.args.bytes.now c.in-Ok.ensures.ok.0, c.in-Ok.ensures.ok.1) refl

pub returns-in-Err-2 : goal.returns-in-Err-2
returns-in-Err-2 c = no_json c.args.bytes.now (c.in-Err.ensures.err (λ memory. true≢false (sym (c.if-is_memory.ensures.1 memory))))
