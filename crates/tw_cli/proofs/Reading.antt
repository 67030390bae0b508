-- From clap's matches to the options of a job.
use Rattle.std.proofs.Common.{◌≡◌, ◌∙◌, ◌<◌, ◌^◌, ℕ, List, sym, refl, arith, subst}
use Rattle.std.specs.Prelude.{Option, Some, None, Result, Ok, Err}
use Rattle.std.specs.Str.Parse.{ParsesUnsigned, IsNumeral, digits_value, without_leading_plus}
use Rattle.clap.specs.Words.{Text, ReadsOne, one_of, one_text, rows_of}
use Rattle.clap.specs.declared.parser.matches.Found.{Found}
use Rattle.clap.proofs.WalkLemmas.{one_text-rows}
use Rattle.tw_cli.specs.Options.{HasNumber}

-- the number that `get_one` answers is the one that the row's text writes
pub number_read : {E : Type 0} (G : List ℕ → Result ℕ E → Type 0) (f : Found) (id : Text) (r : Option ℕ) (n : ℕ)
    → ((u : List ℕ) (x : Result ℕ E) → G u x → ParsesUnsigned 64 10 u x)
    → (one_text f id ≡ None → r ≡ None)
    → ((t : List ℕ) → one_text f id ≡ Some t → ReadsOne G t r)
    → r ≡ Some n
    → (text : Text) × (one_of id (rows_of f) ≡ Some text) × IsNumeral 10 (without_leading_plus text) × (digits_value 10 (without_leading_plus text) ≡ n)
number_read {E} G f id r n parses none value is = go (one_text f id) refl
  where
    go : (o : Option Text) → one_text f id ≡ o
        → (text : Text) × (one_of id (rows_of f) ≡ Some text) × IsNumeral 10 (without_leading_plus text) × (digits_value 10 (without_leading_plus text) ≡ n)
    go None e = let bad : None ≡ Some n = sym (none e) ∙ is in cc
    go (Some t) e =
        let read = parses t (Ok n) (subst (λ (o : Option ℕ). ReadsOne G t o) is (value t e)) in
        (t, sym (one_text-rows f id) ∙ e, read.0.0, sym read.1)

-- where it answers none, no number of 64 bits stands there
pub number_missing : {E : Type 0} (G : List ℕ → Result ℕ E → Type 0) (f : Found) (id : Text) (r : Option ℕ) (least most : ℕ)
    → ((u : List ℕ) (x : Result ℕ E) → G u x → ParsesUnsigned 64 10 u x)
    → ((t : List ℕ) → one_text f id ≡ Some t → ReadsOne G t r)
    → r ≡ None → most < 2 ^ 64 → (n : ℕ) → HasNumber id least most (rows_of f) n → ⊥
number_missing G f id r least most parses value is fits n has =
    let (t, stands, numeral, writes, low, high) = has in
    let read = subst (λ (o : Option ℕ). ReadsOne G t o) is (value t (one_text-rows f id ∙ stands)) in
    parses t (Err read.0) read.1 (numeral, omega (arith, writes, high, fits))

-- where it answers one, no other number stands there
pub number_same : {E : Type 0} (G : List ℕ → Result ℕ E → Type 0) (f : Found) (id : Text) (r : Option ℕ) (m least most : ℕ)
    → ((u : List ℕ) (x : Result ℕ E) → G u x → ParsesUnsigned 64 10 u x)
    → ((t : List ℕ) → one_text f id ≡ Some t → ReadsOne G t r)
    → r ≡ Some m → (n : ℕ) → HasNumber id least most (rows_of f) n → m ≡ n
number_same G f id r m least most parses value is n has =
    let (t, stands, numeral, writes, low, high) = has in
    let read = parses t (Ok m) (subst (λ (o : Option ℕ). ReadsOne G t o) is (value t (one_text-rows f id ∙ stands))) in
    read.1 ∙ writes
