-- The names that are lent to the texts' reader are those of the machine.
use Rattle.std.proofs.Common.{◌≡◌, ◌∷◌, [], ℕ, List, Some, None, map, refl, ap, ◌∙◌}
use Rattle.tw_machine_text.specs.Kinds.{kinds_of}
use Rattle.tw_machine_text.specs.TextViews.{names_of, declarations}
use Rattle.tw_machine_text.specs.declared.kinds.Declared.{Declared}
use Rattle.tw_machine_text.specs.declared.kinds.Meaning.{Meaning}
use Rattle.tw_machine_declaration.specs.Seen.{Name}
use Rattle.tw_machine_declaration.specs.Timed.{Names, timing}
use Rattle.tw_machine_file.specs.Declares.{texts}
use Rattle.tw_machine_file.specs.Machine.{declared, language}
use Rattle.tw_machine_file.specs.Shared.{FieldSaid}
use Rattle.tw_machine_file.specs.Texts.{language_of}
use Rattle.tw_machine_file.specs.Timed.{language_with}
use Rattle.tw_machine_file.specs.declared.texts.Language as lent

names_in : (ds : List Declared) → names_of ds ≡ map (λ (d : List ℕ × Meaning). d.0) (declarations ds)
names_in [] = refl
names_in (d ∷ ds) = rw (names_in ds) refl

texts_in : (fs : List FieldSaid) (ns : List Name) → map (λ (d : List ℕ × Meaning). d.0) (declared fs ns) ≡ texts ns
texts_in fs [] = refl
texts_in fs (n ∷ ns) = rw (texts_in fs ns) refl

pub same_language : (l : lent.Language) (fields : List FieldSaid) (names : List Name) → declarations l.declared.now ≡ declared fields names → l.timing ≡ None → language_of l ≡ language fields names
unfolding language_of language
same_language l fields names same none = λ i. record { names = (names_in l.declared.now ∙ ap (map (λ (d : List ℕ × Meaning). d.0)) same ∙ texts_in fields names) i; timing = none i; kinds = kinds_of (same i) }

-- and of a machine with timers
pub same_timed : (l : lent.Language) (ds : List (List ℕ × Meaning)) (n : Names) → declarations l.declared.now ≡ ds → l.timing ≡ Some (timing n None) → language_of l ≡ language_with ds n
unfolding language_of language_with
same_timed l ds n same time = λ i. record { names = (names_in l.declared.now ∙ ap (map (λ (d : List ℕ × Meaning). d.0)) same) i; timing = time i; kinds = kinds_of (same i) }
