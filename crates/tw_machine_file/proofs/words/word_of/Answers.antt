use Rattle.std.proofs.Common.{◌≡◌, ◌∙◌, Bool, List, ℕ, Ok, Result, ap, map, not, sym}
use Rattle.std.specs.List.{list_any}
use Rattle.serde_json.specs.Data.{Data}
use Rattle.serde_json.specs.View.{view}
use Rattle.tw_machine_text.specs.declared.kinds.Meaning.{Meaning}
use Rattle.tw_machine_text.specs.declared.kinds.Member.TheVariants.{Shown}
use Rattle.tw_machine_declaration.specs.Seen.{Value, value}
use Rattle.tw_machine_file.specs.Fault.{Fault, once, provided, wrong}
use Rattle.tw_machine_file.specs.Texts.{Language, language_of, value_in}
use Rattle.tw_machine_file.specs.Words.{is_again, word_of}
use Rattle.tw_machine_file.specs.declared.fault.Part.TheVariants.{Word}
use Rattle.tw_machine_file.specs.declared.fault.Why.TheVariants.{Twice}
use Rattle.tw_machine_file.proofs.words.word_of.Goals as goal

-- a word that is read is shown again, or it is not
read : (l : Language) (i : ℕ) (before : List Value) (d : Data) (v : Value) (kinds : List Meaning) (again : Bool) → kinds ≡ l.kinds → value_in l (Word i) Shown d ≡ Ok v
    → again ≡ list_any (is_again kinds v) before → word_of l i before d ≡ provided (not again) (wrong (Word i) Twice) v
read l i before d v kinds again same is shown =
    ap (λ (r : Result Value Fault). once r (λ (v : Value). provided (not (list_any (is_again l.kinds v) before)) (wrong (Word i) Twice) v)) is
    ∙ ap (λ (b : Bool). provided (not b) (wrong (Word i) Twice) v) (ap (λ (ks : List Meaning). list_any (is_again ks v) before) (sym same) ∙ sym shown)

pub returns-then-is_among_words-clause-err : goal.returns-then-is_among_words-clause-err
returns-then-is_among_words-clause-err c = λ _.
    read (language_of c.args.language.now) c.args.index (map value c.args.before.now) (view c.args.written.now) (value c.in_ok-word.word) c.args.kinds.now c.is_among_words.result c.requires c.in_ok-word.ensures.ok c.is_among_words.ensures
    ∙ ap (λ (b : Bool). provided (not b) (wrong (Word c.args.index) Twice) (value c.in_ok-word.word)) c.if-is_among_words.true

pub returns-clause-ok : goal.returns-clause-ok
returns-clause-ok c =
    read (language_of c.args.language.now) c.args.index (map value c.args.before.now) (view c.args.written.now) (value c.in_ok-word.word) c.args.kinds.now c.is_among_words.result c.requires c.in_ok-word.ensures.ok c.is_among_words.ensures
    ∙ ap (λ (b : Bool). provided (not b) (wrong (Word c.args.index) Twice) (value c.in_ok-word.word)) c.if-is_among_words.false
