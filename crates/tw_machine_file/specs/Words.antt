-- The member `words`.
use Rattle.std.specs.Prelude.{◌++◌, ◌∷◌, [], ◌&&◌, ◌==◌, ◌+◌, ℕ, Bool, false, not, List, Option, Result, Ok}
use Rattle.std.specs.List.{list_any}
use Rattle.serde_json.specs.Data.{Data, Items, no_items, item}
use Rattle.serde_json.specs.Find.{as_array}
use Rattle.tw_machine.specs.Limits.{max_words}
use Rattle.tw_machine_text.specs.Kinds.{is_shown}
use Rattle.tw_machine_text.specs.Tree.{Tree, Number, Name, Indexed}
use Rattle.tw_machine_text.specs.declared.kinds.Meaning.{Meaning}
use Rattle.tw_machine_text.specs.declared.kinds.Member.TheVariants as member
use Rattle.tw_machine_declaration.specs.Seen.{Value, tree}
use Rattle.tw_machine_file.specs.Fault.{Fault, wrong, once, made, expected, provided}
use Rattle.tw_machine_file.specs.Texts.{Language, value_in}
use Rattle.tw_machine_file.specs.Values.{is_long}
use Rattle.tw_machine_file.specs.declared.fault.Part.TheVariants as part
use Rattle.tw_machine_file.specs.declared.fault.Why.TheVariants as why

abbrev pub is_same_number : Tree → Tree → Bool
is_same_number (Number i) (Number j) = i == j
is_same_number _ _ = false

-- whether two trees are one name, or one name with one number
abbrev pub is_same_tree : Tree → Tree → Bool
is_same_tree (Name a) (Name b) = a == b
is_same_tree (Indexed a i) (Indexed b j) = a == b && is_same_number i j
is_same_tree _ _ = false

-- whether a queue, an array register or an observation is that of another word
abbrev pub is_again : List Meaning → Value → Value → Bool
is_again kinds (tree a) (tree b) = is_shown kinds a && is_same_tree a b
is_again kinds _ _ = false

-- a word that shows no queue, no array register and no observation again
abbrev pub word_of : Language → ℕ → List Value → Data → Result Value Fault
word_of l i before d =
    once (value_in l (part.Word i) member.Shown d) (λ v. provided (not (list_any (is_again l.kinds v) before)) (wrong (part.Word i) why.Twice) v)

-- the words from place i on, behind those before
abbrev pub words_of : Language → ℕ → List Value → Items → Result (List Value) Fault
words_of l i before no_items = Ok []
words_of l i before (item d ds) = once (word_of l i before d) (λ v. made (λ vs. v ∷ vs) (words_of l (i + 1) (before ++ v ∷ []) ds))

-- an array of 1 to 64
abbrev pub some_words : Data → Result Items Fault
some_words d = once (expected part.Words why.Shape (as_array d)) (λ items. provided (is_long max_words items) (wrong part.Words why.Count) items)

-- the member, which must be there
abbrev pub words_in : Language → Option Data → Result (List Value) Fault
words_in l d = once (expected part.Words why.Missing d) (λ d. once (some_words d) (words_of l 0 []))
