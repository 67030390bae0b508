-- What each item gives: what has come, and what is to come.
use Rattle.std.proofs.Common.{◌≡◌, ◌∙◌, ◌+◌, ◌++◌, [], ◌<◌, ℕ, List, ap, append_assoc, drop, get_or, length, sym}
use Rattle.std.proofs.lemmas.List.{at_drop_more}
use Rattle.serde_json.specs.Data.{Data}
use Rattle.serde_json.specs.View.{view, items_view}
use Rattle.serde_json.specs.declared.value.Value.{Value}
use Rattle.tw_file_warnings.specs.Places.{of_each}

-- one more has come, and what was to come begins with it
pub one_more : {A : Type 0} (said one now rest whole all : List A) → now ≡ said ++ one → one ++ rest ≡ whole → said ++ whole ≡ all → now ++ rest ≡ all
one_more said one now rest whole all is more was = ap (λ l. l ++ rest) is ∙ append_assoc said one rest ∙ ap (λ l. said ++ l) more ∙ was

pub each_more : {A : Type 0} (f : ℕ → Data → List A) (vs : List Value) (i : ℕ) (v : Value) → i < length vs → v ≡ get_or vs i v
    → f i (view v) ++ of_each f (i + 1) (items_view (drop (i + 1) vs)) ≡ of_each f i (items_view (drop i vs))
each_more f vs i v lt is =
    ap (λ w. f i (view w) ++ of_each f (i + 1) (items_view (drop (i + 1) vs))) is
    ∙ sym (at_drop_more (λ l. of_each f i (items_view l)) vs i v lt)

-- three kinds, one behind the other
pub three_behind : {A : Type 0} (none one two three a b e : List A) → none ≡ [] → one ≡ none ++ a → two ≡ one ++ b → three ≡ two ++ e → three ≡ a ++ (b ++ e)
three_behind none one two three a b e at first second third =
    third ∙ ap (λ l. l ++ e) (second ∙ ap (λ l. l ++ b) (first ∙ ap (λ l. l ++ a) at)) ∙ append_assoc a b e
