-- A text to which one part after another is added.
use Rattle.std.proofs.Common.{◌≡◌, ◌∙◌, ◌++◌, [], ℕ, List, refl, sym, ap, append_assoc}
use Rattle.std.specs.Prelude.{Option, Some, codes, slice_get}
use Rattle.tw_atomic.specs.Atomic.{Meaning}
use Rattle.tw_exec.specs.Running.{Running}
use Rattle.tw_inspect.specs.Reports.{component_line, describe_text, description, messages_part, seen, seen_if_there, stamps_part, text_if}
use Rattle.tw_msgs.specs.declared.message.Item.{Item}
use Rattle.tw_network.specs.Contents.{Contents}
use Rattle.tw_texts.specs.Texts.{time_text}
use Rattle.tw_theory.specs.Contents.{Process, next}
use Rattle.tw_theory.specs.Executive.{mail_of}
use Rattle.tw_vtime.specs.Stamps.{stamp_text}

-- one part more, after what was added before
pub one_more : (old t new a b : List ℕ) → t ≡ old ++ a → new ≡ t ++ b → new ≡ old ++ (a ++ b)
one_more old t new a b p q = q ∙ ap (λ l. l ++ b) p ∙ append_assoc old a b

-- the first part of an empty text
pub first_of_all : (start t a : List ℕ) → start ≡ [] → t ≡ start ++ a → t ≡ a
first_of_all start t a empty p = p ∙ ap (λ l. l ++ a) empty

-- two parts of an empty text, which are the whole
pub both_of_all : (start t new a b whole : List ℕ) → start ≡ [] → t ≡ start ++ a → new ≡ t ++ b → a ++ b ≡ whole → new ≡ whole
both_of_all start t new a b whole empty p q is = q ∙ ap (λ l. l ++ b) (first_of_all start t a empty p) ∙ is

-- one line more after the first part
pub one_line_more : (first lines more line t new : List ℕ) → t ≡ first ++ lines → new ≡ t ++ line → more ≡ lines ++ line → new ≡ first ++ more
one_line_more first lines more line t new p q is = q ∙ ap (λ l. l ++ line) p ∙ append_assoc first lines line ∙ ap (λ l. first ++ l) (sym is)

-- a part that is made of a list, of an equal list
pub part_of : {X : Type 0} (part : X → List ℕ) (old new : List ℕ) (x y : X) → new ≡ old ++ part x → x ≡ y → new ≡ old ++ part y
part_of part old new x y p q = p ∙ ap (λ z. old ++ part z) q

-- seven parts that were added at once, and one after them, are one part
eight_parts : (old a b c d e f g h : List ℕ) → old ++ (a ++ (b ++ (c ++ (d ++ (e ++ (f ++ g)))))) ++ h ≡ old ++ (a ++ b ++ c ++ d ++ e ++ f ++ g ++ h)
eight_parts old a b c d e f g h = simp append_assoc

-- four stamps, as they are written
abbrev stamps : ℕ → ℕ → ℕ → ℕ → List ℕ
stamps line next_one due last = codes " line " ++ stamp_text line ++ codes " next " ++ stamp_text next_one ++ codes " due " ++ stamp_text due ++ codes " last " ++ time_text last

-- three stamps that were added at once, and the last one after them, are the stamps of a component whose stamps they are
pub stamps_of : {S : Type 0} (p : Process S) (old t new : List ℕ) (line next_one due last : ℕ)
    → t ≡ old ++ (codes " line " ++ (stamp_text line ++ (codes " next " ++ (stamp_text next_one ++ (codes " due " ++ (stamp_text due ++ codes " last "))))))
    → line ≡ p.line → next_one ≡ next p → due ≡ p.now.due → last ≡ p.now.last → new ≡ t ++ time_text last → new ≡ old ++ stamps_part p
stamps_of p old t new line next_one due last first line_is next_is due_is last_is then_last =
    then_last ∙ ap (λ l. l ++ time_text last) first
    ∙ eight_parts old (codes " line ") (stamp_text line) (codes " next ") (stamp_text next_one) (codes " due ") (stamp_text due) (codes " last ") (time_text last)
    ∙ ap (λ s. old ++ stamps s next_one due last) line_is ∙ ap (λ s. old ++ stamps p.line s due last) next_is
    ∙ ap (λ s. old ++ stamps p.line (next p) s last) due_is ∙ ap (λ s. old ++ stamps p.line (next p) p.now.due s) last_is

-- the description of a component that is there
there : {M S : Type 0} (meaning : M → Meaning S) (names : List (List ℕ)) (mail : List Item) (a : Option (List ℕ)) (b : Option M) (c : Option (Process S)) (name : List ℕ) (model : M) (p : Process S)
    → a ≡ Some name → b ≡ Some model → c ≡ Some p
    → component_line (seen meaning name model p mail) ++ messages_part names p mail ≡ text_if (description names) (seen_if_there meaning a b c mail)
there meaning names mail a b c name model p a_is b_is c_is = rw a_is (rw b_is (rw c_is refl))

pub described : {M S : Type 0} (meaning : M → Meaning S) (e : Running M S) (c : ℕ) (network : Contents M) (name : List ℕ) (model : M) (p : Process S) (mail : List Item)
    → network ≡ e.network → slice_get network.names c ≡ Some name → slice_get network.models c ≡ Some model → slice_get e.world.processes c ≡ Some p → mail ≡ mail_of e.world.mail c
    → component_line (seen meaning name model p mail) ++ messages_part network.names p mail ≡ describe_text meaning e c
described meaning e c network name model p mail network_is name_is model_is p_is mail_is =
    ap (λ n. component_line (seen meaning name model p mail) ++ messages_part n.names p mail) network_is
    ∙ ap (λ items. component_line (seen meaning name model p items) ++ messages_part e.network.names p items) mail_is
    ∙ there meaning e.network.names (mail_of e.world.mail c) (slice_get e.network.names c) (slice_get e.network.models c) (slice_get e.world.processes c) name model p
    (ap (λ n. slice_get n.names c) (sym network_is) ∙ name_is) (ap (λ n. slice_get n.models c) (sym network_is) ∙ model_is) p_is
