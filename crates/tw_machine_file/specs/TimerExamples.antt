-- What timers come to is what the language says by these texts: of two timers, the first of them with a count, over names for what is hidden.
use Rattle.std.specs.Prelude.{◌≡◌, ◌++◌, ◌∷◌, [], ℕ, List, Option, Some, None, false, true, codes, map}
use Rattle.tw_machine_text.specs.Kinds.{kinds_of}
use Rattle.tw_machine_text.specs.declared.kinds.Kind.{Kind}
use Rattle.tw_machine_text.specs.declared.kinds.Kind.TheVariants.{Register, RegisterArray, Parameter, Queue}
use Rattle.tw_machine_text.specs.declared.kinds.Meaning.{Meaning}
use Rattle.tw_machine_text.specs.declared.kinds.Member.TheVariants as member
use Rattle.tw_machine_text.specs.declared.words.Builtin.TheVariants.{Now}
use Rattle.tw_machine_text.specs.Tree.{Block, Tree, Known, Draw, Passivate, Empty, Then}
use Rattle.tw_machine_declaration.specs.Seen.{tree}
use Rattle.tw_machine_declaration.specs.Timed.{Names, names_behind, ended, internal, lies_in, nothing_to_send, with_test}
use Rattle.tw_machine_file.specs.Said.{program_said, tree_said}

-- the hidden names of two timers of a machine without other names, by words that a text can have
abbrev pub two : Names
two = names_behind 0 2

abbrev pub visible : List (List ℕ × Kind)
visible =
    (codes "due", RegisterArray) ∷ (codes "next", Register) ∷ (codes "least", Parameter) ∷ (codes "b", Parameter) ∷ (codes "greatest", Parameter) ∷ (codes "b2", Parameter) ∷ (codes "greatest2", Parameter)
    ∷ (codes "all", Parameter) ∷ (codes "ports", Queue) ∷ (codes "values", Queue) ∷ []

abbrev pub meant : List (List ℕ × Meaning)
meant = map (λ d. (d.0, record { kind = d.1; field = None })) visible

abbrev pub says : List ℕ → Option Block
says text = program_said (map (λ d. d.0) visible) None (kinds_of meant) [] text

abbrev pub tells : List ℕ → Option Tree
tells text = tree_said member.Value (map (λ d. d.0) visible) None (kinds_of meant) text

-- the end of both programs
abbrev pub end_text : List ℕ
end_text =
    codes "next = -1 repeat all { if due[turn] >= 0 and (next < 0 or due[turn] < due[next]) { next = turn } } "
    ++ codes "if length(ports) > 0 { wait 0 } else if next < 0 { passivate } else { wait due[next] - now }"

abbrev pub EndWritten : Type 0
EndWritten = says end_text ≡ Some (ended two true Empty)

-- the internal program of a timer that draws and one that does not
abbrev pub InternalWritten : Type 0
InternalWritten =
    says (codes "if length(ports) > 0 { clear ports clear values } else { due[next] = -1 if next < b2 { draw } else { passivate } } " ++ end_text)
    ≡ Some (internal two true (Then Empty Draw false ∷ Then Empty Passivate false ∷ []))

-- the condition of an output of the first timer, which has `now` for its own
abbrev pub TestWritten : Type 0
TestWritten =
    tells (codes "length(ports) == 0 and next >= b and next < b2 and (now)") ≡ Some (with_test (Some (tree (Known Now))) (lies_in two 0 true (nothing_to_send two true)))
