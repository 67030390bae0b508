-- What a text says: the program or the expression that the grammar gives it, in the core of the language, of at most 64 levels and 4,096 nodes.
use Rattle.std.specs.Prelude.{◌≡◌, ◌↔◌, ◌∷◌, ◌&&◌, ℕ, suc, length, List, false, Option, Some, None, nat_le, option_and_then, option_map, if◌then◌else◌}
use Rattle.tw_machine_text.specs.Limits.{max_levels, max_nodes, written_levels, written_nodes}
use Rattle.tw_machine_text.specs.declared.kinds.Meaning.{Meaning}
use Rattle.tw_machine_text.specs.declared.kinds.Member.{Member}
use Rattle.tw_machine_text.specs.declared.kinds.Timing.{Timing}
use Rattle.tw_machine_text.specs.declared.words.Word.{Word}
use Rattle.tw_machine_text.specs.declared.words.Word.TheVariants.{Wait}
use Rattle.tw_machine_text.specs.Desugared.{desugared_block, desugared_text, limited, limited_tree}
use Rattle.tw_machine_text.specs.Timers.{may_stand, may_stand_as}
use Rattle.tw_machine_text.specs.Kinds.{waited}
use Rattle.tw_machine_text.specs.Machine.{program_of, weigh}
use Rattle.tw_machine_text.specs.Text.{words_of, Reads, ReadsTree}
use Rattle.tw_machine_text.specs.Tree.{Block, Tree, heads}

-- the program that words are, of no more than so many nodes, and of no more than 4,096 operators and statements
abbrev pub spelled_program : ℕ → List Word → Option Block
spelled_program many ws = if nat_le (weigh false ws) many && nat_le (heads ws) max_nodes then program_of written_levels ws else None

-- in which each name stands where it may, so many procedures may be used, and no more numbers are drawn than may be
abbrev pub standing_program : Option Timing → List Meaning → ℕ → Block → Option Block
standing_program timing kinds known p = if may_stand timing kinds known p then Some p else None

abbrev pub standing_tree : Option Timing → Member → List Meaning → Tree → Option Tree
standing_tree timing member kinds e = if may_stand_as timing member kinds e then Some e else None

-- which comes to this in the core of the language
abbrev pub core_program : Option Timing → List Meaning → List Block → Block → Option Block
core_program timing kinds procedures p = limited max_levels max_nodes (desugared_block timing kinds procedures p)

abbrev pub core_value : Option Timing → List Meaning → Tree → Option Tree
core_value timing kinds e = limited_tree max_levels max_nodes (desugared_text timing kinds e)

-- the program of a text, by the names that are declared, the machine's timers, what each name stands for, and the programs of the procedures that it may use
unfoldable pub program_said : List (List ℕ) → Option Timing → List Meaning → List Block → List ℕ → Option Block
program_said names timing kinds procedures text =
    option_and_then (core_program timing kinds procedures) (option_and_then (standing_program timing kinds (length procedures)) (option_and_then (spelled_program written_nodes) (words_of names text)))

-- the expression of a text, which is that of the program that waits for it
unfoldable pub tree_said : Member → List (List ℕ) → Option Timing → List Meaning → List ℕ → Option Tree
tree_said member names timing kinds text =
    option_and_then (core_value timing kinds) (option_and_then (standing_tree timing member kinds) (option_and_then waited (option_and_then (spelled_program (suc written_nodes)) (option_map (λ ws. Wait ∷ ws) (words_of names text)))))

-- no program is said but the one that the grammar gives, and that one is
abbrev pub SaysPrograms : Type 0
SaysPrograms = (names : List (List ℕ)) (timing : Option Timing) (kinds : List Meaning) (procedures : List Block) (text : List ℕ) (p : Block) → ((program_said names timing kinds procedures text ≡ Some p) ↔ Reads max_levels max_nodes names timing kinds procedures text p)

abbrev pub SaysTrees : Type 0
SaysTrees = (member : Member) (names : List (List ℕ)) (timing : Option Timing) (kinds : List Meaning) (text : List ℕ) (e : Tree) → ((tree_said member names timing kinds text ≡ Some e) ↔ ReadsTree max_levels max_nodes member names timing kinds text e)
