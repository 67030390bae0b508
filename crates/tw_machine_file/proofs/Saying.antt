-- What a text says is what the grammar gives it.
use Rattle.std.proofs.Common.{◌≡◌, ◌≤◌, ◌∷◌, ℕ, length, List, Bool, true, false, refl, sym, subst, ap, ◌∙◌}
use Rattle.std.proofs.lemmas.Bool.{leb-true, le-leb}
use Rattle.std.proofs.lemmas.Option.{same_Some}
use Rattle.std.specs.Prelude.{◌&&◌, Option, Some, None, nat_le, option_and_then, option_map, if◌then◌else◌}
use Rattle.tw_machine_text.specs.declared.kinds.Meaning.{Meaning}
use Rattle.tw_machine_text.specs.declared.kinds.Member.{Member}
use Rattle.tw_machine_text.specs.declared.kinds.Timing.{Timing}
use Rattle.tw_machine_text.specs.declared.words.Word.{Word}
use Rattle.tw_machine_text.specs.declared.words.Word.TheVariants.{Wait}
use Rattle.tw_machine_text.specs.Desugared.{desugared_block, limited, limited_tree}
use Rattle.tw_machine_text.specs.Timers.{may_stand, may_stand_as}
use Rattle.tw_machine_text.specs.Kinds.{waited}
use Rattle.tw_machine_text.specs.Machine.{program_of, weigh}
use Rattle.tw_machine_text.specs.Text.{words_of, Reads, ReadsTree}
use Rattle.tw_machine_text.specs.Tree.{Block, Tree, Empty, Then, Means, heads}
use Rattle.tw_machine_text.specs.Tree as t
use Rattle.tw_machine_text.proofs.Readings.{within, read_tree, tree_means}
use Rattle.tw_machine_text.proofs.Scanned.{words_again, words_sound}
use Rattle.tw_machine_text.proofs.Statements.{again_means}
use Rattle.tw_machine_text.proofs.Told.{sound, light}
use Rattle.tw_machine_file.specs.Said.{spelled_program, standing_program, core_program, core_value, standing_tree, program_said, tree_said}

-- ---- options

-- what comes of something comes of what there is
from_some : {A B : Type 0} (f : A → Option B) (o : Option A) (y : B) → option_and_then f o ≡ Some y → (x : A) × (o ≡ Some x) × (f x ≡ Some y)
from_some f None y h = absurd (cc)
from_some f (Some x) y h = (x, refl, h)

-- what a test lets through
let_through : {A : Type 0} (b : Bool) (x y : A) → (if b then Some x else None) ≡ Some y → (b ≡ true) × (x ≡ y)
let_through true x y h = (refl, same_Some x y h)
let_through false x y h = absurd (cc)

-- ---- words

both : (a b : Bool) → (a && b) ≡ true → (a ≡ true) × (b ≡ true)
both true true h = (refl, refl)
both true false h = absurd (cc h)
both false b h = absurd (cc h)

light_words : (many : ℕ) (ws : List Word) (p : Block) → spelled_program many ws ≡ Some p → (weigh false ws ≤ many) × (heads ws ≤ 4096) × (program_of 65 ws ≡ Some p)
light_words many ws p = by (nat_le (weigh false ws) many && nat_le (heads ws) 4096) refl
  where
    by : (b : Bool) → (nat_le (weigh false ws) many && nat_le (heads ws) 4096) ≡ b → (if b then program_of 65 ws else None) ≡ Some p → (weigh false ws ≤ many) × (heads ws ≤ 4096) × (program_of 65 ws ≡ Some p)
    by true small h = let s = both (nat_le (weigh false ws) many) (nat_le (heads ws) 4096) small in (leb-true _ _ s.0, leb-true _ _ s.1, h)
    by false small h = absurd (cc)

spelled_means : (many : ℕ) (ws : List Word) (p : Block) → spelled_program many ws ≡ Some p → Means 65 many ws p
spelled_means many ws p h = let l = light_words many ws p h in sound 65 many ws p l.0 l.1 l.2

means_spelled : (many : ℕ) (ws : List Word) (p : Block) → Means 65 many ws p → spelled_program many ws ≡ Some p
means_spelled many ws p h = rw (le-leb (weigh false ws) many (light 65 many ws p h), le-leb (heads ws) 4096 h.short) (again_means 65 many ws p h)

-- ---- programs

pub program_reads : (names : List (List ℕ)) (timing : Option Timing) (kinds : List Meaning) (procedures : List Block) (text : List ℕ) (p : Block) → program_said names timing kinds procedures text ≡ Some p → Reads 64 4096 names timing kinds procedures text p
unfolding program_said
program_reads names timing kinds procedures text p h =
    let core = from_some (core_program timing kinds procedures) (option_and_then (standing_program timing kinds (length procedures)) (option_and_then (spelled_program 8192) (words_of names text))) p h in
    let standing = from_some (standing_program timing kinds (length procedures)) (option_and_then (spelled_program 8192) (words_of names text)) core.0 core.1 in
    let through = let_through (may_stand timing kinds (length procedures) standing.0) standing.0 core.0 standing.2 in
    let spelled = from_some (spelled_program 8192) (words_of names text) standing.0 standing.1 in
    let limits = within 64 4096 (desugared_block timing kinds procedures core.0) p core.2 in
    record {
      words = spelled.0;
      has = words_sound names text spelled.0 spelled.1;
      written = core.0;
      means = subst (Means 65 8192 spelled.0) through.1 (spelled_means 8192 spelled.0 standing.0 spelled.2);
      stands = subst (λ (q : Block). may_stand timing kinds (length procedures) q ≡ true) through.1 through.0;
      comes = limits.0;
      limits = limits.1;
    }

pub reads_program : (names : List (List ℕ)) (timing : Option Timing) (kinds : List Meaning) (procedures : List Block) (text : List ℕ) (p : Block) → Reads 64 4096 names timing kinds procedures text p → program_said names timing kinds procedures text ≡ Some p
unfolding program_said
reads_program names timing kinds procedures text p h =
    ap (λ (o : Option (List Word)). option_and_then (core_program timing kinds procedures) (option_and_then (standing_program timing kinds (length procedures)) (option_and_then (spelled_program 8192) o))) (words_again names h.words text h.has)
    ∙ ap (λ (o : Option Block). option_and_then (core_program timing kinds procedures) (option_and_then (standing_program timing kinds (length procedures)) o)) (means_spelled 8192 h.words h.written h.means)
    ∙ ap (λ (b : Bool). option_and_then (core_program timing kinds procedures) (if b then Some h.written else None)) h.stands
    ∙ ap (limited 64 4096) h.comes
    ∙ ap (λ (b : Bool). if b then Some p else None) h.limits

-- ---- expressions

behind_wait : (o : Option (List Word)) (all : List Word) → option_map (λ (ws : List Word). Wait ∷ ws) o ≡ Some all → (ws : List Word) × (o ≡ Some ws) × (all ≡ Wait ∷ ws)
behind_wait None all h = absurd (cc)
behind_wait (Some ws) all h = (ws, refl, sym (same_Some (Wait ∷ ws) all h))

pub tree_reads : (member : Member) (names : List (List ℕ)) (timing : Option Timing) (kinds : List Meaning) (text : List ℕ) (e : Tree) → tree_said member names timing kinds text ≡ Some e → ReadsTree 64 4096 member names timing kinds text e
unfolding tree_said
tree_reads member names timing kinds text e h =
    let waiting = option_map (λ (ws : List Word). Wait ∷ ws) (words_of names text) in
    let core = from_some (core_value timing kinds) (option_and_then (standing_tree timing member kinds) (option_and_then waited (option_and_then (spelled_program 8193) waiting))) e h in
    let standing = from_some (standing_tree timing member kinds) (option_and_then waited (option_and_then (spelled_program 8193) waiting)) core.0 core.1 in
    let through = let_through (may_stand_as timing member kinds standing.0) standing.0 core.0 standing.2 in
    let is_waited = from_some waited (option_and_then (spelled_program 8193) waiting) standing.0 standing.1 in
    let spelled = from_some (spelled_program 8193) waiting is_waited.0 is_waited.1 in
    let words = behind_wait (words_of names text) spelled.0 spelled.1 in
    read_tree names timing kinds text 64 4096 member true words.0 is_waited.0 core.0 e refl words.1
    (subst (λ (ws : List Word). Means 65 8193 ws is_waited.0) words.2 (spelled_means 8193 spelled.0 is_waited.0 spelled.2))
    (is_waited.2 ∙ ap Some through.1)
    (subst (λ (q : Tree). may_stand_as timing member kinds q ≡ true) through.1 through.0)
    core.2

pub reads_tree : (member : Member) (names : List (List ℕ)) (timing : Option Timing) (kinds : List Meaning) (text : List ℕ) (e : Tree) → ReadsTree 64 4096 member names timing kinds text e → tree_said member names timing kinds text ≡ Some e
unfolding tree_said
reads_tree member names timing kinds text e h =
    let words = words_again names h.words text h.has in
    let means = tree_means names timing kinds text 64 4096 member true h.words e words h in
    ap (λ (o : Option (List Word)). option_and_then (core_value timing kinds) (option_and_then (standing_tree timing member kinds) (option_and_then waited (option_and_then (spelled_program 8193) (option_map (λ (ws : List Word). Wait ∷ ws) o))))) words
    ∙ ap (λ (o : Option Block). option_and_then (core_value timing kinds) (option_and_then (standing_tree timing member kinds) (option_and_then waited o))) (means_spelled 8193 (Wait ∷ h.words) (Then Empty (t.Wait h.written) false) means.1)
    ∙ ap (λ (b : Bool). option_and_then (core_value timing kinds) (if b then Some h.written else None)) h.stands
    ∙ ap (limited_tree 64 4096) h.comes
    ∙ ap (λ (b : Bool). if b then Some e else None) h.limits

-- ---- what the reader answers

-- a text that is refused says nothing
pub no_program : (names : List (List ℕ)) (timing : Option Timing) (kinds : List Meaning) (procedures : List Block) (text : List ℕ) → ((p : Block) → Reads 64 4096 names timing kinds procedures text p → ⊥) → program_said names timing kinds procedures text ≡ None
no_program names timing kinds procedures text none = by (program_said names timing kinds procedures text) refl
  where
    by : (o : Option Block) → program_said names timing kinds procedures text ≡ o → program_said names timing kinds procedures text ≡ None
    by None e = e
    by (Some p) e = absurd (none p (program_reads names timing kinds procedures text p e))

pub no_tree : (member : Member) (names : List (List ℕ)) (timing : Option Timing) (kinds : List Meaning) (text : List ℕ) → ((e : Tree) → ReadsTree 64 4096 member names timing kinds text e → ⊥) → tree_said member names timing kinds text ≡ None
no_tree member names timing kinds text none = by (tree_said member names timing kinds text) refl
  where
    by : (o : Option Tree) → tree_said member names timing kinds text ≡ o → tree_said member names timing kinds text ≡ None
    by None e = e
    by (Some p) e = absurd (none p (tree_reads member names timing kinds text p e))
