-- What a machine's entries show is the same whatever a component gives, and the same as the words of its program.
use Rattle.std.proofs.Common.{◌≡◌, ◌∙◌, ◌++◌, ◌∷◌, [], ℕ, zero, suc, ℤ, Bool, true, false, List, Option, Some, None, ap, map, refl, slice_get, slice_index_or, sym}
use Rattle.std.proofs.lemmas.List.{map-append}
use Rattle.tw_machine.specs.declared.language.Expr.{Expr}
use Rattle.tw_machine.specs.declared.language.Word.{Word}
use Rattle.tw_machine.specs.declared.language.Word.TheVariants as w
use Rattle.tw_machine_text.specs.Letters.{functions}
use Rattle.tw_machine_text.specs.Tree as t
use Rattle.tw_machine_compiler.specs.Expressions.{expression}
use Rattle.tw_machine_compiler.specs.Program.{shown_word, word_named, word_numbered}
use Rattle.tw_machine_declaration.specs.Names.{constant, given_number, lists_taken, own_standings, place_named, standing_at, standing_of, standings_of, taken, texts, things}
use Rattle.tw_machine_declaration.specs.Seen.{Declares, Given, Name, Value, parameter, list_parameter, register, registers, queue, queues, table, list_table, observation, procedure, timer, timer_array, fixed, field, number, together, greatest, due, next, whole, tree}
use Rattle.tw_machine_declaration.specs.declared.names.Standing.{Standing}
use Rattle.tw_machine_declaration.specs.declared.names.Standing.TheVariants as s
use Rattle.tw_machine_file.specs.Machines.{nothing_given}
use Rattle.tw_figure_names.specs.Entries.{shown_by, shown_indexed, shown_plain}
use Rattle.tw_figure_names.specs.MachineLaw.{ShownLaw}
use Rattle.tw_figure_names.specs.declared.entries.Shown.{Shown}
use Rattle.tw_figure_names.specs.declared.entries.Shown.TheVariants.{Number, Cells, Observed, Values}

-- ---- words of a program

-- whether it is a queue, and else how many numbers it shows
abbrev pub extent : Shown → Bool × ℕ
extent Number = (false, 1)
extent (Cells n) = (false, n)
extent Observed = (false, 3)
extent Values = (true, 0)

abbrev pub word_extent : Word → Bool × ℕ
word_extent (w.Number e) = (false, 1)
word_extent (w.Values q) = (true, 0)
word_extent (w.Cells span) = (false, span.count)

named : (at : Standing) (e : Expr) → word_extent (word_named at e) ≡ extent (shown_plain at)
named s.Nothing e = refl
named (s.Number n) e = refl
named s.Unknown e = refl
named (s.Cell k) e = refl
named (s.Cells span) e = refl
named (s.Due span) e = refl
named (s.Queue k room) e = refl
named (s.Queues span room) e = refl
named (s.Table span) e = refl
named (s.Observation k) e = refl

numbered : (at : Standing) (i : ℕ) (e : Expr) → word_extent (word_numbered at i e) ≡ extent (shown_indexed at)
numbered s.Nothing i e = refl
numbered (s.Number n) i e = refl
numbered s.Unknown i e = refl
numbered (s.Cell k) i e = refl
numbered (s.Cells span) i e = refl
numbered (s.Due span) i e = refl
numbered (s.Queue k room) i e = refl
numbered (s.Queues span room) i e = refl
numbered (s.Table span) i e = refl
numbered (s.Observation k) i e = refl

extent-shown_word : (ss : List Standing) (v : Value) → word_extent (shown_word ss v) ≡ extent (shown_by ss v)
extent-shown_word ss (whole n) = refl
extent-shown_word ss (tree (t.Name n)) = named (standing_at ss n) (expression ss (t.Name n))
extent-shown_word ss (tree (t.Indexed n (t.Number i))) = numbered (standing_at ss n) i (expression ss (t.Indexed n (t.Number i)))
extent-shown_word ss (tree e) = refl

-- ---- whatever is given

-- what a name shows, and with a number in brackets
abbrev pub kinds : Standing → Shown × Shown
kinds at = (shown_plain at, shown_indexed at)

number_kinds : (o : Option ℤ) → kinds (given_number o) ≡ (Number, Number)
number_kinds (Some n) = refl
number_kinds None = refl

same_standing : (g h : Given) (at : _) (bt : _) (thing : Declares) → kinds (standing_of g at thing) ≡ kinds (standing_of h bt thing)
same_standing g h at bt (parameter k) = number_kinds (slice_get g.numbers k) ∙ sym (number_kinds (slice_get h.numbers k))
same_standing g h at bt (list_parameter k) = refl
same_standing g h at bt (register c) = refl
same_standing g h at bt (registers cs) = refl
same_standing g h at bt (queue c) = refl
same_standing g h at bt (queues n c) = refl
same_standing g h at bt (table ns) = refl
same_standing g h at bt (list_table k) = refl
same_standing g h at bt observation = refl
same_standing g h at bt (procedure k) = refl
same_standing g h at bt (timer before) = refl
same_standing g h at bt (timer_array before last) = refl
same_standing g h at bt (fixed n) = refl
same_standing g h at bt field = refl
same_standing g h at bt (number c) = number_kinds (constant g c) ∙ sym (number_kinds (constant h c))
same_standing g h at bt (together ts) = refl
same_standing g h at bt (greatest t) = refl
same_standing g h at bt (due ts) = refl
same_standing g h at bt (next ts) = refl

same_own : (g h : Given) (at : _) (bt : _) (things : List Declares) → map kinds (own_standings g at things) ≡ map kinds (own_standings h bt things)
same_own g h at bt [] = refl
same_own g h at bt (thing ∷ things) = λ i. same_standing g h at bt thing i ∷ same_own g h (taken g at thing) (taken h bt thing) things i

kinds-standing_at : (ss : List Standing) (n : ℕ) → kinds (standing_at ss n) ≡ slice_index_or (map kinds ss) n (Number, Number)
kinds-standing_at [] n = refl
kinds-standing_at (at ∷ ss) zero = refl
kinds-standing_at (at ∷ ss) (suc n) = kinds-standing_at ss n

same_at : (ss tt : List Standing) (n : ℕ) → map kinds ss ≡ map kinds tt → kinds (standing_at ss n) ≡ kinds (standing_at tt n)
same_at ss tt n same = kinds-standing_at ss n ∙ ap (λ ks. slice_index_or ks n (Number, Number)) same ∙ sym (kinds-standing_at tt n)

same_named : (ss tt : List Standing) (place : List ℕ → ℕ) (names : List (List ℕ)) → map kinds ss ≡ map kinds tt
    → map kinds (map (λ name. standing_at ss (place name)) names) ≡ map kinds (map (λ name. standing_at tt (place name)) names)
same_named ss tt place [] same = refl
same_named ss tt place (name ∷ names) same = λ i. same_at ss tt (place name) same i ∷ same_named ss tt place names same i

same_standings : (g h : Given) (names : List Name) → map kinds (standings_of g names) ≡ map kinds (standings_of h names)
same_standings g h names =
    let own = λ (given : Given). own_standings given (lists_taken given) (things names) in
    let place = λ (function : List ℕ). place_named 0 (texts names) function in
    let same = same_own g h (lists_taken g) (lists_taken h) (things names) in
    map-append kinds (map (λ function. standing_at (own g) (place function)) functions) (own g)
    ∙ (λ i. same_named (own g) (own h) place functions same i ++ same i)
    ∙ sym (map-append kinds (map (λ function. standing_at (own h) (place function)) functions) (own h))

same_by : (ss tt : List Standing) (v : Value) → map kinds ss ≡ map kinds tt → shown_by ss v ≡ shown_by tt v
same_by ss tt (whole n) same = refl
same_by ss tt (tree (t.Name n)) same = ap (λ k. k.0) (same_at ss tt n same)
same_by ss tt (tree (t.Indexed n (t.Number i))) same = ap (λ k. k.1) (same_at ss tt n same)
same_by ss tt (tree e) same = refl

pub shown_law : ShownLaw
shown_law given names v = same_by (standings_of given names) (standings_of nothing_given names) v (same_standings given nothing_given names)

-- a word of the program shows as many numbers as the entry
pub same_extent : (given : Given) (names : List Name) (v : Value) → word_extent (shown_word (standings_of given names) v) ≡ extent (shown_by (standings_of nothing_given names) v)
same_extent given names v = extent-shown_word (standings_of given names) v ∙ ap extent (shown_law given names v)
