-- What a program does, sends and shows, what it logs and what its log takes back hang on no place in memory: each is the same of the program that is
-- seen without these places.
--     meaning-seen p      what a machine of this program means
--     kept_log-seen p, undone-seen p      what a turn logs, and what is taken back by it
use Rattle.std.specs.Prelude.{◌≡◌, ℕ, ℤ, pos, [], ◌∷◌, suc, ◌||◌, ◌+◌, ◌*◌, max, min, length, List, map, take, drop, Option, Some, None, refl, if◌then◌else◌, ◌++◌, option_map, slice_index_or}
use Rattle.std.specs.List.{flat_map}
use Rattle.std.proofs.Common.{ap, ap₂, ◌∙◌}
use Rattle.tw_atomic.specs.Atomic.{Bag, turned}
use Rattle.tw_atomic.specs.declared.Turn.{Turn}
use Rattle.tw_atomic.specs.declared.Turn.TheVariants.{Int, Ext, Con}
use Rattle.tw_machine.specs.declared.language.Expr.{Expr}
use Rattle.tw_machine.specs.declared.language.Expr.TheVariants.{Plain, One', Two', Choose'}
use Rattle.tw_machine.specs.declared.language.Span.{Span}
use Rattle.tw_machine.specs.declared.language.Target.{Target}
use Rattle.tw_machine.specs.declared.language.Target.TheVariants.{Single, Indexed}
use Rattle.tw_machine.specs.declared.language.Position.{Position}
use Rattle.tw_machine.specs.declared.language.Position.TheVariants.{End, Sorted, Given}
use Rattle.tw_machine.specs.declared.language.Which.{Which}
use Rattle.tw_machine.specs.declared.language.Which.TheVariants.{Foremost, Chosen}
use Rattle.tw_machine.specs.declared.language.Statement.{Statement}
use Rattle.tw_machine.specs.declared.language.Statement.TheVariants.{Skip, Then', Block', Set, Alter, Put, Take, Clear, Draw, If', Repeat', Wait, Passivate}
use Rattle.tw_machine.specs.declared.language.Output.{Output}
use Rattle.tw_machine.specs.declared.language.Word.{Word}
use Rattle.tw_machine.specs.declared.language.Word.TheVariants as word
use Rattle.tw_machine.specs.declared.memory.Input.{Input}
use Rattle.tw_machine.specs.declared.memory.State.{State}
use Rattle.tw_machine.specs.Memory.{MemoryValue, first_of, behind_first, cell, with_cell, queue}
use Rattle.tw_machine.specs.Seen.{seen, seen_target, seen_position, seen_which, seen_statement, seen_output, seen_word, seen_program}
use Rattle.tw_machine.specs.Values.{is_set, natural, computed, applied, brought, value_of, target_of}
use Rattle.tw_machine.specs.Running.{altered, came, gone, cleared, is_there, takes, at_turn, turns, with_memory, with_left, position_of, which_of, run}
use Rattle.tw_machine.specs.Undoing.{span_at, unary_reads, reads, rereads, kept_target, kept_position, kept_which, kept_cell, kept_put, kept_take, kept_clear, kept_turns, kept, unaltered, Past, past, cell_undone, put_undone, take_undone, clear_undone, undone_turns, undone, needs}
use Rattle.tw_machine.specs.Fits.{FitsExpr, FitsStatement}
use Rattle.tw_machine.specs.Program.{ProgramText, FitsOutputs, FitsProgram}
use Rattle.tw_machine.specs.Machine as machine
use Rattle.tw_machine.specs.Machine.{time, time_left, ticks_of, minus, later, earlier, own_input, item_input, moved, with_clipped, at_value, passes, on_port, offered, offered_each, given_over, given, sent, shown, machine_meaning, machine_int, machine_ext, machine_out, machine_words, machine_start, run_all, kept_all, undone_all, needs_all, kept_left, kept_int, kept_ext, kept_log, undone_int, undone_ext, machine_undone, needs_of, IsMachine}

-- ---- two steps

ap₃ : {A B C D : Type 0} (f : A → B → C → D) {a a' : A} {b b' : B} {c c' : C} → a ≡ a' → b ≡ b' → c ≡ c' → f a b c ≡ f a' b' c'
ap₃ f {a} {a'} {b} {b'} {c} {c'} p q r = ap (λ x. f x b c) p ∙ ap₂ (f a') q r

ap₄ : {A B C D E : Type 0} (f : A → B → C → D → E) {a a' : A} {b b' : B} {c c' : C} {d d' : D} → a ≡ a' → b ≡ b' → c ≡ c' → d ≡ d' → f a b c d ≡ f a' b' c' d'
ap₄ f {a} {a'} {b} {b'} {c} {c'} {d} {d'} p q r s = ap₂ (λ x y. f x y c d) p q ∙ ap₂ (f a' b') r s

-- ---- numbers

pub value-seen : (e : Expr) → value_of (seen e) ≡ value_of e
value-seen (Plain leaf) = refl
value-seen (One' unary p e) = ap (λ f numbers i m. computed unary (f numbers i m) numbers m) (value-seen e)
value-seen (Two' binary p a q b) = ap₂ (λ f g numbers i m. applied binary (f numbers i m) (g numbers i m) m) (value-seen a) (value-seen b)
value-seen (Choose' p c q a r b) = ap₃ (λ h f g numbers i m. if is_set (h numbers i m) then f numbers i m else g numbers i m) (value-seen c) (value-seen a) (value-seen b)

pub target-seen : (t : Target) → target_of (seen_target t) ≡ target_of t
target-seen (Single r) = refl
target-seen (Indexed s e) = ap (λ f numbers i m. brought s (f numbers i m)) (value-seen e)

pub position-seen : (w : Position) → position_of (seen_position w) ≡ position_of w
position-seen End = refl
position-seen Sorted = refl
position-seen (Given e) = ap (λ f v items numbers i m. min (natural (f numbers i m)) (length items)) (value-seen e)

pub which-seen : (w : Which) → which_of (seen_which w) ≡ which_of w
which-seen Foremost = refl
which-seen (Chosen e) = ap (λ f numbers i m. f numbers i m) (value-seen e)

-- ---- what a statement does

pub run-seen : (a : Statement) → run (seen_statement a) ≡ run a
run-seen Skip = refl
run-seen (Then' p a q b) = ap₂ (λ f g numbers i s. g numbers i (f numbers i s)) (run-seen a) (run-seen b)
run-seen (Block' p a) = ap (λ f numbers i s. f numbers i s) (run-seen a)
run-seen (Set t e) = ap₂ (λ t e numbers i s. with_memory s (with_cell s.memory (t numbers i s.memory) (e numbers i s.memory))) (target-seen t) (value-seen e)
run-seen (Alter change t e) = ap₂ (λ t e numbers i s. with_memory s (altered change (t numbers i s.memory) (e numbers i s.memory) s.memory)) (target-seen t) (value-seen e)
run-seen (Put t w e) =
    ap₃ (λ t w e numbers i s.
    let q = t numbers i s.memory in
    let v = e numbers i s.memory in
    with_memory s (came q (w v (queue s.memory q).items numbers i s.memory) v s.memory)) (target-seen t) (position-seen w) (value-seen e)
run-seen (Take t w) = ap₂ (λ t w numbers i s. with_memory s (gone (t numbers i s.memory) (w numbers i s.memory) s.memory)) (target-seen t) (which-seen w)
run-seen (Clear t n) = ap (λ t numbers i s. with_memory s (cleared (t numbers i s.memory) n s.memory)) (target-seen t)
run-seen Draw = refl
run-seen (If' e p a q b) = ap₃ (λ e f g numbers i s. if is_set (e numbers i s.memory) then f numbers i s else g numbers i s) (value-seen e) (run-seen a) (run-seen b)
run-seen (Repeat' n p a) = ap (λ f numbers i s. turns n (λ k r. f numbers (at_turn i k) r) s) (run-seen a)
run-seen (Wait e) = ap (λ e numbers i s. with_left s (Some (natural (e numbers i s.memory)))) (value-seen e)
run-seen Passivate = refl

-- ---- what it logs

pub reads-seen : (s : Span) (e : Expr) → reads s (seen e) ≡ reads s e
reads-seen s (Plain leaf) = refl
reads-seen s (One' unary p e) = ap (λ r. unary_reads s unary || r) (reads-seen s e)
reads-seen s (Two' binary p a q b) = ap₂ (λ f g. f || g) (reads-seen s a) (reads-seen s b)
reads-seen s (Choose' p c q a r b) = ap₃ (λ h f g. h || (f || g)) (reads-seen s c) (reads-seen s a) (reads-seen s b)

pub rereads-seen : (t : Target) (e : Expr) → rereads (seen_target t) (seen e) ≡ rereads t e
rereads-seen (Single r) e = reads-seen (span_at r) e
rereads-seen (Indexed s at) e = ap₂ (λ f g. f || g) (reads-seen s at) (reads-seen s e)

pub kept_target-seen : (t : Target) → kept_target (seen_target t) ≡ kept_target t
kept_target-seen (Single r) = refl
kept_target-seen (Indexed s e) = refl

pub kept_position-seen : (w : Position) → kept_position (seen_position w) ≡ kept_position w
kept_position-seen End = refl
kept_position-seen Sorted = refl
kept_position-seen (Given e) = refl

pub kept_which-seen : (w : Which) → kept_which (seen_which w) ≡ kept_which w
kept_which-seen Foremost = refl
kept_which-seen (Chosen e) = refl

pub kept_cell-seen : (t : Target) → kept_cell (seen_target t) ≡ kept_cell t
kept_cell-seen t = ap (λ f r m log. f r (cell m r ∷ log)) (kept_target-seen t)

pub kept_put-seen : (t : Target) (w : Position) → kept_put (seen_target t) (seen_position w) ≡ kept_put t w
kept_put-seen t w =
    ap₂ (λ f g q k m log. if takes (queue m q) then pos 1 ∷ f q (g k log) else pos 0 ∷ log) (kept_target-seen t) (kept_position-seen w)

pub kept_take-seen : (t : Target) (w : Which) → kept_take (seen_target t) (seen_which w) ≡ kept_take t w
kept_take-seen t w =
    ap₂ (λ f g q k m log. if is_there k (queue m q).items then pos 1 ∷ slice_index_or (queue m q).items (natural k) (pos 0) ∷ f q (g (natural k) log) else pos 0 ∷ log)
    (kept_target-seen t) (kept_which-seen w)

pub kept_clear-seen : (t : Target) (n : ℕ) → kept_clear (seen_target t) n ≡ kept_clear t n
kept_clear-seen t n =
    ap (λ f q m log. let left = take n (queue m q).items in pos (length left) ∷ f q (left ++ log)) (kept_target-seen t)

pub kept-seen : (a : Statement) → kept (seen_statement a) ≡ kept a
kept-seen Skip = refl
kept-seen (Then' p a q b) = ap₃ (λ r f g numbers i s log. g numbers i (r numbers i s) (f numbers i s log)) (run-seen a) (kept-seen a) (kept-seen b)
kept-seen (Block' p a) = ap (λ f numbers i s log. f numbers i s log) (kept-seen a)
kept-seen (Set t e) = ap₂ (λ k t numbers i s log. k (t numbers i s.memory) s.memory log) (kept_cell-seen t) (target-seen t)
kept-seen (Alter change t e) = ap₃ (λ r k t numbers i s log. if r then k (t numbers i s.memory) s.memory log else log) (rereads-seen t e) (kept_cell-seen t) (target-seen t)
kept-seen (Put t w e) =
    ap₄ (λ k t w e numbers i s log.
    let q = t numbers i s.memory in
    k q (w (e numbers i s.memory) (queue s.memory q).items numbers i s.memory) s.memory log) (kept_put-seen t w) (target-seen t) (position-seen w) (value-seen e)
kept-seen (Take t w) = ap₃ (λ k t w numbers i s log. k (t numbers i s.memory) (w numbers i s.memory) s.memory log) (kept_take-seen t w) (target-seen t) (which-seen w)
kept-seen (Clear t n) = ap₂ (λ k t numbers i s log. k (t numbers i s.memory) s.memory log) (kept_clear-seen t n) (target-seen t)
kept-seen Draw = refl
kept-seen (If' e p a q b) =
    ap₃ (λ e f g numbers i s log. if is_set (e numbers i s.memory) then pos 1 ∷ f numbers i s log else pos 0 ∷ g numbers i s log) (value-seen e) (kept-seen a) (kept-seen b)
kept-seen (Repeat' n p a) =
    ap₂ (λ r f numbers i s log. kept_turns n (λ k x. r numbers (at_turn i k) x) (λ k x l. f numbers (at_turn i k) x l) s log) (run-seen a) (kept-seen a)
kept-seen (Wait e) = refl
kept-seen Passivate = refl

pub needs-seen : (a : Statement) → needs (seen_statement a) ≡ needs a
needs-seen Skip = refl
needs-seen (Then' p a q b) = ap₂ (λ m n. m + n) (needs-seen a) (needs-seen b)
needs-seen (Block' p a) = needs-seen a
needs-seen (Set t e) = refl
needs-seen (Alter change t e) = refl
needs-seen (Put t w e) = refl
needs-seen (Take t w) = refl
needs-seen (Clear t n) = refl
needs-seen Draw = refl
needs-seen (If' e p a q b) = ap₂ (λ m n. max m n + 1) (needs-seen a) (needs-seen b)
needs-seen (Repeat' n p a) = ap (λ m. n * m) (needs-seen a)
needs-seen (Wait e) = refl
needs-seen Passivate = refl

-- ---- what is taken back by it

pub cell_undone-seen : (t : Target) → cell_undone (seen_target t) ≡ cell_undone t
cell_undone-seen (Single r) = refl
cell_undone-seen (Indexed s e) = refl

pub put_undone-seen : (t : Target) (w : Position) → put_undone (seen_target t) (seen_position w) ≡ put_undone t w
put_undone-seen (Single r) End = refl
put_undone-seen (Single r) Sorted = refl
put_undone-seen (Single r) (Given e) = refl
put_undone-seen (Indexed s at) End = refl
put_undone-seen (Indexed s at) Sorted = refl
put_undone-seen (Indexed s at) (Given e) = refl

pub take_undone-seen : (t : Target) (w : Which) → take_undone (seen_target t) (seen_which w) ≡ take_undone t w
take_undone-seen (Single r) Foremost = refl
take_undone-seen (Single r) (Chosen e) = refl
take_undone-seen (Indexed s at) Foremost = refl
take_undone-seen (Indexed s at) (Chosen e) = refl

pub clear_undone-seen : (t : Target) → clear_undone (seen_target t) ≡ clear_undone t
clear_undone-seen (Single r) = refl
clear_undone-seen (Indexed s at) = refl

pub undone-seen : (a : Statement) → undone (seen_statement a) ≡ undone a
undone-seen Skip = refl
undone-seen (Then' p a q b) = ap₂ (λ f g numbers i u. f numbers i (g numbers i u)) (undone-seen a) (undone-seen b)
undone-seen (Block' p a) = ap (λ f numbers i u. f numbers i u) (undone-seen a)
undone-seen (Set t e) = ap (λ f numbers i u. f u.memory u.log) (cell_undone-seen t)
undone-seen (Alter change t e) =
    ap₄ (λ r k t e numbers i u. if r then k u.memory u.log else past (unaltered change (t numbers i u.memory) (e numbers i u.memory) u.memory) u.log)
    (rereads-seen t e) (cell_undone-seen t) (target-seen t) (value-seen e)
undone-seen (Put t w e) = ap (λ f numbers i u. f u) (put_undone-seen t w)
undone-seen (Take t w) = ap (λ f numbers i u. f u) (take_undone-seen t w)
undone-seen (Clear t n) = ap (λ f numbers i u. f u) (clear_undone-seen t)
undone-seen Draw = refl
undone-seen (If' e p a q b) =
    ap₂ (λ f g numbers i u. if is_set (first_of u.log) then f numbers i (past u.memory (behind_first u.log)) else g numbers i (past u.memory (behind_first u.log)))
    (undone-seen a) (undone-seen b)
undone-seen (Repeat' n p a) = ap (λ f numbers i u. undone_turns n (λ k t. f numbers (at_turn i k) t) u) (undone-seen a)
undone-seen (Wait e) = refl
undone-seen Passivate = refl

-- ---- for the items of a bag

pub run_all-seen : (a : Statement) (numbers : List ℤ) (elapsed left tick : ℤ) (bag : Bag) (s : State)
    → run_all (seen_statement a) numbers elapsed left tick bag s ≡ run_all a numbers elapsed left tick bag s
run_all-seen a numbers elapsed left tick [] s = refl
run_all-seen a numbers elapsed left tick (item ∷ items) s =
    ap (λ f. run_all (seen_statement a) numbers (pos 0) left tick items (f numbers (item_input elapsed left tick item) s)) (run-seen a)
    ∙ run_all-seen a numbers (pos 0) left tick items (run a numbers (item_input elapsed left tick item) s)

pub kept_all-seen : (a : Statement) (numbers : List ℤ) (elapsed left tick : ℤ) (bag : Bag) (s : State) (log : List ℤ)
    → kept_all (seen_statement a) numbers elapsed left tick bag s log ≡ kept_all a numbers elapsed left tick bag s log
kept_all-seen a numbers elapsed left tick [] s log = refl
kept_all-seen a numbers elapsed left tick (item ∷ items) s log =
    let i = item_input elapsed left tick item in
    ap₂ (λ f g. kept_all (seen_statement a) numbers (pos 0) left tick items (f numbers i s) (g numbers i s log)) (run-seen a) (kept-seen a)
    ∙ kept_all-seen a numbers (pos 0) left tick items (run a numbers i s) (kept a numbers i s log)

pub undone_all-seen : (a : Statement) (numbers : List ℤ) (elapsed left tick : ℤ) (bag : Bag) (u : Past)
    → undone_all (seen_statement a) numbers elapsed left tick bag u ≡ undone_all a numbers elapsed left tick bag u
undone_all-seen a numbers elapsed left tick [] u = refl
undone_all-seen a numbers elapsed left tick (item ∷ items) u =
    ap₂ (λ f v. f numbers (item_input elapsed left tick item) v) (undone-seen a) (undone_all-seen a numbers (pos 0) left tick items u)

-- ---- what is sent and shown

pub passes-seen : (o : Option Expr) → passes (option_map seen o) ≡ passes o
passes-seen None = refl
passes-seen (Some e) = ap (λ f numbers i m. is_set (f numbers i m)) (value-seen e)

pub offered-seen : (o : Output) → offered (seen_output o) ≡ offered o
offered-seen o =
    ap₃ (λ w p v numbers i m. if w numbers i m then on_port (p numbers i m) (v numbers i m) else []) (passes-seen o.when) (value-seen o.port) (value-seen o.value)

pub offered_each-seen : (o : Output) (numbers : List ℤ) (i : Input) (m : MemoryValue) (k : ℕ) (values : List ℤ)
    → offered_each (seen_output o) numbers i m k values ≡ offered_each o numbers i m k values
offered_each-seen o numbers i m k [] = refl
offered_each-seen o numbers i m k (v ∷ values) =
    ap₂ (λ f rest. f numbers (at_value i k v) m ++ rest) (offered-seen o) (offered_each-seen o numbers i m (suc k) values)

pub given_over-seen : (each : Option Target) (o : Output) (numbers : List ℤ) (i : Input) (m : MemoryValue)
    → given_over (option_map seen_target each) (seen_output o) numbers i m ≡ given_over each o numbers i m
given_over-seen None o numbers i m = ap (λ f. f numbers i m) (offered-seen o)
given_over-seen (Some t) o numbers i m =
    ap (λ t. offered_each (seen_output o) numbers i m 0 (queue m (t numbers i m)).items) (target-seen t)
    ∙ offered_each-seen o numbers i m 0 (queue m (target_of t numbers i m)).items

pub given-seen : (o : Output) (numbers : List ℤ) (i : Input) (m : MemoryValue) → given (seen_output o) numbers i m ≡ given o numbers i m
given-seen o numbers i m = given_over-seen o.each o numbers i m

pub all_given-seen : (outputs : List Output) (numbers : List ℤ) (i : Input) (m : MemoryValue)
    → flat_map (λ o. given o numbers i m) (map seen_output outputs) ≡ flat_map (λ o. given o numbers i m) outputs
all_given-seen [] numbers i m = refl
all_given-seen (o ∷ outputs) numbers i m = ap₂ (λ one rest. one ++ rest) (given-seen o numbers i m) (all_given-seen outputs numbers i m)

pub word-seen : (w : Word) → machine.word (seen_word w) ≡ machine.word w
word-seen (word.Number e) = ap (λ f numbers i m. f numbers i m ∷ []) (value-seen e)
word-seen (word.Values q) = refl
word-seen (word.Cells s) = refl

pub shown-seen : (words : List Word) (numbers : List ℤ) (i : Input) (m : MemoryValue) → shown (map seen_word words) numbers i m ≡ shown words numbers i m
shown-seen [] numbers i m = refl
shown-seen (w ∷ words) numbers i m = ap₂ (λ f rest. f numbers i m ++ rest) (word-seen w) (shown-seen words numbers i m)

-- ---- of a whole program

pub int-seen : (p : ProgramText) (s : State) → machine_int (seen_program p) s ≡ machine_int p s
int-seen p s =
    let elapsed = ticks_of s.left in
    ap (λ f. with_clipped p.longest (f p.numbers (own_input elapsed (later s.time elapsed)) (moved s elapsed None))) (run-seen p.internal)

pub ext-seen : (p : ProgramText) (s : State) (elapsed : ℕ) (bag : Bag) → machine_ext (seen_program p) s elapsed bag ≡ machine_ext p s elapsed bag
ext-seen p s elapsed bag =
    let rest = minus s.left elapsed in
    ap (with_clipped p.longest) (run_all-seen p.external p.numbers (time elapsed) (time_left rest) (time (later s.time elapsed)) bag (moved s elapsed rest))

pub out-seen : (p : ProgramText) (s : State) → machine_out (seen_program p) s ≡ machine_out p s
out-seen p s = let elapsed = ticks_of s.left in ap (take 64) (all_given-seen p.outputs p.numbers (own_input elapsed (later s.time elapsed)) s.memory)

pub words-seen : (p : ProgramText) (s : State) → machine_words (seen_program p) s ≡ machine_words p s
words-seen p s = shown-seen p.words p.numbers (own_input 0 s.time) s.memory

pub turned-seen : (p : ProgramText) (turn : Turn) (s : State) (elapsed : ℕ) (bag : Bag)
    → turned (machine_meaning (seen_program p)) turn s elapsed bag ≡ turned (machine_meaning p) turn s elapsed bag
turned-seen p Int s elapsed bag = int-seen p s
turned-seen p Ext s elapsed bag = ext-seen p s elapsed bag
turned-seen p Con s elapsed bag = ext-seen p (machine_int (seen_program p) s) 0 bag ∙ ap (λ s. machine_ext p s 0 bag) (int-seen p s)

pub kept_left-seen : (p : ProgramText) (turn : Turn) (s : State) → kept_left (seen_program p) turn s ≡ kept_left p turn s
kept_left-seen p Int s = refl
kept_left-seen p Ext s = refl
kept_left-seen p Con s = ap (λ s. s.left) (int-seen p s)

pub kept_int-seen : (p : ProgramText) (s : State) (log : List ℤ) → kept_int (seen_program p) s log ≡ kept_int p s log
kept_int-seen p s log =
    let elapsed = ticks_of s.left in
    ap (λ f. f p.numbers (own_input elapsed (later s.time elapsed)) (moved s elapsed None) log) (kept-seen p.internal)

pub kept_ext-seen : (p : ProgramText) (s : State) (elapsed : ℕ) (bag : Bag) (log : List ℤ) → kept_ext (seen_program p) s elapsed bag log ≡ kept_ext p s elapsed bag log
kept_ext-seen p s elapsed bag log =
    let rest = minus s.left elapsed in
    kept_all-seen p.external p.numbers (time elapsed) (time_left rest) (time (later s.time elapsed)) bag (moved s elapsed rest) log

pub kept_log-seen : (p : ProgramText) (turn : Turn) (s : State) (elapsed : ℕ) (bag : Bag) → kept_log (seen_program p) turn s elapsed bag ≡ kept_log p turn s elapsed bag
kept_log-seen p Int s elapsed bag = kept_int-seen p s []
kept_log-seen p Ext s elapsed bag = kept_ext-seen p s elapsed bag []
kept_log-seen p Con s elapsed bag =
    kept_ext-seen p (machine_int (seen_program p) s) 0 bag (kept_int (seen_program p) s []) ∙ ap₂ (λ s log. kept_ext p s 0 bag log) (int-seen p s) (kept_int-seen p s [])

pub undone_int-seen : (p : ProgramText) (elapsed now : ℕ) (u : Past) → undone_int (seen_program p) elapsed now u ≡ undone_int p elapsed now u
undone_int-seen p elapsed now u = ap (λ f. f p.numbers (own_input elapsed now) u) (undone-seen p.internal)

pub undone_ext-seen : (p : ProgramText) (left : Option ℕ) (elapsed now : ℕ) (bag : Bag) (u : Past)
    → undone_ext (seen_program p) left elapsed now bag u ≡ undone_ext p left elapsed now bag u
undone_ext-seen p left elapsed now bag u = undone_all-seen p.external p.numbers (time elapsed) (time_left (minus left elapsed)) (time now) bag u

pub machine_undone-seen : (p : ProgramText) (left : Option ℕ) (log : List ℤ) (turn : Turn) (s : State) (elapsed : ℕ) (bag : Bag)
    → machine_undone (seen_program p) left log turn s elapsed bag ≡ machine_undone p left log turn s elapsed bag
machine_undone-seen p left log Int s elapsed bag =
    ap (λ u. record { memory = u.memory; time = earlier s.time elapsed; left = Some elapsed }) (undone_int-seen p elapsed s.time (past s.memory log))
machine_undone-seen p left log Ext s elapsed bag =
    ap (λ u. record { memory = u.memory; time = earlier s.time elapsed; left = left }) (undone_ext-seen p left elapsed s.time bag (past s.memory log))
machine_undone-seen p left log Con s elapsed bag =
    ap (λ u. record { memory = u.memory; time = earlier s.time elapsed; left = Some elapsed })
    (undone_int-seen p elapsed s.time (undone_ext (seen_program p) left 0 s.time bag (past s.memory log))
    ∙ ap (undone_int p elapsed s.time) (undone_ext-seen p left 0 s.time bag (past s.memory log)))

-- ---- its numbers fit

pub expr-fits-seen : (e : Expr) → FitsExpr e → FitsExpr (seen e)
expr-fits-seen (Plain leaf) fits = fits
expr-fits-seen (One' unary p e) fits = expr-fits-seen e fits
expr-fits-seen (Two' binary p a q b) fits = (expr-fits-seen a fits.0, expr-fits-seen b fits.1)
expr-fits-seen (Choose' p c q a r b) fits = (expr-fits-seen c fits.0, (expr-fits-seen a fits.1.0, expr-fits-seen b fits.1.1))

pub statement-fits-seen : (a : Statement) → FitsStatement a → FitsStatement (seen_statement a)
statement-fits-seen Skip fits = fits
statement-fits-seen (Then' p a q b) fits = (statement-fits-seen a fits.0, statement-fits-seen b fits.1)
statement-fits-seen (Block' p a) fits = statement-fits-seen a fits
statement-fits-seen (Set t e) fits = expr-fits-seen e fits
statement-fits-seen (Alter change t e) fits = expr-fits-seen e fits
statement-fits-seen (Put t w e) fits = expr-fits-seen e fits
statement-fits-seen (Take t w) fits = fits
statement-fits-seen (Clear t n) fits = fits
statement-fits-seen Draw fits = fits
statement-fits-seen (If' e p a q b) fits = (statement-fits-seen a fits.0, statement-fits-seen b fits.1)
statement-fits-seen (Repeat' n p a) fits = (statement-fits-seen a fits.0, fits.1)
statement-fits-seen (Wait e) fits = fits
statement-fits-seen Passivate fits = fits

pub outputs-fit-seen : (outputs : List Output) → FitsOutputs outputs → FitsOutputs (map seen_output outputs)
outputs-fit-seen [] fits = fits
outputs-fit-seen (o ∷ outputs) fits = (expr-fits-seen o.value fits.0, outputs-fit-seen outputs fits.1)

pub program-fits-seen : (p : ProgramText) → FitsProgram p → FitsProgram (seen_program p)
program-fits-seen p fits =
    record {
      cells = fits.cells;
      rooms = fits.rooms;
      numbers = fits.numbers;
      internal = statement-fits-seen p.internal fits.internal;
      external = statement-fits-seen p.external fits.external;
      outputs = outputs-fit-seen p.outputs fits.outputs;
    }
