-- What an expression does not read does not change its value.
use Rattle.std.specs.Prelude.{◌≡◌, ℕ, zero, suc, ℤ, pos, ◌<◌, ◌≤◌, Bool, true, false, ◌&&◌, ◌||◌, List, [], ◌∷◌, slice_index_or, slice_set, if◌then◌else◌, nat_lt, refl}
use Rattle.std.proofs.Common.{arith, ap, ap₂, ◌∙◌, sym, subst}
use Rattle.std.proofs.lemmas.Bool.{lt-ltb}
use Rattle.tw_machine.specs.declared.language.Span.{Span}
use Rattle.tw_machine.specs.declared.language.Leaf.{Leaf}
use Rattle.tw_machine.specs.declared.language.Leaf.TheVariants.{Number, Register, Queue, Port, Value, Elapsed, Left, Now, Turn, Random}
use Rattle.tw_machine.specs.declared.language.Unary.{Unary}
use Rattle.tw_machine.specs.declared.language.Unary.TheVariants.{Group, Negative, Not, RandomBelow, Cell, Table, QueueAmong, At, Place}
use Rattle.tw_machine.specs.declared.language.Binary.{Binary}
use Rattle.tw_machine.specs.declared.language.Binary.TheVariants.{Plus, Minus, Times, Over, Rest, Least, Greatest, Equal, Unequal, Less, AtMost, Greater, AtLeast, Both, Either, AtAmong, PlaceAmong}
use Rattle.tw_machine.specs.declared.language.Expr.{Expr}
use Rattle.tw_machine.specs.declared.language.Expr.TheVariants.{Plain, One', Two', Choose'}
use Rattle.tw_machine.specs.declared.language.Target.{Target}
use Rattle.tw_machine.specs.declared.language.Target.TheVariants.{Single, Indexed}
use Rattle.tw_machine.specs.declared.memory.Input.{Input}
use Rattle.tw_machine.specs.Memory.{MemoryValue, cell, with_cell}
use Rattle.tw_machine.specs.Values.{is_set, brought, leaf_value, computed, applied, value_of, target_of}
use Rattle.tw_machine.specs.Undoing.{end_of, meet, span_at, leaf_reads, unary_reads, reads, rereads}

-- a place of a span
pub record IsIn (s : Span) (k : ℕ) : Type 0 where
  pub from : s.first ≤ k
  pub below : k < end_of s

pub brought-in : (s : Span) (index : ℤ) → IsIn s (brought s index)
brought-in s index = record { from = omega arith; below = omega arith }

pub one-in : (r : ℕ) → IsIn (span_at r) r
one-in r = record { from = omega arith; below = omega arith }

pub neither : (a b : Bool) → (a || b) ≡ false → (a ≡ false) × (b ≡ false)
neither true b e = cc
neither false b e = (refl, e)

both : (a b : Bool) → a ≡ true → b ≡ true → (a && b) ≡ true
both true true e f = refl
both false b e f = cc
both true false e f = cc

apart : (s t : Span) (j : ℕ) → meet s t ≡ false → IsIn s j → IsIn t j → true ≡ false
apart s t j none_read in_s in_t =
    let one : nat_lt s.first (end_of t) ≡ true = lt-ltb s.first (end_of t) (omega (arith, in_s.from, in_t.below)) in
    let two : nat_lt t.first (end_of s) ≡ true = lt-ltb t.first (end_of s) (omega (arith, in_t.from, in_s.below)) in
    sym (both (nat_lt s.first (end_of t)) (nat_lt t.first (end_of s)) one two) ∙ none_read

elsewhere : (vs : List ℤ) (k j : ℕ) (v : ℤ) → (k ≡ j → true ≡ false) → slice_index_or (slice_set vs k v) j (pos 0) ≡ slice_index_or vs j (pos 0)
elsewhere [] k j v none_read = refl
elsewhere (w ∷ vs) zero zero v none_read = let e : true ≡ false = none_read refl in cc
elsewhere (w ∷ vs) zero (suc j) v none_read = refl
elsewhere (w ∷ vs) (suc k) zero v none_read = refl
elsewhere (w ∷ vs) (suc k) (suc j) v none_read = elsewhere vs k j v (λ e. none_read (ap suc e))

-- a cell of a span that does not meet the other, whose cell is set
cell-same : (s t : Span) (k j : ℕ) (v : ℤ) (m : MemoryValue) → meet s t ≡ false → IsIn s k → IsIn t j → cell (with_cell m k v) j ≡ cell m j
cell-same s t k j v m none_read in_s in_t = elsewhere m.cells k j v (λ e. apart s t j none_read (subst (IsIn s) e in_s) in_t)

leaf-same : (s : Span) (k : ℕ) (v : ℤ) (leaf : Leaf) (i : Input) (m : MemoryValue) → leaf_reads s leaf ≡ false → IsIn s k → leaf_value leaf i (with_cell m k v) ≡ leaf_value leaf i m
leaf-same s k v (Number n) i m none_read in_s = refl
leaf-same s k v (Register r) i m none_read in_s = cell-same s (span_at r) k r v m none_read in_s (one-in r)
leaf-same s k v (Queue measure q) i m none_read in_s = refl
leaf-same s k v Port i m none_read in_s = refl
leaf-same s k v Value i m none_read in_s = refl
leaf-same s k v Elapsed i m none_read in_s = refl
leaf-same s k v Left i m none_read in_s = refl
leaf-same s k v Now i m none_read in_s = refl
leaf-same s k v Turn i m none_read in_s = refl
leaf-same s k v Random i m none_read in_s = refl

computed-same : (s : Span) (k : ℕ) (v : ℤ) (unary : Unary) (a : ℤ) (numbers : List ℤ) (m : MemoryValue) → unary_reads s unary ≡ false → IsIn s k → computed unary a numbers (with_cell m k v) ≡ computed unary a numbers m
computed-same s k v Group a numbers m none_read in_s = refl
computed-same s k v Negative a numbers m none_read in_s = refl
computed-same s k v Not a numbers m none_read in_s = refl
computed-same s k v RandomBelow a numbers m none_read in_s = refl
computed-same s k v (Cell t) a numbers m none_read in_s = cell-same s t k (brought t a) v m none_read in_s (brought-in t a)
computed-same s k v (Table t) a numbers m none_read in_s = refl
computed-same s k v (QueueAmong measure t) a numbers m none_read in_s = refl
computed-same s k v (At q) a numbers m none_read in_s = refl
computed-same s k v (Place q) a numbers m none_read in_s = refl

applied-same : (k : ℕ) (v : ℤ) (binary : Binary) (a b : ℤ) (m : MemoryValue) → applied binary a b (with_cell m k v) ≡ applied binary a b m
applied-same k v Plus a b m = refl
applied-same k v Minus a b m = refl
applied-same k v Times a b m = refl
applied-same k v Over a b m = refl
applied-same k v Rest a b m = refl
applied-same k v Least a b m = refl
applied-same k v Greatest a b m = refl
applied-same k v Equal a b m = refl
applied-same k v Unequal a b m = refl
applied-same k v Less a b m = refl
applied-same k v AtMost a b m = refl
applied-same k v Greater a b m = refl
applied-same k v AtLeast a b m = refl
applied-same k v Both a b m = refl
applied-same k v Either a b m = refl
applied-same k v (AtAmong t) a b m = refl
applied-same k v (PlaceAmong t) a b m = refl

-- an expression that reads no cell of a span has its value, whatever is written there
pub value-same : (s : Span) (k : ℕ) (v : ℤ) (e : Expr) (numbers : List ℤ) (i : Input) (m : MemoryValue) → reads s e ≡ false → IsIn s k → value_of e numbers i (with_cell m k v) ≡ value_of e numbers i m
value-same s k v (Plain leaf) numbers i m none_read in_s = leaf-same s k v leaf i m none_read in_s
value-same s k v (One' unary p e) numbers i m none_read in_s =
    let none = neither (unary_reads s unary) (reads s e) none_read in
    ap (λ a. computed unary a numbers (with_cell m k v)) (value-same s k v e numbers i m none.1 in_s) ∙ computed-same s k v unary (value_of e numbers i m) numbers m none.0 in_s
value-same s k v (Two' binary p a q b) numbers i m none_read in_s =
    let none = neither (reads s a) (reads s b) none_read in
    ap₂ (λ x y. applied binary x y (with_cell m k v)) (value-same s k v a numbers i m none.0 in_s) (value-same s k v b numbers i m none.1 in_s)
    ∙ applied-same k v binary (value_of a numbers i m) (value_of b numbers i m) m
value-same s k v (Choose' p c q a r b) numbers i m none_read in_s =
    let none = neither (reads s c) (reads s a || reads s b) none_read in
    let rest = neither (reads s a) (reads s b) none.1 in
    ap (λ x. if is_set x then value_of a numbers i (with_cell m k v) else value_of b numbers i (with_cell m k v)) (value-same s k v c numbers i m none.0 in_s)
    ∙ ap₂ (λ x y. if is_set (value_of c numbers i m) then x else y) (value-same s k v a numbers i m rest.0 in_s) (value-same s k v b numbers i m rest.1 in_s)

-- a change that does not reread finds its register again, and its number
pub target-same : (t : Target) (v : ℤ) (e : Expr) (numbers : List ℤ) (i : Input) (m : MemoryValue) → rereads t e ≡ false → target_of t numbers i (with_cell m (target_of t numbers i m) v) ≡ target_of t numbers i m
target-same (Single r) v e numbers i m none_read = refl
target-same (Indexed s at) v e numbers i m none_read =
    ap (brought s) (value-same s (brought s (value_of at numbers i m)) v at numbers i m (neither (reads s at) (reads s e) none_read).0 (brought-in s (value_of at numbers i m)))

pub by-same : (t : Target) (v : ℤ) (e : Expr) (numbers : List ℤ) (i : Input) (m : MemoryValue) → rereads t e ≡ false → value_of e numbers i (with_cell m (target_of t numbers i m) v) ≡ value_of e numbers i m
by-same (Single r) v e numbers i m none_read = value-same (span_at r) r v e numbers i m none_read (one-in r)
by-same (Indexed s at) v e numbers i m none_read =
    value-same s (brought s (value_of at numbers i m)) v e numbers i m (neither (reads s at) (reads s e) none_read).1 (brought-in s (value_of at numbers i m))
