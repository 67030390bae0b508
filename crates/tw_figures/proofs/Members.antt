-- The records of a component and those of its transitions.
use Rattle.std.proofs.Common.{◌≡◌, ◌∙◌, ℕ, ◌+◌, ◌<◌, ◌≤◌, List, [], ◌∷◌, ◌++◌, true, false, length, get_or, map, take, ap, sym, inl, inr, append-nil}
use Rattle.std.specs.Prelude.{◌⊎◌}
use Rattle.std.specs.List.{All}
use Rattle.std.proofs.lemmas.Bool.{cond-true, cond-false}
use Rattle.std.proofs.lemmas.List.{map-append, take_more}
use Rattle.std.proofs.lemmas.List.Elements.{All-append, All-cons, All-nil, filter-append}
use Rattle.tw_msgs.specs.declared.record.Record.{Record}
use Rattle.tw_msgs.specs.declared.record_kind.RecordKind.TheVariants.{Out, Int, Ext, Con}
use Rattle.tw_vtime.specs.Stamps.{tick_of}
use Rattle.tw_theory.proofs.Elements.{each-filter}
use Rattle.tw_figures.specs.Figures.{IsNext, is_transition, transitions}

-- a transition stands behind those before it, and an output among no transitions
pub transition_more : (records : List Record) (r : Record) → is_transition r ≡ true → transitions (records ++ r ∷ []) ≡ transitions records ++ r ∷ []
transition_more records r is = filter-append is_transition records (r ∷ []) ∙ ap (λ l. transitions records ++ l) (cond-true (is_transition r) (r ∷ []) [] is)

pub output_more : (records : List Record) (r : Record) → is_transition r ≡ false → transitions (records ++ r ∷ []) ≡ transitions records
output_more records r is = filter-append is_transition records (r ∷ []) ∙ ap (λ l. transitions records ++ l) (cond-false (is_transition r) (r ∷ []) [] is) ∙ append-nil (transitions records)

pub no_output : (r : Record) → r.kind ≡ Out → is_transition r ≡ false
no_output r is = ap (λ k. elim k [ Out ↦ false | Int ↦ true | Ext ↦ true | Con ↦ true ]) is

-- what is so of all records is so of the transitions
pub next_move : (records : List Record) (r : Record) → IsNext records r → IsNext (transitions records) r
next_move records r next = each-filter (λ x. tick_of x.stamp ≤ tick_of r.stamp) is_transition records next

-- ---- one element more

pub all_more : {X : Type 0} (P : X → Type 0) (xs : List X) (x : X) → All P xs → P x → All P (xs ++ x ∷ [])
all_more P xs x all one = All-append P xs (x ∷ []) all (All-cons P x [] one (All-nil P))

-- the elements of two lists show the same, and so does one more of each
pub shown_more : {X Y Z : Type 0} (f : X → Z) (g : Y → Z) (xs : List X) (ys : List Y) (i : ℕ) (x : X) (y : Y) → i < length ys → y ≡ get_or ys i y
    → f x ≡ g y → map f xs ≡ map g (take i ys) → map f (xs ++ x ∷ []) ≡ map g (take (i + 1) ys)
shown_more f g xs ys i x y l is same so_far =
    map-append f xs (x ∷ [])
    ∙ (λ k. so_far k ++ (same ∙ ap g is) k ∷ [])
    ∙ sym (map-append g (take i ys) (get_or ys i y ∷ []))
    ∙ ap (map g) (sym (take_more ys i y l))

pub some_transition : (r : Record) → (r.kind ≡ Int) ⊎ ((r.kind ≡ Ext) ⊎ (r.kind ≡ Con)) → is_transition r ≡ true
some_transition r (inl is) = ap (λ k. elim k [ Out ↦ false | Int ↦ true | Ext ↦ true | Con ↦ true ]) is
some_transition r (inr (inl is)) = ap (λ k. elim k [ Out ↦ false | Int ↦ true | Ext ↦ true | Con ↦ true ]) is
some_transition r (inr (inr is)) = ap (λ k. elim k [ Out ↦ false | Int ↦ true | Ext ↦ true | Con ↦ true ]) is
