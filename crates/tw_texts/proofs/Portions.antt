-- A writer and the lines that are gathered for it: together they have the lines of the items so far.
use Rattle.std.proofs.Common.{◌≡◌, ◌∙◌, ◌++◌, ◌+◌, ◌<◌, ◌≤◌, ◌∷◌, [], ℕ, List, refl, sym, ap, subst, append_assoc, take, drop, get_or, length, append-nil}
use Rattle.std.specs.Prelude.{Option, Some, None, Result, Ok, Err, OnOk, flat_map}
use Rattle.std.specs.Io.KnownBytes.{Appends}
use Rattle.std.proofs.lemmas.List.{take_more, take_all, take-append-drop}
use Rattle.std.proofs.lemmas.Grind.{flat_map-append}
use Rattle.tw_texts.specs.Traces.{AppendsBeginning, MovesBytes}

-- nothing is written
pub appends_nothing : (a : Option (List ℕ)) → Appends a a []
appends_nothing None = tt
appends_nothing (Some x) = sym (append-nil x)

-- it is a beginning of any text
pub nothing_yet : (a : Option (List ℕ)) (all : List ℕ) → AppendsBeginning a a all
nothing_yet a all = ([], all, appends_nothing a, refl)

pub appends_both : (a b c : Option (List ℕ)) (bs cs : List ℕ) → Appends a b bs → Appends b c cs → Appends a c (bs ++ cs)
appends_both None b c bs cs p q = tt
appends_both (Some x) None c bs cs p q = absurd p
appends_both (Some x) (Some y) None bs cs p q = absurd q
appends_both (Some x) (Some y) (Some z) bs cs p q = q ∙ ap (λ l. l ++ cs) p ∙ append_assoc x bs cs

-- the lines of one more item
pub one_more : {X : Type 0} (line : X → List ℕ) (xs : List X) (i : ℕ) (x : X) → i < length xs → x ≡ get_or xs i x
    → flat_map line (take (i + 1) xs) ≡ flat_map line (take i xs) ++ line x
one_more line xs i x h is =
    ap (flat_map line) (take_more xs i x h) ∙ flat_map-append line (take i xs) (get_or xs i x ∷ [])
    ∙ ap (λ l. flat_map line (take i xs) ++ l) (append-nil (line (get_or xs i x)) ∙ ap line (sym is))

-- a line joins those that are gathered, and what is gathered goes out, in part or whole
pub moved_more : {X : Type 0} (line : X → List ℕ) (a b c : Option (List ℕ)) (xs : List X) (i : ℕ) (x : X) (kept grown left : List ℕ)
    → i < length xs → x ≡ get_or xs i x → grown ≡ kept ++ line x
    → MovesBytes a b (flat_map line (take i xs)) kept → MovesBytes b c grown left → MovesBytes a c (flat_map line (take (i + 1) xs)) left
moved_more line a b c xs i x kept grown left h is grown_is p q = (
  p.0 ++ q.0,
  appends_both a b c p.0 q.0 p.1 q.1,
  append_assoc p.0 q.0 left ∙ ap (λ l. p.0 ++ l) (q.2 ∙ grown_is) ∙ sym (append_assoc p.0 kept (line x)) ∙ ap (λ l. l ++ line x) p.2
      ∙ sym (one_more line xs i x h is),
)

-- what went out is a beginning of all lines
pub moved_is_beginning : {X : Type 0} (line : X → List ℕ) (a b : Option (List ℕ)) (xs : List X) (i : ℕ) (kept : List ℕ)
    → MovesBytes a b (flat_map line (take i xs)) kept → AppendsBeginning a b (flat_map line xs)
moved_is_beginning line a b xs i kept p = (
  p.0,
  kept ++ flat_map line (drop i xs),
  p.1,
  sym (append_assoc p.0 kept (flat_map line (drop i xs))) ∙ ap (λ l. l ++ flat_map line (drop i xs)) p.2
      ∙ sym (flat_map-append line (take i xs) (drop i xs)) ∙ ap (flat_map line) (take-append-drop i xs),
)

-- where what is left goes out, all lines have gone out
pub all_out : {X A E : Type 0} (done : Result A E) (line : X → List ℕ) (a b c : Option (List ℕ)) (xs : List X) (i : ℕ) (kept : List ℕ)
    → length xs ≤ i → MovesBytes a b (flat_map line (take i xs)) kept → OnOk done (Appends b c kept) → OnOk done (Appends a c (flat_map line xs))
all_out (Err e) line a b c xs i kept past p q = tt
all_out (Ok v) line a b c xs i kept past p q =
    subst (λ l. Appends a c l) (p.2 ∙ ap (flat_map line) (take_all i xs past)) (appends_both a b c p.0 kept p.1 q)
