-- Orders by one number and then by another: as a test, as an `Ordering`, and in words.
use Rattle.std.proofs.Common.{◌≡◌, ℕ, ℤ, ◌<◌, ◌⊎◌, ◌↔◌, Bool, true, false, ◌&&◌, ◌||◌, ◌==◌, nat_lt, nat_le, int_le, int_lt, refl, sym, ap, ◌∙◌, arith, cond, inl, inr, ⊎_elim}
use Rattle.std.specs.Prelude.{◌<ℤ◌}
use Rattle.std.specs.Cmp.{int_ranks, nat_cmp_is, int_cmp_is}
use Rattle.std.specs.Ordering.{is_le, is_eq, nat_cmp, int_cmp, int_eq, ordering_then, MatchOrdering}
use Rattle.std.specs.declared.cmp.Ordering.{Ordering}
use Rattle.std.specs.declared.cmp.Ordering.TheVariants.{Less, Equal, Greater}
use Rattle.std.proofs.lemmas.Bool.{true_from_ne_false, false_from_ne_true}
use Rattle.std.proofs.lemmas.Bool.Decides.{nat_tests}
use Rattle.std.proofs.lemmas.Cmp.{ranked, int_ranked}
use Rattle.std.proofs.lemmas.Int.{ints}

-- ---- tests

pub nat_le-is : (a b : ℕ) → nat_le a b ≡ is_le (nat_cmp a b)
nat_le-is a b = grind (arith, nat_tests)

pub int_le-is : (a b : ℤ) → int_le a b ≡ is_le (int_cmp a b)
int_le-is a b = go (int_cmp a b) (int_ranks a b)
  where
    go : (r : Ordering) → MatchOrdering r (a <ℤ b) (a ≡ b) (b <ℤ a) → int_le a b ≡ is_le r
    go Less h = true_from_ne_false (int_le a b) (λ e. omega (arith, ints))
    go Equal h = true_from_ne_false (int_le a b) (λ e. omega (arith, ints))
    go Greater h = false_from_ne_true (int_le a b) (λ e. omega (arith, ints))

-- by the first two numbers, and where they are equal by a test r of the rest that an ordering s gives
pub lex_le : (a b : ℕ) (r : Bool) (s : Ordering) → r ≡ is_le s → (nat_lt a b || (a == b) && r) ≡ is_le (ordering_then (nat_cmp a b) s)
lex_le a b r s h = go (nat_lt a b) (a == b)
  where
    go : (l e : Bool) → (l || e && r) ≡ is_le (ordering_then (cond l Less (cond e Equal Greater)) s)
    go true e = refl
    go false true = h
    go false false = refl

pub lex_int_le : (a b : ℤ) (r : Bool) (s : Ordering) → r ≡ is_le s → (int_lt a b || int_eq a b && r) ≡ is_le (ordering_then (int_cmp a b) s)
lex_int_le a b r s h = go (int_lt a b) (int_lt b a)
  where
    go : (l g : Bool) → (l || is_eq (cond l Less (cond g Greater Equal)) && r) ≡ is_le (ordering_then (cond l Less (cond g Greater Equal)) s)
    go true g = refl
    go false true = refl
    go false false = h

-- ---- what ties

pub nat_cmp-exact : (a b : ℕ) → nat_cmp a b ≡ Equal → a ≡ b
nat_cmp-exact a b e = ranked a b Equal (sym e)

pub int_cmp-exact : (a b : ℤ) → int_cmp a b ≡ Equal → a ≡ b
int_cmp-exact a b e = int_ranked a b Equal (sym e)

pub then_parts : (r s : Ordering) → ordering_then r s ≡ Equal → (r ≡ Equal) × (s ≡ Equal)
then_parts Less s e = absurd cc
then_parts Equal s e = (refl, e)
then_parts Greater s e = absurd cc

pub lex_exact : (a b : ℕ) (s : Ordering) → ordering_then (nat_cmp a b) s ≡ Equal → (a ≡ b) × (s ≡ Equal)
lex_exact a b s e = let p = then_parts (nat_cmp a b) s e in (nat_cmp-exact a b p.0, p.1)

pub lex_int_exact : (a b : ℤ) (s : Ordering) → ordering_then (int_cmp a b) s ≡ Equal → (a ≡ b) × (s ≡ Equal)
lex_int_exact a b s e = let p = then_parts (int_cmp a b) s e in (int_cmp-exact a b p.0, p.1)

-- ---- what comes before

pub less_is : (a b : ℕ) → (nat_cmp a b ≡ Less) ↔ (a < b)
less_is a b = (λ e. ranked a b Less (sym e), λ l. sym (nat_cmp_is a b Less l))

pub lex_less : {P : Type 0} (a b : ℕ) (s : Ordering) → (s ≡ Less) ↔ P → (ordering_then (nat_cmp a b) s ≡ Less) ↔ ((a < b) ⊎ ((a ≡ b) × P))
lex_less {P} a b s h = (λ e. forth (nat_cmp a b) refl e, λ w. ⊎_elim (λ l. ap (λ r. ordering_then r s) (sym (nat_cmp_is a b Less l))) (λ p. ap (λ r. ordering_then r s) (sym (nat_cmp_is a b Equal p.0)) ∙ h.1 p.1) w)
  where
    forth : (r : Ordering) → r ≡ nat_cmp a b → ordering_then r s ≡ Less → (a < b) ⊎ ((a ≡ b) × P)
    forth Less q e = inl (ranked a b Less q)
    forth Equal q e = inr (ranked a b Equal q, h.0 e)
    forth Greater q e = absurd cc

pub lex_int_less : {P : Type 0} (a b : ℤ) (s : Ordering) → (s ≡ Less) ↔ P → (ordering_then (int_cmp a b) s ≡ Less) ↔ ((a <ℤ b) ⊎ ((a ≡ b) × P))
lex_int_less {P} a b s h = (λ e. forth (int_cmp a b) refl e, λ w. ⊎_elim (λ l. ap (λ r. ordering_then r s) (sym (int_cmp_is a b Less l))) (λ p. ap (λ r. ordering_then r s) (sym (int_cmp_is a b Equal p.0)) ∙ h.1 p.1) w)
  where
    forth : (r : Ordering) → r ≡ int_cmp a b → ordering_then r s ≡ Less → (a <ℤ b) ⊎ ((a ≡ b) × P)
    forth Less q e = inl (int_ranked a b Less q)
    forth Equal q e = inr (int_ranked a b Equal q, h.0 e)
    forth Greater q e = absurd cc
