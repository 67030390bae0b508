-- Lists that agree but at one place.
use Rattle.std.proofs.Common.{◌≡◌, ℕ, zero, suc, List, [], ◌∷◌, length, map, Some, refl, sym, ap, ◌∙◌, arith}
use Rattle.std.specs.Option.{option_map}
use Rattle.std.specs.Prelude.{slice_get, slice_set}
use Rattle.std.proofs.lemmas.List.{length-map, length-set}
use Rattle.std.proofs.lemmas.Option.{none-some, same_Some, slice_get-map}
use Rattle.tw_laws.proofs.Inverse.{set_there}
use Rattle.tw_exchange.specs.Queues.{IsSameBut}

pub map_same_but : {X Y : Type 0} (f : X → Y) (b : ℕ) (xs ys : List X) → IsSameBut b xs ys → IsSameBut b (map f ys) (map f xs)
map_same_but f b xs ys same = record {
  count = length-map xs f ∙ sym same.count ∙ sym (length-map ys f);
  others = λ d apart. slice_get-map f xs d ∙ ap (option_map f) (sym (same.others d apart)) ∙ sym (slice_get-map f ys d);
}

-- put right at that place, they are the same
pub set_same : {X : Type 0} (b : ℕ) (xs ys : List X) (x : X) → IsSameBut b xs ys → slice_get xs b ≡ Some x → slice_set ys b x ≡ xs
set_same b [] ys x same at = absurd (none-some x at)
set_same b (y ∷ xs) [] x same at = absurd (omega (arith, same.count))
set_same zero (y ∷ xs) (z ∷ ys) x same at =
    (λ i. same_Some x y (sym at) i ∷ all_same ys xs (omega (arith, same.count)) (λ d. same.others (suc d) (λ e. absurd (omega (arith, e)))) i)
  where
    all_same : {X : Type 0} (ys xs : List X) → length ys ≡ length xs → ((d : ℕ) → slice_get ys d ≡ slice_get xs d) → ys ≡ xs
    all_same [] [] count each = refl
    all_same [] (x ∷ xs) count each = absurd (omega (arith, count))
    all_same (y ∷ ys) [] count each = absurd (omega (arith, count))
    all_same (y ∷ ys) (x ∷ xs) count each = (λ i. same_Some y x (each 0) i ∷ all_same ys xs (omega (arith, count)) (λ d. each (suc d)) i)
set_same (suc b) (y ∷ xs) (z ∷ ys) x same at =
    (λ i. same_Some z y (same.others 0 (λ e. absurd (omega (arith, e)))) i
    ∷ set_same b xs ys x (record { count = omega (arith, same.count); others = λ d apart. same.others (suc d) (λ e. apart (omega (arith, e))) }) at i)

pub nothing_else : {X : Type 0} (b : ℕ) (xs : List X) → IsSameBut b xs xs
nothing_else b xs = record { count = refl; others = λ d apart. refl }

pub one_set : {X : Type 0} (b : ℕ) (xs : List X) (x : X) → IsSameBut b xs (slice_set xs b x)
one_set b xs x = record { count = length-set xs b x; others = λ d apart. set_there xs b d x apart }

pub then_same : {X : Type 0} (b : ℕ) (xs ys zs : List X) → IsSameBut b xs ys → IsSameBut b ys zs → IsSameBut b xs zs
then_same b xs ys zs first second = record {
  count = second.count ∙ first.count;
  others = λ d apart. second.others d apart ∙ first.others d apart;
}
