-- Texts read as assignments, one after another.
use Rattle.std.proofs.Common.{◌≡◌, ◌∙◌, ◌<◌, ◌++◌, ℕ, zero, suc, List, [], ◌∷◌, Bor, length, map, take, arith, refl, sym, ap₂}
use Rattle.std.specs.List.{slice_index_or}
use Rattle.tw_file_settings.specs.Texts.{AreRead, IsAssignment, targets_of}
use Rattle.tw_file_settings.specs.declared.assignment.Assignment.{Assignment}

-- texts have one list of targets
pub same_targets : (texts : List (List ℕ)) (given other : List Assignment) → AreRead texts given → AreRead texts other → targets_of given ≡ targets_of other
same_targets [] [] [] are too = refl
same_targets [] [] (b ∷ other) are too = absurd too
same_targets [] (a ∷ given) other are too = absurd are
same_targets (t ∷ texts) [] other are too = absurd are
same_targets (t ∷ texts) (a ∷ given) [] are too = absurd too
same_targets (t ∷ texts) (a ∷ given) (b ∷ other) are too = ap₂ (λ x xs. x ∷ xs) (are.0.1 ∙ sym too.0.1) (same_targets texts given other are.1 too.1)

-- ---- of texts that are borrowed

-- the text of a place is read behind those before it
pub read_next : (bs : List (Bor (List ℕ))) (given : List Assignment) (a : Assignment) (i k : ℕ) (d : Bor (List ℕ)) → k ≡ suc i → i < length bs
    → AreRead (map (λ t. t.now) (take i bs)) given → IsAssignment (slice_index_or bs i d).now a → AreRead (map (λ t. t.now) (take k bs)) (given ++ a ∷ [])
read_next [] given a i k d next within are is = absurd (omega arith)
read_next (b ∷ bs) [] a zero k d next within are is = rw next (is, tt)
read_next (b ∷ bs) (g ∷ given) a zero k d next within are is = absurd are
read_next (b ∷ bs) [] a (suc i) k d next within are is = absurd are
read_next (b ∷ bs) (g ∷ given) a (suc i) k d next within are is = rw next (are.0, read_next bs given a i (suc i) d refl (omega arith) are.1 is)

pub none_read : (bs : List (Bor (List ℕ))) (i : ℕ) (d : Bor (List ℕ)) → i < length bs → ((a : Assignment) → ¬ (IsAssignment (slice_index_or bs i d).now a))
    → (given : List Assignment) → ¬ (AreRead (map (λ t. t.now) bs) given)
none_read [] i d within none given are = absurd (omega arith)
none_read (b ∷ bs) i d within none [] are = are
none_read (b ∷ bs) zero d within none (g ∷ given) are = none g are.0
none_read (b ∷ bs) (suc i) d within none (g ∷ given) are = none_read bs i d (omega arith) none given are.1
