-- Whether there is a third table.
use Rattle.std.proofs.Common.{◌≡◌, ◌≢◌, ◌++◌, ◌∷◌, [], ℕ, List, codes, length, refl, arith}
use Rattle.tw_stats.specs.Grids.{grid_text}
use Rattle.tw_stats.specs.Texts.{observations_head, observations_text}

pub no_third : (lines : List (List (List ℕ))) → length (observations_head ∷ lines) ≡ 1 → observations_text lines ≡ []
no_third [] l = refl
no_third (x ∷ xs) l = absurd (omega (arith, l))

pub some_third : (lines : List (List (List ℕ))) → length (observations_head ∷ lines) ≢ 1 → observations_text lines ≡ codes "\n" ++ grid_text 2 (observations_head ∷ lines)
some_third [] l = absurd (l refl)
some_third (x ∷ xs) l = refl
