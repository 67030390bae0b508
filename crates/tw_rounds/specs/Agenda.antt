-- When the next own steps of the components are due.
--     dues moments      the times, by component
--     IsDueAt moments c s      the next own step of component c is at s
use Rattle.std.specs.Prelude.{◌≡◌, ℕ, List, map, slice_get, Some}
use Rattle.tw_theory.specs.Transitions.{Moment}

abbrev pub dues : {S : Type 0} → List (Moment S) → List ℕ
dues moments = map (λ now. now.due) moments

abbrev pub IsDueAt : {S : Type 0} → List (Moment S) → ℕ → ℕ → Type 0
IsDueAt {S} moments c s = (now : Moment S) × (slice_get moments c ≡ Some now) × (now.due ≡ s)
