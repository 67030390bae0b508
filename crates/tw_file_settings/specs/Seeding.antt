-- What seeds a component.
--     IsSeeding models d seeding      this seeds it, in a file that declares these machines
use Rattle.std.specs.Prelude.{◌≡◌, ◌≢◌, ◌⊎◌, None, Some, codes, List, ℕ, option_and_then}
use Rattle.serde_json.specs.Data.{Data, Items}
use Rattle.tw_file_settings.specs.Members.{text_at}
use Rattle.tw_file_settings.specs.Reseeded.{first_named, seeding_parameter}
use Rattle.tw_file_settings.specs.declared.reseeding.Seeding.{Seeding}
use Rattle.tw_file_settings.specs.declared.reseeding.Seeding.TheVariants.{Nothing, Hop, Parameter}

-- its model is the machine of a name that is not hop
abbrev pub IsMachineOf : Items → Data → (List ℕ → Type 0) → Type 0
IsMachineOf models d Is = (model : List ℕ) × (text_at (codes "model") d ≡ Some model) × (model ≢ codes "hop") × Is model

abbrev pub IsSeeding : Items → Data → Seeding → Type 0
IsSeeding models d Nothing =
    (text_at (codes "model") d ≡ None)
    ⊎ IsMachineOf models d (λ model. option_and_then seeding_parameter (first_named model models) ≡ None)
IsSeeding models d Hop = text_at (codes "model") d ≡ Some (codes "hop")
IsSeeding models d (Parameter name) = IsMachineOf models d (λ model. option_and_then seeding_parameter (first_named model models) ≡ Some name.now)
