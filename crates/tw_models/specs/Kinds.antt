-- The kinds of built-in models: what a file calls them.
--     kind_name m      the name of a model's kind
--     kind_names      all of them
use Rattle.std.specs.Prelude.{ℕ, Bool, false, ◌||◌, List, [], ◌∷◌, codes}
use Rattle.std.specs.Str.{bytes_eq}
use Rattle.tw_models.specs.declared.model.Model.{Model}
use Rattle.tw_models.specs.declared.model.Model.TheVariants.{Gen, Tally, Relay, Queue, Hop}

abbrev pub gen_name : List ℕ
gen_name = codes "gen"

abbrev pub tally_name : List ℕ
tally_name = codes "tally"

abbrev pub relay_name : List ℕ
relay_name = codes "relay"

abbrev pub queue_name : List ℕ
queue_name = codes "queue"

abbrev pub hop_name : List ℕ
hop_name = codes "hop"

abbrev pub kind_name : Model → List ℕ
kind_name (Gen g) = gen_name
kind_name Tally = tally_name
kind_name (Relay r) = relay_name
kind_name (Queue q) = queue_name
kind_name (Hop h) = hop_name

-- the names of all kinds
abbrev pub kind_names : List (List ℕ)
kind_names = gen_name ∷ tally_name ∷ relay_name ∷ queue_name ∷ hop_name ∷ []

abbrev pub is_among : List (List ℕ) → List ℕ → Bool
is_among [] text = false
is_among (name ∷ names) text = bytes_eq name text || is_among names text

-- whether a text is the name of a kind
abbrev pub is_kind_name : List ℕ → Bool
is_kind_name text = is_among kind_names text
