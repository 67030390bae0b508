-- Values that a relay let go.
--     listed given      what they are, in place or on the heap
use Rattle.std.specs.Prelude.{ℤ, List, [], ◌∷◌}
use Rattle.tw_models.specs.declared.values.Given.{Given}
use Rattle.tw_models.specs.declared.values.Given.TheVariants.{Nothing, One, Two, More}

abbrev pub listed : Given → List ℤ
listed Nothing = []
listed (One one) = one ∷ []
listed (Two one two) = one ∷ two ∷ []
listed (More more) = more.items
