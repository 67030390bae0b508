-- The functions of the texts by their numbers.
use Rattle.std.specs.Prelude.{ℕ, [], ◌∷◌, slice_index_or}
use Rattle.tw_machine.specs.declared.language.Measure.TheVariants.{Length, Room, Front, Last, Sum}
use Rattle.tw_machine_declaration.specs.declared.functions.Function.{Function}
use Rattle.tw_machine_declaration.specs.declared.functions.Function.TheVariants.{Measured, Applied}
use Rattle.tw_machine_declaration.specs.declared.functions.Joining.TheVariants as j

abbrev pub function_of : ℕ → Function
function_of n =
    slice_index_or (Applied j.Least ∷ Applied j.Greatest ∷ Applied j.Choose ∷ Measured Length ∷ Measured Room ∷ Measured Front ∷ Measured Last ∷ Measured Sum ∷ Applied j.At ∷ Applied j.Place ∷ []) n (Applied j.Least)
