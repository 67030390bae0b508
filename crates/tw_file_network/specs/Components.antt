-- The models that a file's components mean: the parameters of each are in range, or the first that is not is the fault.
--     any_model_of draft      the model that a component is to be, or what is wrong with its parameters
--     components_made components      the components with their models, or the first fault
use Rattle.std.specs.Prelude.{ℕ, List, [], ◌∷◌, Bool, ◌&&◌, nat_le, if◌then◌else◌, Result, Ok, Err}
use Rattle.std.specs.Result.{result_map_both}
use Rattle.tw_any_model.specs.declared.any_model.AnyModel.{AnyModel}
use Rattle.tw_any_model.specs.declared.any_model.AnyModel.TheVariants as any
use Rattle.tw_models.specs.declared.bad_model.BadModel.{BadModel}
use Rattle.tw_models.specs.declared.bad_model.BadModel.TheVariants.{BadPort, BadTick}
use Rattle.tw_models.specs.declared.model.Model.{Model}
use Rattle.tw_models.specs.declared.model.Model.TheVariants as model
use Rattle.tw_file_network.specs.Shape.{FileComponent}
use Rattle.tw_file_network.specs.declared.draft.AnyDraft.{AnyDraft}
use Rattle.tw_file_network.specs.declared.draft.AnyDraft.TheVariants.{BuiltIn, Machine}
use Rattle.tw_file_network.specs.declared.draft.ModelDraft.{ModelDraft}
use Rattle.tw_file_network.specs.declared.refused.FileRefused.{FileRefused}
use Rattle.tw_file_network.specs.declared.refused.FileRefused.TheVariants.{Parameter}
use Rattle.tw_file_network.specs.declared.draft.ModelDraft.TheVariants.{Gen, Tally, Relay, Queue, Hop}

-- what follows on a result, if it is no fault
abbrev pub after : {A B E : Type 0} → (A → Result B E) → Result A E → Result B E
after next (Ok a) = next a
after next (Err fault) = Err fault

-- the model where the test of its parameter holds
abbrev pub made_if : Bool → BadModel → Model → Result Model BadModel
made_if in_range fault m = if in_range then Ok m else Err fault

-- the parameters of a model are in range: times up to 1,099,511,627,774 ticks, a period of at least 1, 1 to 16 ports and then 1 to 1,048,576 waiting times
abbrev pub model_of : ModelDraft → Result Model BadModel
model_of (Gen period value) = made_if (nat_le 1 period && nat_le period 1099511627774) BadTick (model.Gen (record { period = period; value = value }))
model_of Tally = Ok model.Tally
model_of (Relay delay) = made_if (nat_le delay 1099511627774) BadTick (model.Relay (record { delay = delay }))
model_of (Queue service) = made_if (nat_le service 1099511627774) BadTick (model.Queue (record { service = service }))
model_of (Hop seed ports spread) =
    if nat_le 1 ports && nat_le ports 16
    then made_if (nat_le 1 spread && nat_le spread 1048576) BadTick (model.Hop (record { seed = seed; ports = ports; spread = spread }))
    else Err BadPort

-- one of the five with its parameters in range, or a machine, whose program is made
abbrev pub any_model_of : AnyDraft → Result AnyModel FileRefused
any_model_of (BuiltIn draft) = result_map_both any.BuiltIn Parameter (model_of draft)
any_model_of (Machine program) = Ok (any.Machine (record { program = program }))

-- each of a list made alike, or the first fault
abbrev pub all_made : {A B E : Type 0} → (A → Result B E) → List A → Result (List B) E
all_made make [] = Ok []
all_made make (a ∷ more) = after (λ first. after (λ rest. Ok (first ∷ rest)) (all_made make more)) (make a)

abbrev pub component_made : FileComponent → Result (List ℕ × AnyModel) FileRefused
component_made c = after (λ m. Ok (c.0, m)) (any_model_of c.1)

abbrev pub components_made : List FileComponent → Result (List (List ℕ × AnyModel)) FileRefused
components_made components = all_made component_made components
