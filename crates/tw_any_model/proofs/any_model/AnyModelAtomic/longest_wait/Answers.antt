-- A model waits among others as it does alone.
use Rattle.std.specs.Prelude.{refl}
use Rattle.tw_any_model.specs.AnyModel.{built_in_part, machine_part}
use Rattle.tw_any_model.specs.declared.any_model.AnyState.TheVariants.{OfBuiltIn, OfMachine}
use Rattle.tw_machine.specs.Machine.{machine_meaning}
use Rattle.tw_models.specs.Model.{model_meaning}
use Rattle.tw_models.specs.Waits.{within_waits}
use Rattle.tw_any_model.proofs.any_model.AnyModelAtomic.longest_wait.Goals as goal

pub returns-in-BuiltIn-clause-waits : goal.returns-in-BuiltIn-clause-waits
returns-in-BuiltIn-clause-waits c = rw c.in-BuiltIn.is (within_waits OfBuiltIn built_in_part (model_meaning c.in-BuiltIn.model) c.longest_wait.result (λ s. refl) c.longest_wait.ensures.waits)

pub returns-in-Machine-clause-waits : goal.returns-in-Machine-clause-waits
returns-in-Machine-clause-waits c = rw c.in-Machine.is (within_waits OfMachine machine_part (machine_meaning c.in-Machine.machine.program) c.longest_wait-in-Machine.result (λ s. refl) c.longest_wait-in-Machine.ensures.waits)
