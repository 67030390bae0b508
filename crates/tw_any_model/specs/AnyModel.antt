-- The five models and machines together: each acts on states of its own kind. A state of another kind is passive and silent, and no transition changes it.
--     any_meaning m      the plain functions of a model
--     IsAny m s      the numbers of a state of the model's own kind fit
--     any_residue, any_undone      what a turn keeps, and the state before it
--     any_longest m      the longest wait that a model tells
use Rattle.std.specs.Prelude.{ℕ, Option, Some, None}
use Rattle.tw_atomic.specs.Atomic.{Bag, Meaning}
use Rattle.tw_atomic.specs.declared.Turn.{Turn}
use Rattle.tw_any_model.specs.declared.any_model.AnyModel.{AnyModel}
use Rattle.tw_any_model.specs.declared.any_model.AnyModel.TheVariants.{BuiltIn, Machine}
use Rattle.tw_any_model.specs.declared.any_model.AnyResidue.{AnyResidue}
use Rattle.tw_any_model.specs.declared.any_model.AnyResidue.TheVariants.{Nothing, BuiltInParts, MachineParts}
use Rattle.tw_any_model.specs.declared.any_model.AnyState.{AnyState}
use Rattle.tw_any_model.specs.declared.any_model.AnyState.TheVariants.{OfBuiltIn, OfMachine}
use Rattle.tw_machine.specs.Machine.{IsMachine, kept_left, kept_log, machine_longest, machine_meaning, machine_undone}
use Rattle.tw_machine.specs.declared.memory.State as machine
use Rattle.tw_models.specs.Model.{IfPart, IsModel, model_longest, model_meaning, model_residue, model_undone, within}
use Rattle.tw_models.specs.declared.model.State as model

abbrev pub built_in_part : AnyState → Option model.State
built_in_part (OfBuiltIn s) = Some s
built_in_part (OfMachine s) = None

abbrev pub machine_part : AnyState → Option machine.State
machine_part (OfBuiltIn s) = None
machine_part (OfMachine s) = Some s

abbrev pub any_meaning : AnyModel → Meaning AnyState
any_meaning (BuiltIn m) = within OfBuiltIn built_in_part (model_meaning m)
any_meaning (Machine m) = within OfMachine machine_part (machine_meaning m.program)

abbrev pub IsAny : AnyModel → AnyState → Type 0
IsAny (BuiltIn m) s = IfPart (IsModel m) (built_in_part s)
IsAny (Machine m) s = IfPart (IsMachine m.program) (machine_part s)

-- what a turn keeps of the state before it
abbrev pub any_residue : AnyModel → Turn → AnyState → ℕ → Bag → AnyResidue
any_residue (BuiltIn m) turn (OfBuiltIn s) elapsed bag = BuiltInParts (model_residue m turn s bag)
any_residue (Machine m) turn (OfMachine s) elapsed bag = MachineParts (record { left = kept_left m.program turn s; log = kept_log m.program turn s elapsed bag })
any_residue _ turn s elapsed bag = Nothing

-- the state before a turn; a residue of another kind, which no turn leaves, changes nothing
abbrev pub any_undone : AnyModel → Turn → AnyState → ℕ → Bag → AnyResidue → AnyState
any_undone (BuiltIn m) turn (OfBuiltIn s) elapsed bag (BuiltInParts parts) = OfBuiltIn (model_undone m turn s elapsed bag parts)
any_undone (Machine m) turn (OfMachine s) elapsed bag (MachineParts parts) = OfMachine (machine_undone m.program parts.left parts.log turn s elapsed bag)
any_undone _ turn s elapsed bag residue = s

abbrev pub any_longest : AnyModel → Option ℕ
any_longest (BuiltIn m) = model_longest m
any_longest (Machine m) = machine_longest m.program
