-- The laws of a model, of the five models and machines together: each one's own, at the states of its kind.
use Rattle.std.specs.Prelude.{◌≡◌, ℕ, ◌≤◌, length, refl}
use Rattle.std.proofs.Common.{ap, arith}
use Rattle.tw_atomic.specs.Atomic.{Bag, CanTurn, FitsOutput, turned}
use Rattle.tw_atomic.specs.declared.Turn.{Turn}
use Rattle.tw_atomic.specs.declared.Turn.TheVariants.{Int, Ext, Con}
use Rattle.tw_any_model.specs.AnyModel.{IsAny, any_meaning, any_residue, any_undone}
use Rattle.tw_any_model.specs.declared.any_model.AnyModel.{AnyModel}
use Rattle.tw_any_model.specs.declared.any_model.AnyModel.TheVariants.{BuiltIn, Machine}
use Rattle.tw_any_model.specs.declared.any_model.AnyState.{AnyState}
use Rattle.tw_any_model.specs.declared.any_model.AnyState.TheVariants.{OfBuiltIn, OfMachine}
use Rattle.tw_machine.specs.Machine.{IsMachine, machine_meaning}
use Rattle.tw_machine.specs.MachineLaws.{machine_output_fits, machine_reverses, machine_stays_valid}
use Rattle.tw_machine.specs.declared.machine.Machine as machine
use Rattle.tw_machine.specs.declared.memory.State as machine_state
use Rattle.tw_models.specs.Model.{IsModel, model_meaning}
use Rattle.tw_models.specs.ModelLaws.{model_output_fits, model_reverses, model_stays_valid}
use Rattle.tw_models.specs.declared.model.Model as model
use Rattle.tw_models.specs.declared.model.State as model_state

-- a turn at a state of its kind is a turn of the built-in model
built-in-can : (m : model.Model) (turn : Turn) (s : model_state.State) (elapsed : ℕ) (bag : Bag) → CanTurn (IsAny (BuiltIn m)) (any_meaning (BuiltIn m)) turn (OfBuiltIn s) elapsed bag
    → CanTurn (IsModel m) (model_meaning m) turn s elapsed bag
built-in-can m turn s elapsed bag can = record { valid = can.valid; due = can.due; sorted = can.sorted; elapsed_fits = can.elapsed_fits; bag_fits = can.bag_fits }

-- a turn at a state of its kind is a turn of the machine
machine-can : (m : machine.Machine) (turn : Turn) (s : machine_state.State) (elapsed : ℕ) (bag : Bag) → CanTurn (IsAny (Machine m)) (any_meaning (Machine m)) turn (OfMachine s) elapsed bag
    → CanTurn (IsMachine m.program) (machine_meaning m.program) turn s elapsed bag
machine-can m turn s elapsed bag can = record { valid = can.valid; due = can.due; sorted = can.sorted; elapsed_fits = can.elapsed_fits; bag_fits = can.bag_fits }

pub any_stays_valid : (m : AnyModel) (turn : Turn) (s : AnyState) (elapsed : ℕ) (bag : Bag) → CanTurn (IsAny m) (any_meaning m) turn s elapsed bag → IsAny m (turned (any_meaning m) turn s elapsed bag)
any_stays_valid (BuiltIn m) Int (OfBuiltIn s) elapsed bag can = model_stays_valid m Int s elapsed bag (built-in-can m Int s elapsed bag can)
any_stays_valid (BuiltIn m) Ext (OfBuiltIn s) elapsed bag can = model_stays_valid m Ext s elapsed bag (built-in-can m Ext s elapsed bag can)
any_stays_valid (BuiltIn m) Con (OfBuiltIn s) elapsed bag can = model_stays_valid m Con s elapsed bag (built-in-can m Con s elapsed bag can)
any_stays_valid (Machine m) Int (OfMachine s) elapsed bag can = machine_stays_valid m.program Int s elapsed bag (machine-can m Int s elapsed bag can)
any_stays_valid (Machine m) Ext (OfMachine s) elapsed bag can = machine_stays_valid m.program Ext s elapsed bag (machine-can m Ext s elapsed bag can)
any_stays_valid (Machine m) Con (OfMachine s) elapsed bag can = machine_stays_valid m.program Con s elapsed bag (machine-can m Con s elapsed bag can)
any_stays_valid (BuiltIn m) Int (OfMachine s) elapsed bag can = tt
any_stays_valid (BuiltIn m) Ext (OfMachine s) elapsed bag can = tt
any_stays_valid (BuiltIn m) Con (OfMachine s) elapsed bag can = tt
any_stays_valid (Machine m) Int (OfBuiltIn s) elapsed bag can = tt
any_stays_valid (Machine m) Ext (OfBuiltIn s) elapsed bag can = tt
any_stays_valid (Machine m) Con (OfBuiltIn s) elapsed bag can = tt

pub any_output_fits : (m : AnyModel) (s : AnyState) → IsAny m s → (length ((any_meaning m).out s) ≤ 64) × FitsOutput ((any_meaning m).out s)
any_output_fits (BuiltIn m) (OfBuiltIn s) valid = model_output_fits m s valid
any_output_fits (Machine m) (OfMachine s) valid = machine_output_fits m.program s valid
any_output_fits (BuiltIn m) (OfMachine s) valid = (omega arith, tt)
any_output_fits (Machine m) (OfBuiltIn s) valid = (omega arith, tt)

pub any_reverses : (m : AnyModel) (turn : Turn) (s : AnyState) (elapsed : ℕ) (bag : Bag) → CanTurn (IsAny m) (any_meaning m) turn s elapsed bag
    → any_undone m turn (turned (any_meaning m) turn s elapsed bag) elapsed bag (any_residue m turn s elapsed bag) ≡ s
any_reverses (BuiltIn m) Int (OfBuiltIn s) elapsed bag can = ap OfBuiltIn (model_reverses m Int s elapsed bag (built-in-can m Int s elapsed bag can))
any_reverses (BuiltIn m) Ext (OfBuiltIn s) elapsed bag can = ap OfBuiltIn (model_reverses m Ext s elapsed bag (built-in-can m Ext s elapsed bag can))
any_reverses (BuiltIn m) Con (OfBuiltIn s) elapsed bag can = ap OfBuiltIn (model_reverses m Con s elapsed bag (built-in-can m Con s elapsed bag can))
any_reverses (Machine m) Int (OfMachine s) elapsed bag can = ap OfMachine (machine_reverses m.program Int s elapsed bag (machine-can m Int s elapsed bag can))
any_reverses (Machine m) Ext (OfMachine s) elapsed bag can = ap OfMachine (machine_reverses m.program Ext s elapsed bag (machine-can m Ext s elapsed bag can))
any_reverses (Machine m) Con (OfMachine s) elapsed bag can = ap OfMachine (machine_reverses m.program Con s elapsed bag (machine-can m Con s elapsed bag can))
any_reverses (BuiltIn m) Int (OfMachine s) elapsed bag can = refl
any_reverses (BuiltIn m) Ext (OfMachine s) elapsed bag can = refl
any_reverses (BuiltIn m) Con (OfMachine s) elapsed bag can = refl
any_reverses (Machine m) Int (OfBuiltIn s) elapsed bag can = refl
any_reverses (Machine m) Ext (OfBuiltIn s) elapsed bag can = refl
any_reverses (Machine m) Con (OfBuiltIn s) elapsed bag can = refl
