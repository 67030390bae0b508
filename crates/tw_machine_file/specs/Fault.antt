-- What is wrong with a machine, but for the place in a text; and what is done only where nothing is wrong.
use Rattle.std.specs.Prelude.{◌∷◌, Bool, List, Option, Result, Ok, Err, if◌then◌else◌}
use Rattle.std.specs.Option.{ok_or}
use Rattle.tw_machine_compiler.specs.declared.limits.BadMachine.{BadMachine}
use Rattle.tw_machine_file.specs.declared.fault.Part.{Part}
use Rattle.tw_machine_file.specs.declared.fault.Why.{Why}
use Rattle.tw_machine_file.specs.declared.fault.MachineFault.{MachineFault}
use Rattle.tw_machine_file.specs.declared.fault.MachineFault.TheVariants as m

pub data Fault : Type 0 where
  no_memory : Fault
  wrong : (part : Part) (why : Why) → Fault
  text : (part : Part) → Fault
  limit : (bad : BadMachine) → Fault

abbrev pub fault : MachineFault → Fault
fault m.OutOfMemory = no_memory
fault (m.Wrong part why) = wrong part why
fault (m.Text part place) = text part
fault (m.Limit bad) = limit bad

-- once there is something, if nothing is wrong with it, this comes
abbrev pub once : {A B : Type 0} → Result A Fault → (A → Result B Fault) → Result B Fault
once (Ok x) f = f x
once (Err e) f = Err e

-- what is made of something, if nothing is wrong with it
abbrev pub made : {A B : Type 0} → (A → B) → Result A Fault → Result B Fault
made f (Ok x) = Ok (f x)
made f (Err e) = Err e

-- one thing in front of the rest, if nothing is wrong with either
abbrev pub with_rest : {A : Type 0} → Result A Fault → Result (List A) Fault → Result (List A) Fault
with_rest first rest = once first (λ x. made (λ xs. x ∷ xs) rest)

-- what there is, or how this part is wrong
abbrev pub expected : {A : Type 0} → Part → Why → Option A → Result A Fault
expected part why o = ok_or o (wrong part why)

-- a value that must be so
abbrev pub provided : {A : Type 0} → Bool → Fault → A → Result A Fault
provided test e x = if test then Ok x else Err e
