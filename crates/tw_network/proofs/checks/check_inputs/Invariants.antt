use Rattle.std.proofs.Common.{◌≡◌, take, drop}
use Rattle.tw_network.specs.Faults.{first_of, input_fault, inputs_fault}
use Rattle.tw_network.proofs.checks.check_inputs.Given as goal

abbrev pub invariant-loop-input : goal.invariant-loop-input
invariant-loop-input l = inputs_fault l.count l.inputs ≡ first_of (λ before i. input_fault l.count i) (take l.input-index l.inputs) (drop l.input-index l.inputs)
