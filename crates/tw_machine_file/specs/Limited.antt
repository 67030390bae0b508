-- A limit that is passed, as a fault of the file; want of memory is the same in both.
use Rattle.tw_machine_compiler.specs.declared.limits.BadMachine.{BadMachine}
use Rattle.tw_machine_compiler.specs.declared.limits.BadMachine.TheVariants as bad
use Rattle.tw_machine_file.specs.declared.fault.MachineFault.{MachineFault}
use Rattle.tw_machine_file.specs.declared.fault.MachineFault.TheVariants.{OutOfMemory, Limit}

abbrev pub limited : BadMachine → MachineFault
limited bad.OutOfMemory = OutOfMemory
limited b = Limit b
