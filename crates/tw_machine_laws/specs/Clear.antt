-- What `clear q` does, which the core says by the room of the queue.
use Rattle.std.specs.Prelude.{◌≡◌, ℕ, ◌≤◌, []}
use Rattle.tw_machine.specs.Memory.{MemoryValue, queue, with_queue}
use Rattle.tw_machine.specs.Running.{cleared}
use Rattle.tw_machine.specs.Fits.{FitsMemory}

-- as many values as a queue has room for leave its front: no value is left
abbrev pub ClearLaw : Type 0
ClearLaw = (m : MemoryValue) (q room : ℕ) → FitsMemory m → (queue m q).room ≤ room → cleared q room m ≡ with_queue m q []
