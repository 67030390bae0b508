-- What installing a chain makes of an executive.
use Rattle.std.specs.Prelude.{◌≡◌, ℕ, Some, slice_get}
use Rattle.tw_atomic.specs.Atomic.{Meaning}
use Rattle.tw_exec.specs.Running.{Running}
use Rattle.tw_laws.specs.Chains.{steps_of_one}
use Rattle.tw_network.specs.Contents.{Contents, network_of}
use Rattle.tw_process.specs.Process.{start_of}
use Rattle.tw_actions.specs.declared.chain.Finished.{Finished}
use Rattle.tw_theory.specs.Chains.{Chain, Start}
use Rattle.tw_theory.specs.Contents.{Process}
use Rattle.tw_theory.specs.Executive.{replay}
use Rattle.tw_theory.specs.Installing.{IsInstalled}

-- what a chain of component c is worked out from, whose process is p: at most burst steps before a stamp
abbrev pub start_at : {M S : Type 0} → ℕ → ℕ → ℕ → Contents M → Process S → Start S
start_at before burst c n p = start_of before burst (record { network = n; component = c; process = p; floor = 0; spare = 0 })

-- its component's process made these steps of it and no others, and they are so many Step actions
pub record IsInstalledOn {M S : Type 0} (meaning : M → Meaning S) (chain : Chain M S) (old new : Running M S) (finished : Finished) : Type 0 where
  pub before : Process S
  pub after : Process S
  pub at : slice_get old.world.processes chain.run.start.component ≡ Some before
  pub made : IsInstalled (network_of meaning old.network) chain.run chain.cause before after finished
  pub steps : new ≡ record old { world = replay (network_of meaning old.network) old.until old.world (steps_of_one chain.run.start.component finished.installed) }
