-- Why a script gave no commands.
use Rattle.std.specs.Prelude.{◌≡◌, ◌⊎◌, ℕ, List, Some, None}
use Rattle.tw_engine.specs.declared.failed.Failed.{Failed}
use Rattle.tw_engine.specs.declared.failed.Failed.TheVariants.{Bad, Want}
use Rattle.tw_script.specs.Scripts.{IsRefusedFor}
use Rattle.tw_script.specs.declared.refused.ScriptRefused.TheVariants.{TooMany, BadLine}
use Rattle.tw_vtime.specs.declared.refusal.Refusal.TheVariants as refusal

abbrev pub HasNoCommands : List (List ℕ) → List ℕ → Failed → Type 0
HasNoCommands names script why =
    (why ≡ Want refusal.OutOfMemory)
    ⊎ ((why ≡ Bad refusal.TooMany None) × IsRefusedFor names script TooMany)
    ⊎ ((line : ℕ) × (why ≡ Bad refusal.BadScript (Some line)) × IsRefusedFor names script (BadLine line))
