-- How a picture ends, and when nothing is written. What is drawn is told by tests.
--     IsGraphed bytes end old new      the graph of the network that a file's bytes mean
--     IsViewDrawn bytes until end old new      the picture of the run of the network that a file's bytes mean
--     IsWarpDrawn driver bytes until end script old new      that of a run of Time Warp, with what drives it
use Rattle.std.specs.Prelude.{◌≡◌, ◌⊎◌, ℕ, List, Option, None, Some, IfSome, Ok, Err, ⊤}
use Rattle.std.specs.Io.KnownBytes.{Keeps}
use Rattle.tw_any_model.specs.declared.any_model.AnyModel.{AnyModel}
use Rattle.tw_engine.specs.Ends.{Fails, PlainEnd, ViewEnd}
use Rattle.tw_engine.specs.Runs.{HasNoNetwork, IsCause, IsLate, IsUnread, Means, run_fault}
use Rattle.tw_engine.specs.Views.{IsLineOf}
use Rattle.tw_engine.specs.declared.failed.Failed.TheVariants.{Bad, Want, NoWrite}
use Rattle.tw_cli.specs.declared.driving.Driver.{Driver}
use Rattle.tw_cli.specs.declared.driving.Driver.TheVariants.{Script, Seed}
use Rattle.tw_network.specs.Contents.{Contents}
use Rattle.tw_script.specs.Scripts.{IsRefusedFor, IsScript}
use Rattle.tw_script.specs.declared.command.Command.{Command}
use Rattle.tw_script.specs.declared.refused.ScriptRefused.TheVariants.{TooMany, BadLine}
use Rattle.tw_vtime.specs.declared.refusal.Refusal.TheVariants as refusal

-- ---- of a network

-- where memory is wanting nothing is written
abbrev pub IsGraphedOf : PlainEnd → Option (List ℕ) → Option (List ℕ) → Type 0
IsGraphedOf (Ok done) old new = Unit {0}
IsGraphedOf (Err (Bad why line)) old new = ⊥
IsGraphedOf (Err (Want why)) old new = (why ≡ refusal.OutOfMemory) × Keeps old new
IsGraphedOf (Err NoWrite) old new = Unit {0}

abbrev pub IsGraphed : List ℕ → PlainEnd → Option (List ℕ) → Option (List ℕ) → Type 0
IsGraphed bytes end old new = (Fails end (HasNoNetwork bytes) × Keeps old new) ⊎ Means bytes (λ n. IsGraphedOf end old new)

-- ---- of a sequential run

-- a picture that ends before the fault is done; a name that is none is 15
abbrev pub IsViewDrawnOf : Contents AnyModel → ℕ → ViewEnd → Option (List ℕ) → Option (List ℕ) → Type 0
IsViewDrawnOf n until (Ok None) old new = Unit {0}
IsViewDrawnOf n until (Ok (Some line)) old new = IsLineOf n (run_fault n until) (Some line)
IsViewDrawnOf n until (Err (Bad why line)) old new = (IsLate until (Bad why line) ⊎ (Bad why line ≡ Bad refusal.NoSuch None)) × Keeps old new
IsViewDrawnOf n until (Err (Want why)) old new = why ≡ refusal.OutOfMemory
IsViewDrawnOf n until (Err NoWrite) old new = Unit {0}

abbrev pub IsViewDrawn : List ℕ → ℕ → ViewEnd → Option (List ℕ) → Option (List ℕ) → Type 0
IsViewDrawn bytes until end old new = (Fails end (HasNoNetwork bytes) × Keeps old new) ⊎ Means bytes (λ n. IsViewDrawnOf n until end old new)

-- ---- of a run of Time Warp, which has no line of a fault

-- by a script that says commands to the network; where memory is wanting nothing is written
abbrev pub IsScriptDrawn : List ℕ → List ℕ → ℕ → ViewEnd → Option (List ℕ) → Option (List ℕ) → Type 0
IsScriptDrawn bytes script until (Ok line) old new = (line ≡ None) × Means bytes (λ n. (commands : List Command) × IsScript n.names script commands)
IsScriptDrawn bytes script until (Err (Bad why None)) old new = Keeps old new × (IsCause bytes until why ⊎ Means bytes (λ n. (why ≡ refusal.TooMany) × IsRefusedFor n.names script TooMany))
IsScriptDrawn bytes script until (Err (Bad why (Some line))) old new = Keeps old new × (why ≡ refusal.BadScript) × Means bytes (λ n. IsRefusedFor n.names script (BadLine line))
IsScriptDrawn bytes script until (Err (Want why)) old new = (why ≡ refusal.OutOfMemory) × Keeps old new
IsScriptDrawn bytes script until (Err NoWrite) old new = Unit {0}

-- the network's file is at fault, and nothing is written; or it means a network, and no byte of the script is known to be read (19), or these
abbrev pub IsScriptDrawnBy : List ℕ → ℕ → ViewEnd → Option (List ℕ) → Option (List ℕ) → Option (List ℕ) → Type 0
IsScriptDrawnBy bytes until end script old new =
    (Fails end (HasNoNetwork bytes) × Keeps old new)
    ⊎ Means bytes (λ n. IsUnread end old new ⊎ IfSome script (λ lines. IsScriptDrawn bytes lines until end old new))

abbrev pub IsSeedDrawn : List ℕ → ℕ → ViewEnd → Option (List ℕ) → Option (List ℕ) → Type 0
IsSeedDrawn bytes until (Ok line) old new = (line ≡ None) × Means bytes (λ n. ⊤)
IsSeedDrawn bytes until (Err (Bad why line)) old new = Keeps old new × (line ≡ None) × IsCause bytes until why
IsSeedDrawn bytes until (Err (Want why)) old new = (why ≡ refusal.OutOfMemory) × Keeps old new
IsSeedDrawn bytes until (Err NoWrite) old new = Unit {0}

abbrev pub IsWarpDrawn : Driver → List ℕ → ℕ → ViewEnd → Option (List ℕ) → Option (List ℕ) → Option (List ℕ) → Type 0
IsWarpDrawn (Script path) bytes until end script old new = IsScriptDrawnBy bytes until end script old new
IsWarpDrawn (Seed seed steps) bytes until end script old new = IsSeedDrawn bytes until end old new
