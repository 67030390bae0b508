-- What a check of a network file writes, and how it ends.
--     count_text n      what the network n has, in a line
--     warnings_in bytes      what is odd about the file of these bytes
--     check_text n warnings      the line of what the network n has, and one for each of these warnings
--     IsCheck bytes strict end old new      how a check of a file ends, and what is then written
use Rattle.std.specs.Option.{option_map_or}
use Rattle.std.specs.Prelude.{◌≡◌, ◌≢◌, ◌⊎◌, ◌++◌, ℕ, Bool, true, List, [], Option, None, Ok, Err, codes, length}
use Rattle.std.specs.Result.{result_ok}
use Rattle.std.specs.Fmt.{decimal}
use Rattle.std.specs.Io.KnownBytes.{Appends, Keeps}
use Rattle.tw_any_model.specs.declared.any_model.AnyModel.{AnyModel}
use Rattle.tw_network.specs.Contents.{Contents}
use Rattle.tw_vtime.specs.declared.refusal.Refusal.{Refusal}
use Rattle.tw_vtime.specs.declared.refusal.Refusal.TheVariants as refusal
use Rattle.tw_file_faults.specs.Lines.{HasNoLineEnd}
use Rattle.tw_file_network.specs.Meaning.{json_of}
use Rattle.tw_file_network.specs.Refused.{file_refusal}
use Rattle.tw_file_network.specs.TreeMeaning.{IsFault}
use Rattle.tw_file_network.specs.declared.refused.FileRefused.{FileRefused}
use Rattle.tw_file_network.specs.declared.refused.FileRefused.TheVariants.{OutOfMemory}
use Rattle.tw_file_warnings.specs.Warnings.{warnings_of}
use Rattle.tw_machine_warnings.specs.Warning.{Warning, lines_of}
use Rattle.tw_engine.specs.Ends.{PlainEnd}
use Rattle.tw_engine.specs.Runs.{Means}
use Rattle.tw_engine.specs.declared.failed.Failed.{Failed}
use Rattle.tw_engine.specs.declared.failed.Failed.TheVariants.{Bad, Want, NoWrite}

-- how many components, couplings and inputs, of a tree those of its flat network
abbrev pub count_text : Contents AnyModel → List ℕ
count_text n =
    codes "ok: " ++ (decimal (length n.models) ++ (codes " components, "
    ++ (decimal (length n.couplings) ++ (codes " couplings, "
    ++ (decimal (length n.inputs) ++ codes " inputs\n")))))

-- what is odd about a file: of bytes that are no JSON there is nothing to say
unfoldable pub warnings_in : List ℕ → List Warning
warnings_in bytes = option_map_or warnings_of (result_ok (json_of bytes)) []

abbrev pub check_text : Contents AnyModel → List Warning → List ℕ
check_text n warnings = count_text n ++ lines_of warnings

-- one line of some words is written
abbrev pub AppendsLine : Option (List ℕ) → Option (List ℕ) → Type 0
AppendsLine old new = (words : List ℕ) × HasNoLineEnd words × Appends old new (words ++ codes "\n")

-- the number is the first fault of the file
abbrev pub IsAtFault : List ℕ → Refusal → Option ℕ → Option (List ℕ) → Option (List ℕ) → Type 0
IsAtFault bytes why line old new =
    ((fault : FileRefused) × IsFault bytes fault × (why ≡ file_refusal fault)) × (line ≡ None) × AppendsLine old new

-- where the check is strict, a file with warnings is refused by 21 behind them
abbrev pub IsTooOdd : Bool → List Warning → Refusal → Option ℕ → Type 0
IsTooOdd strict warnings why line = (strict ≡ true) × (warnings ≢ []) × (why ≡ refusal.BadShape) × (line ≡ None)

-- what a network has is written, and what is odd about its file
abbrev pub IsWarned : Contents AnyModel → List Warning → Bool → PlainEnd → Option (List ℕ) → Option (List ℕ) → Type 0
IsWarned n warnings strict (Ok done) old new = (strict ≡ true → warnings ≡ []) × Appends old new (check_text n warnings)
IsWarned n warnings strict (Err (Bad why line)) old new = IsTooOdd strict warnings why line × Appends old new (check_text n warnings)
IsWarned n warnings strict (Err (Want why)) old new = (why ≡ refusal.OutOfMemory) × Keeps old new
IsWarned n warnings strict (Err NoWrite) old new = Unit {0}

abbrev pub IsCheck : List ℕ → Bool → PlainEnd → Option (List ℕ) → Option (List ℕ) → Type 0
IsCheck bytes strict (Ok done) old new = Means bytes (λ n. IsWarned n (warnings_in bytes) strict (Ok done) old new)
IsCheck bytes strict (Err (Bad why line)) old new =
    IsAtFault bytes why line old new ⊎ Means bytes (λ n. IsWarned n (warnings_in bytes) strict (Err (Bad why line)) old new)
IsCheck bytes strict (Err (Want why)) old new = (why ≡ refusal.OutOfMemory) × Keeps old new
IsCheck bytes strict (Err NoWrite) old new = Unit {0}

-- ---- its parts

-- what is told of a fault
abbrev pub IsTold : FileRefused → Failed → Option (List ℕ) → Option (List ℕ) → Type 0
IsTold fault why old new =
    (why ≡ NoWrite)
    ⊎ ((why ≡ Want refusal.OutOfMemory) × Keeps old new)
    ⊎ ((fault ≢ OutOfMemory) × (why ≡ Bad (file_refusal fault) None) × AppendsLine old new)
