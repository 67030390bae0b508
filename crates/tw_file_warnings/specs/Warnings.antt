-- The warnings of a file: of its machines in order, then of the random numbers of its components in order, then of its components and couplings in order.
--     warnings_of d      of the file of this JSON value
use Rattle.std.specs.Prelude.{◌++◌, [], List, codes, option_and_then, unwrap_or}
use Rattle.std.specs.Result.{result_ok}
use Rattle.serde_json.specs.Data.{Data}
use Rattle.serde_json.specs.Find.{get}
use Rattle.tw_machine_file.specs.Machines.{machines_in}
use Rattle.tw_machine_file.specs.Seen.{Machine}
use Rattle.tw_machine_warnings.specs.Machines.{machines_warnings}
use Rattle.tw_machine_warnings.specs.Warning.{Warning}
use Rattle.tw_file_warnings.specs.Ports.{level_warnings}
use Rattle.tw_file_warnings.specs.Starts.{same_starts, starts_within}

-- the machines that it declares; none where one of them is refused
abbrev pub machines_said : Data → List Machine
machines_said d = unwrap_or (option_and_then (λ models. result_ok (machines_in d models)) (get (codes "models") d)) []

unfoldable pub warnings_by : Data → List Machine → List Warning
warnings_by d machines =
    machines_warnings d 0 machines ++ (same_starts [] (starts_within machines 64 [] [] d) ++ level_warnings machines 64 [] [] d)

abbrev pub warnings_of : Data → List Warning
warnings_of d = warnings_by d (machines_said d)
