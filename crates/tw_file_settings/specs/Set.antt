-- The JSON value of a network's file with other numbers.
--     all_assigned given d      with the numbers of assignments, one after another, if there are such parameters
--     set s d      with these, and then the seeds of a replication
use Rattle.std.specs.Prelude.{List, [], ◌∷◌, Option, Some, option_and_then, option_map}
use Rattle.serde_json.specs.Data.{Data}
use Rattle.serde_json.specs.View.{number_view}
use Rattle.tw_file_settings.specs.Assigned.{assigned}
use Rattle.tw_file_settings.specs.Reseeded.{reseeded}
use Rattle.tw_file_settings.specs.declared.assignment.Assignment.{Assignment}
use Rattle.tw_file_settings.specs.declared.settings.Settings.{Settings}

abbrev pub all_assigned : List Assignment → Data → Option Data
all_assigned [] d = Some d
all_assigned (a ∷ given) d = option_and_then (all_assigned given) (assigned a.target.now (number_view a.number) d)

abbrev pub set : Settings → Data → Option Data
set s d = option_map (reseeded s.replication) (all_assigned s.assignments.items d)
