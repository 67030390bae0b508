-- One kind behind the other.
use Rattle.std.proofs.Common.{◌∙◌, ◌++◌, [], ap, map}
use Rattle.serde_json.specs.View.{view}
use Rattle.tw_machine_file.specs.Seen.{machine}
use Rattle.tw_machine_warnings.specs.Machines.{machines_warnings}
use Rattle.tw_machine_warnings.specs.Warning.{warning}
use Rattle.tw_file_warnings.specs.Ports.{level_warnings}
use Rattle.tw_file_warnings.specs.StartViews.{start}
use Rattle.tw_file_warnings.specs.Starts.{same_starts, starts_within}
use Rattle.tw_file_warnings.specs.Warnings.{warnings_by}
use Rattle.tw_file_warnings.proofs.Each.{three_behind}
use Rattle.tw_file_warnings.proofs.file.warnings_by.Goals as goal

pub returns : goal.returns
unfolding warnings_by
returns c =
    let d = view c.args.file.now in
    let ms = map machine c.args.machines.now in
    let behind = map warning c.add_machines.new.warnings.items in
    three_behind (map warning c.new-warnings.result.items) behind (map warning c.add_same.new.warnings.items) (map warning c.add_level.new.warnings.items)
    (machines_warnings d 0 ms) (same_starts [] (starts_within ms 64 [] [] d)) (level_warnings ms 64 [] [] d)
    (ap (map warning) c.new-warnings.ensures.items)
    c.in_ok-add_machines.ensures
    (c.in_ok-add_same.ensures ∙ ap (λ ss. behind ++ same_starts [] ss) (ap (map start) c.deref.ensures.value ∙ c.in_ok-starts.ensures))
    c.in_ok-add_level.ensures
