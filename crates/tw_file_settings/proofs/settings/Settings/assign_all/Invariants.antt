use Rattle.std.proofs.Common.{◌≡◌, drop}
use Rattle.serde_json.specs.View.{view}
use Rattle.tw_file_settings.specs.Set.{all_assigned}
use Rattle.tw_file_settings.proofs.settings.Settings.assign_all.Given as goal

-- what is still to be assigned
abbrev pub invariant-loop-assignment : goal.invariant-loop-assignment
invariant-loop-assignment l =
    all_assigned (drop l.assignment-index l.self.assignments.items) (view l.file) ≡ all_assigned l.self.assignments.items (view l.fn.file)
