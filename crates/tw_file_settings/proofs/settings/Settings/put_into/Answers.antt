use Rattle.std.proofs.Common.{◌≡◌, Some, rules}
use Rattle.serde_json.specs.View.{view}
use Rattle.tw_file_settings.specs.Set.{set}
use Rattle.tw_file_settings.proofs.Depth.{set_depth}
use Rattle.tw_file_settings.proofs.settings.Settings.put_into.Goals as goal

pub returns-clause-nests : goal.returns-clause-nests
returns-clause-nests c =
    let is : set c.args.self.now (view c.args.file.now) ≡ Some (view c.reseed.new.file) = search rules in
    set_depth c.args.self.now (view c.args.file.now) (view c.reseed.new.file) is
