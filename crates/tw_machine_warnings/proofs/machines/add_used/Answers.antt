-- A machine's name is the text that it lends.
use Rattle.std.proofs.Common.{◌≡◌, ◌++◌, ℕ, List, map, subst}
use Rattle.std.specs.Prelude.{OnOk}
use Rattle.serde_json.specs.View.{view}
use Rattle.tw_machine_declaration.specs.Seen.{declaration}
use Rattle.tw_machine_warnings.specs.Machines.{named_warnings}
use Rattle.tw_machine_warnings.specs.Warning.{warning}
use Rattle.tw_machine_warnings.proofs.machines.add_used.Goals as goal

pub returns : goal.returns
returns c =
    subst (λ (name : List ℕ). OnOk c.add_named.result (map warning c.add_named.new.warnings.items
    ≡ map warning c.args.warnings.now.items ++ named_warnings (view c.args.file.now) c.args.index name (declaration c.args.one.now.declaration)))
    c.as_str-name.ensures.value c.add_named.ensures
