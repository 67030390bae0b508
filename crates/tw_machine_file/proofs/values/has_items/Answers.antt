use Rattle.std.proofs.Common.{ap, sym}
use Rattle.std.specs.Prelude.{◌==◌}
use Rattle.serde_json.proofs.Views.{items_len-items_view}
use Rattle.tw_machine_file.proofs.values.has_items.Goals as goal

pub returns : goal.returns
returns c = ap (λ n. n == c.args.count) (sym (items_len-items_view c.args.values.now))
