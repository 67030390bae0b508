use Rattle.std.proofs.Common.{◌∙◌, ap, sym, length}
use Rattle.std.specs.Prelude.{◌==◌, false}
use Rattle.std.specs.Option.{option_map_or}
use Rattle.serde_json.specs.Events.{items_len}
use Rattle.serde_json.proofs.Views.{items_len-items_view}
use Rattle.tw_file_members.proofs.members.has_items.Goals as goal

pub returns-in-Some : goal.returns-in-Some
returns-in-Some c =
    ap (λ len. len == c.args.count) (ap length c.as_slice.ensures.value ∙ sym (items_len-items_view _))
    ∙ ap (λ o. option_map_or (λ x. items_len x == c.args.count) o false) c.in-Some.ensures
