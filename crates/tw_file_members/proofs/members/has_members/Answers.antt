use Rattle.std.proofs.Common.{◌∙◌, ap, sym}
use Rattle.std.specs.Prelude.{◌==◌, false}
use Rattle.std.specs.Option.{option_map_or}
use Rattle.serde_json.specs.Events.{members_len}
use Rattle.serde_json.proofs.Views.{members_len-members_view}
use Rattle.tw_file_members.proofs.members.has_members.Goals as goal

pub returns-in-Some : goal.returns-in-Some
returns-in-Some c =
    ap (λ len. len == c.args.count) (c.len.ensures.len ∙ sym (members_len-members_view _))
    ∙ ap (λ o. option_map_or (λ x. members_len x == c.args.count) o false) c.in-Some.ensures
