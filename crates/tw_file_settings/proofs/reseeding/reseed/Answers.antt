use Rattle.std.proofs.Common.{◌≡◌, ◌∙◌, ◌++◌, ap, codes, drop, length, rules, take}
use Rattle.serde_json.specs.Data.{array, null}
use Rattle.serde_json.specs.View.{items_view, view}
use Rattle.tw_file_settings.specs.Members.{items_at, with_at}
use Rattle.tw_file_settings.specs.Reseeded.{component_reseeded, items_map}
use Rattle.tw_file_settings.proofs.Seeds.{each_back, same_models, whole_file, written_over}
use Rattle.tw_file_settings.proofs.reseeding.reseed.Goals as goal

pub returns : goal.returns
returns c =
    let d = view c.args.file.now in
    let models = items_at (codes "models") d in
    let after = view c.put_components.new.model in
    let old = c.in-Some.components.items in
    let new = c.reseed_each.new.components in
    let left : view c.take_components.new.model ≡ with_at (codes "components") null d = search rules in
    let same : items_view c.items_at-models.result.now ≡ models = c.items_at-models.ensures ∙ ap (items_at (codes "models")) left ∙ same_models d in
    let each : items_view new ≡ items_map (component_reseeded (items_view c.items_at-models.result.now) c.args.replication 63) (items_view old) = search rules in
    let all : items_view new ≡ items_map (component_reseeded models c.args.replication 63) (items_view old) =
    each ∙ ap (λ ms. items_map (component_reseeded ms c.args.replication 63) (items_view old)) same in
    let over : take c.in-Some.components.len (new ++ drop (length new) old) ≡ new = written_over old new c.in-Some.components.len (search rules) (search rules) in
    whole_file c.args.replication d after (search rules)
    (each_back (component_reseeded models c.args.replication 63) d (view c.take_components.new.model) after old new
    (search rules) all left
    (c.in_ok-put_components.ensures ∙ ap (λ vs. with_at (codes "components") (array (items_view vs)) (view c.take_components.new.model)) over))
