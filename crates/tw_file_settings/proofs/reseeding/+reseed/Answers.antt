use Rattle.std.proofs.Common.{◌≡◌, ◌∙◌, ◌++◌, ◌-◌, ap, arith, codes, drop, length, rules, take}
use Rattle.serde_json.specs.Data.{array}
use Rattle.serde_json.specs.View.{items_view, view}
use Rattle.tw_file_settings.specs.Members.{with_at}
use Rattle.tw_file_settings.specs.Reseeded.{component_reseeded, own_reseeded}
use Rattle.tw_file_settings.proofs.Seeds.{all_mapped, deeper, each_back, one_more, written_over}
use Rattle.tw_file_settings.proofs.reseeding.+reseed.Goals as goal

pub reseed_component-returns : goal.reseed_component-returns
reseed_component-returns t c =
    let models = items_view c.args.models.now in
    let d = own_reseeded models c.args.replication (view c.args.component.now) in
    let after = view c.put_components.new.model in
    let old = c.in-Some.parts.items in
    let new = c.reseed_each.new.components in
    let over : take c.in-Some.parts.len (new ++ drop (length new) old) ≡ new = written_over old new c.in-Some.parts.len (search rules) (search rules) in
    deeper models c.args.replication c.args.room (c.args.room - 1) (view c.args.component.now) after (omega arith)
    (each_back (component_reseeded models c.args.replication (c.args.room - 1)) d (view c.take_components.new.model) after old new
    (search rules) (search rules) (search rules)
    (c.in_ok-put_components.ensures ∙ ap (λ vs. with_at (codes "components") (array (items_view vs)) (view c.take_components.new.model)) over))

pub reseed_each-loop-component-preserved : goal.reseed_each-loop-component-preserved
reseed_each-loop-component-preserved t c =
    one_more (component_reseeded (items_view c.args.models.now) c.args.replication c.args.room) c.loop-component.components (items_view c.args.components.now)
    c.loop-component.component-index _ c.component-item.result c.reseed_component.new.component (omega arith) (search rules) c.loop-component.invariant (search rules)

pub reseed_each-returns : goal.reseed_each-returns
reseed_each-returns t c =
    c.loop-component.invariant
    ∙ all_mapped (component_reseeded (items_view c.args.models.now) c.args.replication c.args.room) c.args.components.now c.loop-component.component-index (search rules)
