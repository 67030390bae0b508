-- One component more.
use Rattle.std.proofs.Common.{◌+◌, ◌++◌, ℕ, List, drop, map}
use Rattle.serde_json.specs.Data.{Data}
use Rattle.serde_json.specs.View.{view, items_view}
use Rattle.tw_machine_file.specs.Seen.{machine}
use Rattle.tw_machine_warnings.specs.Warning.{Warning, warning}
use Rattle.tw_file_warnings.specs.Places.{component_place, of_each, path_in, prefix_in}
use Rattle.tw_file_warnings.specs.Ports.{level_warnings, loose_warnings}
use Rattle.tw_file_warnings.proofs.Each.{each_more, one_more}
use Rattle.tw_file_warnings.proofs.ports.+levels.Goals as goal

pub add_components-loop-index-preserved : goal.add_components-loop-index-preserved
add_components-loop-index-preserved t c =
    let ms = map machine c.args.machines.now in
    let d = view c.args.level.model.now in
    let path = c.args.level.path.now in
    let prefix = c.args.level.prefix.now in
    let f : ℕ → Data → List Warning = λ i k. loose_warnings ms d (component_place path prefix i k) k ++ level_warnings ms c.args.level.room (path_in path i) (prefix_in prefix k) k in
    let vs = c.items_in-components.result.now in
    let i = c.loop-index.index in
    let v = c.index-components-index.result in
    let said = map warning c.loop-index.warnings.items in
    one_more said (f i (view v)) (map warning c.add_component.new.warnings.items) (of_each f (i + 1) (items_view (drop (i + 1) vs))) (of_each f i (items_view (drop i vs)))
    (map warning c.args.warnings.now.items ++ of_each f 0 (items_view vs))
    c.in_ok-add_component.ensures (each_more f vs i v c.loop-index-test.true c.index-components-index.is) c.loop-index.invariant
