-- One component more.
use Rattle.std.proofs.Common.{◌+◌, ◌++◌, ℕ, List, drop, map}
use Rattle.serde_json.specs.Data.{Data}
use Rattle.serde_json.specs.View.{view, items_view}
use Rattle.tw_machine_file.specs.Seen.{machine}
use Rattle.tw_file_warnings.specs.Places.{component_place, of_each, path_in, prefix_in}
use Rattle.tw_file_warnings.specs.StartViews.{start}
use Rattle.tw_file_warnings.specs.Starts.{Start, own_start, starts_within}
use Rattle.tw_file_warnings.proofs.Each.{each_more, one_more}
use Rattle.tw_file_warnings.proofs.starts.+starts.Goals as goal

pub add_all-loop-index-preserved : goal.add_all-loop-index-preserved
add_all-loop-index-preserved t c =
    let ms = map machine c.args.machines.now in
    let path = c.args.level.path.now in
    let prefix = c.args.level.prefix.now in
    let f : ℕ → Data → List Start = λ i k. own_start ms (component_place path prefix i k) k ++ starts_within ms c.args.level.room (path_in path i) (prefix_in prefix k) k in
    let vs = c.items_in-components.result.now in
    let i = c.loop-index.index in
    let v = c.index-components-index.result in
    let said = map start c.loop-index.starts.items in
    one_more said (f i (view v)) (map start c.add_component.new.starts.items) (of_each f (i + 1) (items_view (drop (i + 1) vs))) (of_each f i (items_view (drop i vs)))
    (map start c.args.starts.now.items ++ of_each f 0 (items_view vs))
    c.in_ok-add_component.ensures (each_more f vs i v c.loop-index-test.true c.index-components-index.is) c.loop-index.invariant
