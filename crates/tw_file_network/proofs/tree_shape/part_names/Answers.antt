use Rattle.std.proofs.Common.{◌+◌, ◌++◌, ◌∷◌, [], ◌∙◌, ap, sym, drop, map, string_bytes}
use Rattle.std.proofs.lemmas.List.{map-append, at_drop_all, append-nil}
use Rattle.tw_nested.specs.Tree.{parts_of}
use Rattle.tw_file_network.specs.TreeShape.{part_names}
use Rattle.tw_file_network.proofs.PartsInOrder.{name_more}
use Rattle.tw_file_network.proofs.tree_shape.part_names.Goals as goal

pub loop-name-preserved : goal.loop-name-preserved
loop-name-preserved c =
    let done = map (λ n. n.now) c.loop-name.names.items in
    rw c.in_ok-push.ensures.items
    (c.loop-name.invariant
    ∙ name_more c.args.parts.now done c.loop-name.name-index c.loop-name-item.result c.as_str.result.now c.loop-name-test.true (c.as_str.ensures.value ∙ ap (λ p. string_bytes p.0) c.loop-name-item.is)
    ∙ ap (λ l. l ++ part_names (parts_of (drop (c.loop-name.name-index + 1) c.args.parts.now))) (sym (map-append (λ n. n.now) c.loop-name.names.items (c.as_str.result ∷ []))))

pub returns : goal.returns
returns c =
    let done = map (λ n. n.now) c.loop-name.names.items in
    sym (c.loop-name.invariant ∙ at_drop_all (λ ps. done ++ part_names (parts_of ps)) c.args.parts.now c.loop-name.name-index c.loop-name-test.false ∙ append-nil done)
