use Rattle.std.proofs.Common.{◌∷◌, [], ◌++◌, map, ap, ap₂, sym, ◌∙◌, arith}
use Rattle.std.proofs.lemmas.List.{map_push, take_more}
use Rattle.tw_fossils.proofs.merging.as_slices.Goals as goal

pub loop-column-preserved : goal.loop-column-preserved
loop-column-preserved c =
    let i = c.loop-column.column-index in
    let columns = c.args.columns.now in
    let column = c.column-item.result in
    record {
      all = ap (map (λ rs. rs.now)) c.push_reserved.ensures.items
          ∙ map_push (λ rs. rs.now) c.loop-column.slices.items c.records.result
          ∙ ap₂ (λ l rs. l ++ rs ∷ []) c.loop-column.invariant.all (c.records.ensures ∙ c.column-item.is)
          ∙ sym (take_more columns i column c.loop-column-test.true);
      len = omega (arith, c.push_reserved.ensures.len, c.loop-column.invariant.len);
      places = omega (arith, c.push_reserved.ensures.capacity, c.loop-column.invariant.places);
    }
