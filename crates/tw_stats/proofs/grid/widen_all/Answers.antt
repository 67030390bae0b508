-- Column by column.
use Rattle.std.proofs.Common.{◌∙◌, [], get_or, length, map, string_bytes, sym, ap, arith}
use Rattle.std.proofs.lemmas.List.{get_or-map, get_or_past, length-map}
use Rattle.std.proofs.lemmas.Str.{chars-nil}
use Rattle.tw_stats.specs.Grids.{letters}
use Rattle.tw_stats.proofs.Widths.{all_wider, one_wider}
use Rattle.tw_stats.proofs.grid.widen_all.Goals as goal

pub loop-column-preserved : goal.loop-column-preserved
loop-column-preserved c =
    let line = c.args.line.now in
    let at = c.loop-column.column in
    let cell = c.index-line-column.result in
    record {
      far = (let longer = c.in_ok-widen.ensures.longer in omega (arith, longer));
      each = λ k. one_wider (get_or c.args.widths.now.items k 0) (get_or c.loop-column.widths.items k 0) (get_or c.widen.new.widths.items k 0)
          (letters (get_or (map string_bytes line) k [])) c.letters.result k at (c.loop-column.invariant.each k) (c.in_ok-widen.ensures.width k)
          (λ same. c.letters.ensures ∙ ap letters (c.as_str.ensures.value ∙ ap string_bytes c.index-line-column.is ∙ sym (get_or-map string_bytes line at cell [] c.loop-column-test.true)
          ∙ ap (λ n. get_or (map string_bytes line) n []) (sym same)));
    }

pub returns : goal.returns
returns c k =
    let line = c.args.line.now in
    let size = length-map line string_bytes in
    let ended = c.loop-column-test.false in
    all_wider (get_or c.args.widths.now.items k 0) (get_or c.loop-column.widths.items k 0) (letters (get_or (map string_bytes line) k [])) k c.loop-column.column (c.loop-column.invariant.each k)
    (λ past. ap letters (get_or_past (map string_bytes line) k [] (omega (arith, size, past, ended))) ∙ ap length chars-nil)
