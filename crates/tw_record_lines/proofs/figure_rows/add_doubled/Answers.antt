use Rattle.std.proofs.Common.{◌++◌, ap, flat_map, map-id, string_bytes, sym, ◌∙◌}
use Rattle.std.proofs.lemmas.Iterator.{YieldsList-from_chars}
use Rattle.std.proofs.lemmas.Iterator.Consumers.{YieldsList-end}
use Rattle.tw_record_lines.specs.FigureRows.{doubled}
use Rattle.tw_record_lines.proofs.figure_rows.add_doubled.Goals as goal

pub returns : goal.returns
returns c =
    let end = YieldsList-end (YieldsList-from_chars c.args.text.now c.utf8.text cc) c.loop-letter.yielded _ c.loop-letter.yielded_by _ _ c.in-None.is c.next.ensures.steps in
    c.loop-letter.invariant ∙ ap (λ letters. string_bytes c.args.line.now ++ flat_map doubled letters) (sym (map-id c.loop-letter.yielded) ∙ end.0)
