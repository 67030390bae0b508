use Rattle.std.proofs.Common.{◌≡◌, drop}
use Rattle.std.specs.List.{list_any}
use Rattle.tw_record_lines.specs.FigureRows.{needs_quotes}
use Rattle.tw_record_lines.proofs.figure_rows.needs_quotes.Given as goal

-- none has come
abbrev pub invariant-loop-byte : goal.invariant-loop-byte
invariant-loop-byte l = list_any needs_quotes (drop l.byte-index l.text) ≡ list_any needs_quotes l.text
