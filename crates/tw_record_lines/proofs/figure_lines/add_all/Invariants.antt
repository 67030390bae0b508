-- What has come and what is to come.
use Rattle.std.proofs.Common.{◌≡◌, ◌++◌, drop, map, string_bytes}
use Rattle.tw_record_lines.specs.FigureTables.{table_of}
use Rattle.tw_record_lines.specs.Gathering.{rows_with}
use Rattle.tw_record_lines.proofs.figure_lines.add_all.Given as goal

abbrev pub invariant-loop-component : goal.invariant-loop-component
invariant-loop-component g l =
    let t = table_of (g.N.Names.name_of l.table.names.now) l.table.labels.now l.table.shown.now l.table.from in
    string_bytes l.text ++ rows_with t l.component (map (λ v. v.items) (drop l.component l.values)) ≡ string_bytes l.fn.text ++ rows_with t 0 (map (λ v. v.items) l.values)
