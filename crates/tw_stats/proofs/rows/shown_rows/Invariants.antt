use Rattle.std.proofs.Common.{◌≡◌, map}
use Rattle.std.specs.Prelude.{Bool, filter}
use Rattle.tw_stats.specs.Rows.{Row, row}
use Rattle.tw_stats.specs.declared.rows.Row as rust
use Rattle.tw_stats.proofs.rows.shown_rows.Given as goal

abbrev pub invariant-loop-row : goal.invariant-loop-row
invariant-loop-row l =
    map row l.kept.items
    ≡ map (λ (x : Row × Bool). x.0) (filter (λ (x : Row × Bool). x.1) (map (λ (q : rust.Row × Bool). (row q.0, q.1)) (map (λ p. (p.0, p.1.now)) l.yielded)))
