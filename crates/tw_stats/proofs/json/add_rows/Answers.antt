-- One component more.
use Rattle.std.proofs.Common.{◌≡◌, ◌∙◌, ◌+◌, ◌++◌, [], List, codes, drop, map, nat_lt, string_bytes, ap, subst, if◌then◌else◌}
use Rattle.tw_stats.specs.Json.{row_json}
use Rattle.tw_stats.specs.Rows.{row}
use Rattle.tw_stats.specs.Strings.{with_commas}
use Rattle.tw_stats.specs.declared.rows.Row as rust
use Rattle.tw_stats.proofs.Joining.{adds_text, joined_from, rest_at}
use Rattle.tw_stats.proofs.json.add_rows.Goals as goal

pub loop-place-preserved : goal.loop-place-preserved
loop-place-preserved c =
    let rows = c.args.rows.now in
    let at = c.loop-place.place in
    let this = c.index-rows-place.result in
    let texts = λ (l : List rust.Row). map (row_json c.args.ticks) (map row l) in
    let old = string_bytes c.loop-place.text in
    let whole = string_bytes c.args.text.now ++ with_commas (texts rows) in
    let new : string_bytes c.add_row.new.text ≡ (old ++ (if nat_lt 0 at then codes "," else [])) ++ row_json c.args.ticks (row this) =
    c.in_ok-add_row.ensures ∙ ap (λ l. l ++ row_json c.args.ticks (row this)) c.in_ok-add_comma.ensures in
    adds_text (codes ",") at (row_json c.args.ticks (row this)) old (string_bytes c.add_row.new.text) whole (texts (drop (at + 1) rows)) new
    (subst (λ l. old ++ joined_from (codes ",") (nat_lt 0 at) (texts l) ≡ whole) (rest_at rows at this c.loop-place-test.true c.index-rows-place.is) c.loop-place.invariant)
